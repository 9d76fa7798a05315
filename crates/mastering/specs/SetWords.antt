-- WRITE MANY LOUDNESS WORDS OR NONE: in the frame at the beginning of a buffer each listed word is set to its value, and crc2 is put right. Nothing else differs.
-- The items are two lists side by side, places and values, as many as the shorter has. They are tested in order, and all before a bit changes.
use Rattle.std.specs.Prelude.{◌≡◌, Bool, false, cond, ◌||◌, List, ℕ, zero, suc, ◌-◌, min, leb, eqb, length, get_or, set}
use Rattle.reading.specs.Room.{Room, room, Out}
use Rattle.cells.specs.Cells.{State}
use Rattle.answer.specs.Answer.{answer_of}
use Rattle.answer.specs.declared.Answer.{Answer}
use Rattle.answer.specs.declared.Verdict.TheVariants.{Accepted}
use Rattle.eac3.specs.Called.{answered, Called}
use Rattle.words.specs.Words.{unfit_of}
use Rattle.crc.specs.Crc.{crc2, with_crc2}
use Rattle.mastering.specs.SetWord.{accepted_by, answer_with, worded}

-- the most items, which is the most such words of a frame (loudness/specs/Sixteen)
abbrev pub most_items : ℕ
most_items = 16

abbrev pub items_of : List ℕ → List ℕ → ℕ
items_of places values = min (length places) (length values)

-- one of the first t places is i
unfoldable pub listed : List ℕ → ℕ → ℕ → Bool
listed places zero i = false
listed places (suc t) i = eqb (get_or places t 0) i || listed places t i

-- what stands in the way of setting the item t to v, in a list of n records: 41, its place is beyond the list; 47, an earlier item lists its place; 42, the record there is not
-- one of the six; 43, the value is too wide; 0, nothing
unfoldable pub item_number : List ℕ → ℕ → List ℕ → ℕ → ℕ → ℕ
item_number names n places t v =
    cond (leb n (get_or places t 0)) 41
    (cond (listed places t (get_or places t 0)) 47
    (unfit_of (get_or names (get_or places t 0) 0) v))

-- of the first t items: the number of the first that has one
unfoldable pub number_to : List ℕ → ℕ → List ℕ → List ℕ → ℕ → ℕ
number_to names n places values zero = 0
number_to names n places values (suc t) = cond (eqb (number_to names n places values t) 0) (item_number names n places t (get_or values t 0)) (number_to names n places values t)

-- what stands in the way of all: 48, there are more than 16 items; the number of the first item that has one; 0, nothing
unfoldable pub words_number : List ℕ → ℕ → List ℕ → List ℕ → ℕ
words_number names n places values = cond (leb (suc most_items) (items_of places values)) 48 (number_to names n places values (items_of places values))

-- the buffer with the first t items set
unfoldable pub worded_to : List ℕ → List ℕ → List ℕ → List ℕ → List ℕ → ℕ → List ℕ
worded_to s names firsts places values zero = s
worded_to s names firsts places values (suc t) = worded (worded_to s names firsts places values t) names firsts (get_or places t 0) (get_or values t 0)

-- the values of a list with the first t items set
unfoldable pub values_to : List ℕ → List ℕ → List ℕ → ℕ → List ℕ
values_to held places values zero = held
values_to held places values (suc t) = set (values_to held places values t) (get_or places t 0) (get_or values t 0)

-- the buffer with all items set and the crc2 of its frame of b bytes; under a refusal k all stays
abbrev pub bytes_to : ℕ → List ℕ → List ℕ → List ℕ → ℕ → List ℕ → List ℕ → List ℕ
bytes_to k s names firsts b places values = cond (eqb k 0) (with_crc2 (worded_to s names firsts places values (items_of places values)) b) s

-- the values of the list of n records: the words', and that of its last record, crc2; likewise
abbrev pub held_to : ℕ → List ℕ → List ℕ → List ℕ → List ℕ → ℕ → ℕ → List ℕ → List ℕ → List ℕ
held_to k s names firsts held b n places values =
    cond (eqb k 0)
    (set (values_to held places values (items_of places values)) (n - 1) (crc2 (worded_to s names firsts places values (items_of places values)) b))
    held

-- a reading o of the buffer s, and then the items set: the reader's refusals come first and whole
module _ (s : List ℕ) (o : Out State) (places values : List ℕ) where
  abbrev pub number_set : ℕ
  number_set = words_number o.left.names o.count places values

  abbrev pub answer_all : Answer
  answer_all = cond (accepted_by (answer_of o).verdict) (answer_with (answer_of o) number_set o.count) (answer_of o)

  abbrev pub bytes_all : List ℕ
  bytes_all = cond (accepted_by (answer_of o).verdict) (bytes_to number_set s o.left.names o.left.firsts (answer_of o).frame.bytes.0 places values) s

  abbrev pub room_all : Room
  room_all =
      cond (accepted_by (answer_of o).verdict)
      (room o.left.names o.left.blocks o.left.indexes o.left.firsts o.left.widths
      (held_to number_set s o.left.names o.left.firsts o.left.values (answer_of o).frame.bytes.0 o.count places values))
      o.left

-- a call with the buffer s, the room m, the places and the values: the answer, the buffer and the room then
pub record WordsSet (s : List ℕ) (m : Room) (places values : List ℕ) (a : Answer) (s' : List ℕ) (m' : Room) : Type 0 where
  pub answer : a ≡ answer_all s (answered s m) places values
  pub bytes : s' ≡ bytes_all s (answered s m) places values
  pub left : m' ≡ room_all s (answered s m) places values
  -- where the answer is a frame, it is the new one: a call of the reader with the buffer as it then is gives this answer, and leaves this room
  pub again : a.verdict ≡ Accepted → Called s' m a m'
