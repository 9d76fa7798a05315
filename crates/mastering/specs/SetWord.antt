-- WRITE ONE LOUDNESS WORD: in the frame at the beginning of a buffer the word at a place of the list is set to a value, and crc2 is put right. The word and crc2
-- change, no other bit (words/specs/Written, crc/specs/Checked).
use Rattle.std.specs.Prelude.{◌≡◌, Bool, true, false, cond, List, ℕ, ◌-◌, leb, eqb, get_or, set}
use Rattle.reading.specs.Room.{Room, room, Out}
use Rattle.cells.specs.Cells.{State}
use Rattle.answer.specs.Answer.{place_at, nothing, answer_of}
use Rattle.answer.specs.declared.Answer.{Answer}
use Rattle.answer.specs.declared.Verdict.{Verdict}
use Rattle.answer.specs.declared.Verdict.TheVariants.{Accepted, Refused}
use Rattle.eac3.specs.Called.{answered, Called}
use Rattle.words.specs.Words.{width_of, unfit_of, with_word}
use Rattle.crc.specs.Crc.{crc2, with_crc2}

abbrev pub accepted_by : Verdict → Bool
accepted_by Accepted = true
accepted_by (Refused k p n) = false

-- what stands in the way of setting the word at the place i of a list of n records to v: 41, the place is beyond the list; 42, the record there is not one of
-- the six; 43, the value is too wide; 0, nothing
unfoldable pub word_number : List ℕ → ℕ → ℕ → ℕ → ℕ
word_number names n i v = cond (leb n i) 41 (unfit_of (get_or names i 0) v)

-- the answer of a reading; under one of these numbers k the refusal, at the place 0 after n records
abbrev pub answer_with : Answer → ℕ → ℕ → Answer
answer_with a k n = cond (eqb k 0) a (record { verdict = Refused k (place_at 0) n; frame = nothing })

-- the buffer s with the word at the place i set to v
abbrev pub worded : List ℕ → List ℕ → List ℕ → ℕ → ℕ → List ℕ
worded s names firsts i v = with_word s (get_or firsts i 0) (width_of (get_or names i 0)) v

-- and with the crc2 of its frame of b bytes; under a refusal all stays
abbrev pub bytes_with : ℕ → List ℕ → List ℕ → List ℕ → ℕ → ℕ → ℕ → List ℕ
bytes_with k s names firsts b i v = cond (eqb k 0) (with_crc2 (worded s names firsts i v) b) s

-- the values of the list: the word's, and that of its last record, crc2; likewise
abbrev pub values_with : ℕ → List ℕ → List ℕ → List ℕ → List ℕ → ℕ → ℕ → ℕ → ℕ → List ℕ
values_with k s names firsts values b n i v = cond (eqb k 0) (set (set values i v) (n - 1) (crc2 (worded s names firsts i v) b)) values

-- a reading o of the buffer s, and then the word at the place i set to v: the reader's refusals come first and whole
module _ (s : List ℕ) (o : Out State) (i v : ℕ) where
  abbrev pub number : ℕ
  number = word_number o.left.names o.count i v

  abbrev pub answer_set : Answer
  answer_set = cond (accepted_by (answer_of o).verdict) (answer_with (answer_of o) number o.count) (answer_of o)

  abbrev pub bytes_set : List ℕ
  bytes_set = cond (accepted_by (answer_of o).verdict) (bytes_with number s o.left.names o.left.firsts (answer_of o).frame.bytes.0 i v) s

  abbrev pub room_set : Room
  room_set =
      cond (accepted_by (answer_of o).verdict)
      (room o.left.names o.left.blocks o.left.indexes o.left.firsts o.left.widths
      (values_with number s o.left.names o.left.firsts o.left.values (answer_of o).frame.bytes.0 o.count i v))
      o.left

-- a call with the buffer s, the room m, the place i and the value v: the answer, the buffer and the room then
pub record WordSet (s : List ℕ) (m : Room) (i v : ℕ) (a : Answer) (s' : List ℕ) (m' : Room) : Type 0 where
  pub answer : a ≡ answer_set s (answered s m) i v
  pub bytes : s' ≡ bytes_set s (answered s m) i v
  pub left : m' ≡ room_set s (answered s m) i v
  -- where the answer is a frame, it is the new one: a call of the reader with the buffer as it then is gives this answer, and leaves this room
  pub again : a.verdict ≡ Accepted → Called s' m a m'
