-- A call of the reader, by the contract of its entry (crate eac3, `parse` and `parse_settop`), and the records that it left in the room.
use Rattle.std.specs.Prelude.{ℕ, ◌≡◌, List, pos, get_or}
use Rattle.reading.specs.Run.{Field}
use Rattle.reading.specs.Room.{Room}
use Rattle.reading.specs.Frame.{Format}
use Rattle.cells.specs.Cells.{State}
use Rattle.annex.specs.Frame.{eac3}
use Rattle.answer.specs.Answer.{place_at, count_of}
use Rattle.eac3.specs.Called.{CalledBy, settop}
use Rattle.answer.specs.declared.Answer.{Answer}
use Rattle.answer.specs.declared.Verdict.TheVariants.{Accepted, Refused}

-- a call of the entry for the format F with the slice s: the room that was lent, the answer, and the room then
pub record CallBy (F : Format State State) (s : List ℕ) : Type 0 where
  pub lent : Room
  pub answer : Answer
  pub left : Room
  pub called : CalledBy F s lent answer left

-- of the full entry, and of the settop entry
abbrev pub Call : List ℕ → Type 0
Call = CallBy eac3

abbrev pub SettopCall : List ℕ → Type 0
SettopCall = CallBy settop

-- the record at the place i of a room
unfoldable pub record_at : Room → ℕ → Field
record_at m i = record {
  name = get_or m.names i 0;
  block = get_or m.blocks i (pos 0);
  index = get_or m.indexes i (pos 0);
  first = get_or m.firsts i 0;
  width = get_or m.widths i 0;
  value = get_or m.values i 0;
}

module _ {F : Format State State} {s : List ℕ} where
  -- how many records there are, and each of them
  abbrev pub count : CallBy F s → ℕ
  count c = count_of c.answer

  abbrev pub nth : CallBy F s → ℕ → Field
  nth c i = record_at c.left i

  abbrev pub Accepts : CallBy F s → Type 0
  Accepts c = c.answer.verdict ≡ Accepted

  abbrev pub Refuses : CallBy F s → ℕ → ℕ → ℕ → Type 0
  Refuses c k p n = c.answer.verdict ≡ Refused k (place_at p) n
