-- What the parts of a frame tell, in the terms of the definition of a frame (reading/specs/Frame.antt).
use Rattle.std.specs.Prelude.{◌≡◌, List, ℕ, ◌-◌, ◌<◌, Ok, Err}
use Rattle.refusals.specs.Refusals.{number_of}
use Rattle.reading.specs.Run.{refused, Outcome, after}
use Rattle.reading.specs.Frame.{Format, headed, parse}
use Rattle.reading.specs.Room.{Room, size, cut, Out, got, into}
use Rattle.short_frames.specs.Tested.{tested}
use Rattle.syntax.specs.Records.{outcome}
use Rattle.syntax.specs.Cursors.{Progress}
use Rattle.syntax.specs.declared.Cursor.{Cursor}
use Rattle.slots.specs.Held.{Bins}
use Rattle.inputs.specs.Reads.{Right}
use Rattle.cells.specs.Cells.{State, state, cell_of}
use Rattle.cells.specs.Names.{FRMSIZ}
use Rattle.annex.specs.Frame.{eac3}
use Rattle.annex.specs.Table.{Annexed}
use Rattle.answer.specs.Answer.{answer_of}
use Rattle.answer.specs.declared.Answer.{Answer}

-- an outcome, at the room from the count n on
abbrev pub placed : ℕ → Room → Outcome State → Out State
placed n m o = into n m (cut (size m - n) o)

-- a reading followed by more: a refusal stays
unfoldable pub followed : Progress → State → Room → (State → ℕ → Outcome State) → Out State
followed (Ok c) st m f = placed c.count m (f st c.at.0)
followed (Err e) st m f = got (refused (number_of e.refusal)) e.at.0 e.count m

-- what follows the header asks: the rows of Annex E, exponents and allocations that are right, and a size that frmsiz can say
pub record Headed (t cells : List ℕ) (b : Bins) (mem : List ℕ) : Type 0 where
  pub annexed : Annexed t
  pub right : Right mem b
  pub small : cell_of cells FRMSIZ < 2048

-- what it tells, of frames up to the greatest: the frame after its header, with the cells that the body left
pub record Framed (greatest : ℕ) (s : List ℕ) (c : Cursor) (st : State) (m : Room) (r : Progress) (cells : List ℕ) (m' : Room) : Type 0 where
  pub bins : Bins
  pub is : outcome r (state cells bins) m' ≡ followed (Ok c) st m (tested greatest eac3 s)

-- a slice of 6 bytes or more
unfoldable pub read_of : ℕ → List ℕ → Outcome State
read_of greatest s = after (headed eac3 s) (tested greatest eac3 s)

-- a buffer read into the room: the definition's outcome, cut at it
abbrev pub read_by : Format State State → List ℕ → Room → Out State
read_by F s m = into 0 m (cut (size m) (parse F s))

-- what is then told: the answer, and the room
pub record ReadBy (F : Format State State) (s : List ℕ) (m : Room) (a : Answer) (m' : Room) : Type 0 where
  pub answer : a ≡ answer_of (read_by F s m)
  pub left : m' ≡ (read_by F s m).left
