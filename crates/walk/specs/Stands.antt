-- What a run of rows asks, and what it is.
use Rattle.std.specs.Prelude.{ℕ, ◌-◌, ◌*◌, ◌≤◌, List, ◌≡◌, length}
use Rattle.reading.specs.Room.{Room, exec}
use Rattle.syntax.specs.Records.{outcome}
use Rattle.syntax.specs.Cursors.{Progress}
use Rattle.slots.specs.Held.{Bins}
use Rattle.cells.specs.Cells.{State}
use Rattle.rows.specs.Syntax.{Block, turns, meaning}
use Rattle.rows.specs.Standing.{Stands, Table}
use Rattle.inputs.specs.Reads.{Right}

-- the rows of some block stand there, the frame ends within the data, and exponents and allocations are right
pub record Stand (s : List ℕ) (l : ℕ) (t : List ℕ) (b : Bins) (mem : List ℕ) (from to : ℕ) : Type 0 where
  pub what : Block
  pub stands : Stands t what from to
  pub table : Table t
  pub within : l ≤ 8 * length s
  pub right : Right mem b

-- a run of the rows for each number from i up to n is the tree of each block that they are
pub record Turned (s : List ℕ) (l : ℕ) (t : List ℕ) (from to i n k p q : ℕ) (st : State) (m : Room) (r : Progress) (st' : State) (m' : Room) (mem' : List ℕ) : Type 0 where
  pub runs : (b : Block) → Stands t b from to → outcome r st' m' ≡ exec s l (turns (n - i) i k (meaning b) st) p q m
  pub right : Right mem' st'.bins
