-- A frame read with room for 2,048 records.
use Rattle.std.specs.Prelude.{◌≡◌, List, ℕ, ◌≤◌, pos, length, replicate}
use Rattle.reading.specs.Room.{Room, room, Out}
use Rattle.cells.specs.Cells.{State}
use Rattle.answer.specs.Answer.{answer_of}
use Rattle.eac3.specs.Called.{answered}
use Rattle.listing.specs.declared.Records.{Records}

-- n records, all 0
abbrev pub empty : ℕ → Room
empty n = room (replicate n 0) (replicate n (pos 0)) (replicate n (pos 0)) (replicate n 0) (replicate n 0) (replicate n 0)

-- a slice read with room for 2,048 records
abbrev pub read_of : List ℕ → Out State
read_of s = answered s (empty 2048)

-- an answer and its records are those of a slice
pub record ReadFrom (src : List ℕ) (r : Records) : Type 0 where
  pub answer : r.answer ≡ answer_of (read_of src)
  pub left : room r.names r.blocks r.indexes r.firsts r.widths r.values ≡ (read_of src).left

-- they are those of some slice, which no contract can name
pub record Read (r : Records) : Type 0 where
  pub src : List ℕ
  pub short : length src ≤ 4096
  pub «from» : ReadFrom src r
