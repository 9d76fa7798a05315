-- What a caller sees: the answer, its place, the number of records, and the room.
use Rattle.std.specs.Prelude.{ℕ, ◌*◌, min, List, Ok, Err, length, replicate}
use Rattle.reading.specs.Run.{Result, accepted, refused, run}
use Rattle.reading.specs.Room.{Room, cut, size, Out, got, into}
use Rattle.refusals.specs.Refusals.{number_of}
use Rattle.syntax.specs.Cursors.{Progress}
use Rattle.slots.specs.Held.{bins}
use Rattle.cells.specs.Cells.{State, state}
use Rattle.rows.specs.Syntax.{meaning}
use Rattle.toy.specs.Toy.{frame}

abbrev pub plain : Result State → Result (Unit {0})
plain (accepted st) = accepted tt
plain (refused k) = refused k

abbrev pub shown : Out State → Out (Unit {0})
shown o = got (plain o.result) o.place o.count o.left

abbrev pub answer : Progress → Room → Out (Unit {0})
answer (Ok c) m = got (accepted tt) c.at.0 c.count m
answer (Err e) m = got (refused (number_of e.refusal)) e.at.0 e.count m

-- a frame ends with the data, at most 4,096 bytes after its start
abbrev pub limit_of : List ℕ → ℕ
limit_of s = 8 * min (length s) 4096

abbrev pub start : State
start = state (replicate 1024 0) (bins (replicate 1792 0) (replicate 1792 0))

-- the syntax's tree, run on the data, and cut at the room
abbrev pub parsed : List ℕ → Room → Out (Unit {0})
parsed s m = shown (into 0 m (cut (size m) (run (meaning frame start) s 0 (limit_of s))))
