-- As many names as there is room.
use native.Mathlib.Omega.{arith}
use lib.ListN.{length-take}
use Rattle.replay_settop.proofs.full.Goals as goal

pub slice_bounds-parse-end : goal.slice_bounds-parse-end
slice_bounds-parse-end c = rw length-take (omega arith)
