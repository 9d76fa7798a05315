-- As many names as there is room.
use native.Mathlib.Omega.{arith}
use lib.ListN.{length-take}
use Rattle.replay_settop.proofs.settop.Goals as goal

pub slice_bounds-parse_settop-end : goal.slice_bounds-parse_settop-end
slice_bounds-parse_settop-end c = rw length-take (omega arith)
