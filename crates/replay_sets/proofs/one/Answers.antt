-- As many places, values and bytes as the case has.
use native.Mathlib.Omega.{arith}
use lib.ListN.{length-take}
use Rattle.replay_sets.proofs.one.Goals as goal

pub slice_bounds-case-end : goal.slice_bounds-case-end
slice_bounds-case-end c = rw length-take (omega arith)

pub slice_bounds-case-end-2 : goal.slice_bounds-case-end-2
slice_bounds-case-end-2 c = rw length-take (omega arith)

pub slice_bounds-case-end-3 : goal.slice_bounds-case-end-3
slice_bounds-case-end-3 c = rw length-take (omega arith)
