use Rattle.allocation.specs.Memo.{Passes}
use Rattle.allocation.proofs.first_stale.Given as goal

abbrev pub invariant-loop-slot : goal.invariant-loop-slot
invariant-loop-slot l = Passes l.common l.d.offset l.d.len l.d.ba l.own l.slot l.memo
