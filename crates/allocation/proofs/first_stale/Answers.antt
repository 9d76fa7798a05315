use Rattle.allocation.proofs.MemoLaws.{passes_none, passes_on}
use Rattle.allocation.proofs.first_stale.Goals as goal

pub loop-slot-init : goal.loop-slot-init
loop-slot-init c = passes_none _ _ _ _ _ _

pub loop-slot-preserved : goal.loop-slot-preserved
loop-slot-preserved c = passes_on _ _ _ _ _ _ _ c.loop-slot.invariant c.loop-slot-test.true _ c.source_of.ensures _ c.kept.ensures (c.if-not-kept.false)
