use mathlib.Core.Path.{refl}
use Rattle.silence.specs.Silence.{silent_by}
use Rattle.silence.proofs.Laws.{silent-on, silent-end}
use Rattle.silence.proofs.silent.Goals as goal

pub loop-slot-init : goal.loop-slot-init
unfolding silent_by
loop-slot-init c = refl

pub loop-slot-preserved : goal.loop-slot-preserved
loop-slot-preserved c = silent-on _ _ _ _ c.loop-slot.all c.loop-slot.invariant c.loop-slot-test.true _ c.used.ensures _ c.no_offset-all.ensures _ refl

pub returns : goal.returns
returns c = silent-end _ _ _ _ _ c.loop-slot.invariant c.loop-slot-test.false
