use mathlib.Core.Path.{refl}
use native.Mathlib.Omega.{arith}
use native.Mathlib.Numerals.{add-one}
use Rattle.rows.specs.Syntax.{filled}
use Rattle.rows.proofs.StepLaws.{fill-ends}
use Rattle.rows.proofs.steps.fill.Goals as goal

pub loop-i-init : goal.loop-i-init
unfolding filled
loop-i-init c = refl

pub loop-i-preserved : goal.loop-i-preserved
unfolding filled
loop-i-preserved c = rw (add-one, c.put.ensures, c.loop-i.invariant) refl

pub returns : goal.returns
returns c = fill-ends _ _ _ c.source.ensures _ c.linear-v.ensures _ c.field-k.ensures _ _ c.loop-i.invariant (omega (arith, c.field-n.ensures))
