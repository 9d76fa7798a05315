use native.Mathlib.Omega.{arith}
use mathlib.Core.Path.{sym, ◌∙◌}
use Rattle.skim.proofs.SkimLaws.{handed_on}
use Rattle.hybrid.proofs.HybridLaws.{pres-end, pres-off, pres-on}
use Rattle.hybrid.proofs.premantissas.Goals as goal

pub returns-in_err-t : goal.returns-in_err-t
returns-in_err-t c = handed_on _ _ _ c.in_err-t.field-0.0 _ c.from_residual.ensures.1 (pres-off _ _ _ _ 6 _ _ _ c.loop-i-test.true c.in_err-t.field-0.0 c.in_err-t.ensures.0 ∙ sym c.loop-i.invariant.1)

pub loop-i-preserved : goal.loop-i-preserved
loop-i-preserved c = (omega (arith, c.in_ok-t.ensures.1), c.loop-i.invariant.1 ∙ pres-on _ _ _ _ 6 _ _ _ c.loop-i-test.true _ c.in_ok-t.ensures.0)

pub returns : goal.returns
returns c = (pres-end _ _ _ _ 6 _ _ _ c.loop-i-test.false ∙ sym c.loop-i.invariant.1, omega arith)
