use native.Mathlib.Omega.{arith}
use Rattle.hybrid.proofs.HybridLaws.{active_on, active-end, one-more}
use Rattle.hybrid.proofs.active_in.Goals as goal

pub loop-i-preserved : goal.loop-i-preserved
loop-i-preserved c = rw c.from-n.ensures (omega (arith, one-more c.active.result), omega (arith, one-more c.active.result), active_on _ _ _ c.args.start _ _ _ _ c.loop-i.invariant.2 c.loop-i-test.true _ (rw (c.from-base.ensures, c.from.ensures) at c.active.ensures))

pub returns : goal.returns
returns c = (active-end _ _ _ c.args.start _ _ _ _ c.loop-i.invariant.2 c.loop-i-test.false, omega arith)
