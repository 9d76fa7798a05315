use native.Mathlib.Omega.{arith}
use Rattle.mantissas.proofs.TallyLaws.{outcome-all}
use Rattle.mantissas.proofs.pass.Goals as goal

pub returns : goal.returns
returns c = (λ s. rw c.from.ensures (outcome-all s _ _ _ _ _ _ _ _ _ _ c.requires.0 c.spent.ensures.0 (omega (arith, c.from.ensures, c.from-2.ensures)) c.left.ensures), c.saturating_sub.ensures)
