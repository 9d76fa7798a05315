use native.Mathlib.Omega.{arith}
use Rattle.hybrid.proofs.HybridLaws.{gains-none, gains-one, gains-two, gains-three, gains-same}
use Rattle.hybrid.proofs.read_gains.Goals as goal

pub returns-in-0 : goal.returns-in-0
returns-in-0 c = gains-none _ _ _ _ c.told-gain c.requires.2 _ _ c.in-0.is

pub returns-in-1 : goal.returns-in-1
returns-in-1 c = gains-same _ _ _ _ (gains-one _ _ _ _ _ c.in-1.is) c.singles.ensures

pub returns-in-2 : goal.returns-in-2
returns-in-2 c = gains-same _ _ _ _ (gains-two _ _ _ _ _ c.in-2.is) c.singles-in-2.ensures

pub returns-in_default : goal.returns-in_default
returns-in_default c = gains-same _ _ _ _ (gains-three _ _ _ _ _ (λ h. omega arith) (λ h. omega arith) (λ h. omega arith)) c.triples.ensures
