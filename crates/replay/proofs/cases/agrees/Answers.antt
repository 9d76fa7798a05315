use Rattle.std.proofs.Common.{refl}
use Rattle.replay.specs.Cases.{agrees_of}
use Rattle.replay.proofs.SumLaws.{more}
use Rattle.replay.proofs.cases.agrees.Goals as goal

pub loop-k-init : goal.loop-k-init
unfolding agrees_of
loop-k-init c = refl

pub loop-k-preserved : goal.loop-k-preserved
loop-k-preserved c = more _ _ _ c.loop-k.invariant c.is_pair-all.ensures refl
