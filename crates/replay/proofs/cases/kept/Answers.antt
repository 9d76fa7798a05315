-- By the cases.
use Rattle.std.proofs.Common.{refl}
use Rattle.replay.specs.Cases.{kept_of}
use Rattle.replay.proofs.cases.kept.Goals as goal

pub returns-in-Accepted : goal.returns-in-Accepted
unfolding kept_of
returns-in-Accepted c = rw c.in-Accepted.is refl

pub returns-in-Refused : goal.returns-in-Refused
unfolding kept_of
returns-in-Refused c = rw c.in-Refused.is refl
