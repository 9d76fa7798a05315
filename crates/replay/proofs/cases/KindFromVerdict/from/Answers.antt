-- By the cases.
use Rattle.std.proofs.Common.{refl}
use Rattle.replay.specs.Cases.{verdict_of}
use Rattle.replay.proofs.cases.KindFromVerdict.from.Goals as goal

pub returns-in-Accepted : goal.returns-in-Accepted
unfolding verdict_of
returns-in-Accepted c = rw c.in-Accepted.is refl

pub returns-in-Refused : goal.returns-in-Refused
unfolding verdict_of
returns-in-Refused c = rw c.in-Refused.is c.of_refusal.ensures
