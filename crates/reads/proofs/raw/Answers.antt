-- What does not pass the limit is the bits that the definition reads.
use Rattle.reads.proofs.Limits.{raw-past, raw-in}
use Rattle.reads.proofs.raw.Goals as goal

pub returns-then-past-clause-seen : goal.returns-then-past-clause-seen
returns-then-past-clause-seen c = rw c.stop.ensures (raw-past _ _ _ _ _ c.past.ensures.0 c.if-past.true)

pub returns-clause-seen : goal.returns-clause-seen
returns-clause-seen c = raw-in _ _ _ _ _ c.past.ensures.0 c.if-past.false c.requires.0 c.requires.1 _ c.get-value.ensures
