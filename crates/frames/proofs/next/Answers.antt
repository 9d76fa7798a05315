-- The search's own answer.
use Rattle.frames.proofs.next.Goals as goal

pub returns : goal.returns
returns c = c.find.ensures.found
