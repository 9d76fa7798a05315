use Rattle.derivations.specs.Allocating.{defaults_by}
use Rattle.derivations.proofs.allocating.defaults.Goals as goal

pub returns : goal.returns
unfolding defaults_by
returns c = rw (c.put_all.ensures, c.sent_of.ensures)
