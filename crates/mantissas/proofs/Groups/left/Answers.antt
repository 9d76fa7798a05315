use Rattle.mantissas.specs.Tally.{left_of}
use Rattle.mantissas.proofs.Groups.left.Goals as goal

pub returns : goal.returns
unfolding left_of
returns c = rw (← c.turned.ensures, ← c.turned-2.ensures, ← c.turned-3.ensures)
