-- By the callees.
use Rattle.std.proofs.Common.{refl}
use Rattle.replay.specs.Sums.{add_of}
use Rattle.replay.proofs.sums.Sum.add.Goals as goal

pub returns : goal.returns
unfolding add_of
returns c = rw c.plus.ensures (rw c.plus-a.ensures refl)
