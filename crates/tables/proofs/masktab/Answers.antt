use mathlib.Core.Path.{refl}
use Rattle.tables.specs.BitAllocation.{masktab}
use Rattle.tables.proofs.masktab.Goals as goal

pub returns : goal.returns
unfolding masktab
returns c = refl
