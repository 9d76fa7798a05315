use mathlib.Core.Path.{refl}
use Rattle.tables.specs.BitAllocation.{latab}
use Rattle.tables.proofs.log_add.Goals as goal

pub returns : goal.returns
unfolding latab
returns c = refl
