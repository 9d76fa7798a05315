use mathlib.Core.Path.{refl}
use Rattle.tables.specs.BitAllocation.{hth}
use Rattle.tables.proofs.hearing.Goals as goal

pub returns : goal.returns
unfolding hth
returns c = refl
