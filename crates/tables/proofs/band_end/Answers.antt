use mathlib.Core.Path.{refl}
use Rattle.tables.specs.BitAllocation.{bndend}
use Rattle.tables.proofs.band_end.Goals as goal

pub returns : goal.returns
unfolding bndend
returns c = refl
