use mathlib.Core.Path.{refl}
use Rattle.tables.specs.BitAllocation.{baptab, hebaptab}
use Rattle.tables.specs.Steps.{steps}
use Rattle.tables.proofs.pointers.Goals as goal

pub returns : goal.returns
unfolding baptab hebaptab steps
returns c = refl
