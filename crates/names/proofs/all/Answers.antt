-- The constants of the code are the numbers of the definition.
use mathlib.Core.Path.{refl}
use Rattle.names.specs.Names.{names}
use Rattle.names.proofs.all.Goals as goal

pub returns : goal.returns
unfolding names
returns c = refl
