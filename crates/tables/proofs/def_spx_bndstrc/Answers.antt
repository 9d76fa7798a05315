use mathlib.Core.Path.{refl}
use Rattle.tables.specs.Small.{defspxbndstrc}
use Rattle.tables.proofs.def_spx_bndstrc.Goals as goal

pub returns : goal.returns
unfolding defspxbndstrc
returns c = refl
