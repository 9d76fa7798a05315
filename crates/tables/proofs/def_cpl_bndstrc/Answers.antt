use mathlib.Core.Path.{refl}
use Rattle.tables.specs.Small.{defcplbndstrc}
use Rattle.tables.proofs.def_cpl_bndstrc.Goals as goal

pub returns : goal.returns
unfolding defcplbndstrc
returns c = refl
