use mathlib.Core.Path.{refl}
use Rattle.tables.specs.Small.{frmexpstr}
use Rattle.tables.proofs.frame_expstr.Goals as goal

pub returns : goal.returns
unfolding frmexpstr
returns c = refl
