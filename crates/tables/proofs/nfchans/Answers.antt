use mathlib.Core.Path.{refl}
use Rattle.tables.specs.Small.{nfchans}
use Rattle.tables.proofs.nfchans.Goals as goal

pub returns : goal.returns
unfolding nfchans
returns c = refl
