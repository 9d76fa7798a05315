use mathlib.Core.Path.{refl}
use Rattle.eac3.proofs.Calls.{settop-called}
use Rattle.eac3.proofs.parse_settop.Goals as goal

pub returns : goal.returns
returns c = settop-called _ _ 1536 _ _ c.read.ensures refl
