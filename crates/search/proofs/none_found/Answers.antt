use mathlib.Core.Path.{refl}
use Rattle.search.proofs.none_found.Goals as goal

pub returns : goal.returns
returns c = rw c.refusal.ensures refl
