use mathlib.Core.Path.{refl}
use Rattle.allocation.specs.State.{fresh_state}
use Rattle.allocation.proofs.AllocState.fresh.Goals as goal

pub returns : goal.returns
unfolding fresh_state
returns c = refl
