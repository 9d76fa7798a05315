use mathlib.Core.Path.{refl}
use Rattle.tables.specs.Small.{bap_bits}
use Rattle.mantissas.specs.Tally.{share_of}
use Rattle.mantissas.proofs.tally.shares.Goals as goal

pub returns : goal.returns
unfolding share_of bap_bits
returns c = refl
