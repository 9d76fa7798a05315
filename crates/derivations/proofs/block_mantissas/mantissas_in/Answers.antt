use Rattle.derivations.specs.Mantissas.{mantissas_in}
use mathlib.Core.Path.{◌∙◌}
use Rattle.derivations.proofs.block_mantissas.mantissas_in.Goals as goal

pub returns : goal.returns
unfolding mantissas_in
returns c = λ e. c.mantissas.ensures ∙ rw c.shape_of.ensures
