use native.Mathlib.Omega.{arith}
use mathlib.Core.Path.{◌∙◌}
use Rattle.mantissas.proofs.TallyLaws.{unpacked}
use Rattle.mantissas.proofs.tally.tallied.Goals as goal

pub returns : goal.returns
returns c = c.fields.ensures ∙ rw c.sum.ensures (unpacked _ _ _ _ (omega arith))
