use mathlib.Core.Bool.{false}
use Rattle.std.proofs.Common.{rules}
use Rattle.sideinfo.proofs.StepLaws.{made}
use Rattle.sideinfo.proofs.flags.flags.Goals as goal

pub returns : goal.returns
returns g c = made _ _ _ (λ i y q e. search rules) _ _ false c.from_fn.ensures.items
