use Rattle.std.proofs.Common.{rules}
use Rattle.answer.specs.Answer.{place_at}
use Rattle.sideinfo.proofs.StepLaws.{made}
use Rattle.answer.proofs.places.Goals as goal

pub returns : goal.returns
returns g c = made _ _ _ (λ i y q e. search rules) _ _ (place_at 0) c.from_fn.ensures.items
