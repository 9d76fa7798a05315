use mathlib.Core.List.{[]}
use Rattle.std.proofs.Common.{rules}
use Rattle.sideinfo.proofs.StepLaws.{made}
use Rattle.answer.proofs.bits_of_blocks.Goals as goal

pub returns : goal.returns
returns c = made _ _ _ (λ i y q e. search rules) _ _ (record { bits = [] }) c.from_fn.ensures.items
