-- The outcome that a result tells.
use Rattle.std.specs.Prelude.{[], Result}
use Rattle.reading.specs.Run.{accepted, Outcome, out}
use Rattle.refusals.specs.declared.Refused.{Refused}
use Rattle.skim.specs.Outcomes.{outcome}
use Rattle.mantissas.specs.declared.Groups.{Groups}
use Rattle.mantissas.specs.declared.Passed.{Passed}

-- the counts of groups that stand then, or the refusal
abbrev pub groups_outcome : Result Passed Refused → Groups → Outcome Groups
groups_outcome r g = outcome (λ p. out (accepted g) p.place.0 []) r
