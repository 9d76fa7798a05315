-- The outcomes that the walk through a block's mantissas tells.
use Rattle.std.specs.Prelude.{List, [], ◌∷◌, ℕ, Result}
use Rattle.reading.specs.Run.{accepted, Outcome, out}
use Rattle.refusals.specs.declared.Refused.{Refused}
use Rattle.skim.specs.Outcomes.{outcome}
use Rattle.plan.specs.Plan.{Along, along}
use Rattle.plan.specs.declared.Taking.{Taking}
use Rattle.plan.specs.declared.Taken.{Taken}

abbrev pub along_of : Taking → Along
along_of t = along t.groups t.tags t.bits

-- after a slot: where the walk stands then, or the refusal
abbrev pub taking_outcome : {A : Type 0} → Result A Refused → Taking → Outcome Along
taking_outcome r t = outcome (λ _. out (accepted (along_of t)) t.place.0 []) r

-- the tags, and the bits of each slot; none after a refusal
abbrev pub taken : Result Taken Refused → Outcome (List ℕ)
taken = outcome (λ t. out (accepted (t.tags ∷ t.bits)) t.place.0 [])
