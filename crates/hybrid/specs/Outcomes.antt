-- The outcome that a result tells, and what the code keeps of the gains.
use Rattle.std.specs.Prelude.{◌≡◌, List, [], ℕ, ◌<◌, get_or, Result, Ok, Err}
use Rattle.bits.specs.declared.BitPlace.{BitPlace}
use Rattle.reading.specs.Run.{accepted, Outcome, out}
use Rattle.refusals.specs.declared.Refused.{Refused}
use Rattle.skim.specs.Outcomes.{refused_at, outcome}
use Rattle.hybrid.specs.declared.Tags.{Tags}
use Rattle.hybrid.specs.declared.Transformed.{Transformed}

abbrev pub tags_outcome : Result Tags Refused → Outcome ℕ
tags_outcome = outcome (λ t. out (accepted t.tags) t.place.0 [])

abbrev pub slot_outcome : Result Transformed Refused → Outcome ℕ
slot_outcome = outcome (λ t. out (accepted t.tags) t.place.0 [])

-- an array that holds the gains read so far, and gain 1 behind them
abbrev pub Gained : List ℕ → List ℕ → Type 0
Gained stored gains = (k : ℕ) → k < 258 → get_or stored k 0 ≡ get_or gains k 1

-- the gains read are held, and the place after them is told; or a refusal is
pub record Held (stored : List ℕ) (place : ℕ) (o : Outcome (List ℕ)) : Type 0 where
  pub gains : List ℕ
  pub tells : out (accepted gains) place [] ≡ o
  pub held : Gained stored gains

abbrev pub GainsOutcome : Result BitPlace Refused → List ℕ → Outcome (List ℕ) → Type 0
GainsOutcome (Ok place) stored o = Held stored place.0 o
GainsOutcome (Err e) stored o = refused_at e ≡ o
