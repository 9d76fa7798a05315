-- A refusal, or none, and the number that tells it.
use Rattle.std.specs.Prelude.{◌≡◌, ℕ, ◌<◌, Result, MatchResult, ⊤}
use Rattle.refusals.specs.declared.Refusal.{Refusal}
use Rattle.refusals.specs.Refusals.{number_of}

-- r is told by the number n: 0 where it is none, and else the number of the refusal, which is not 0
abbrev pub Told : Result ⊤ Refusal → ℕ → Type 0
Told r n = MatchResult r (λ _. n ≡ 0) (λ e. (number_of e ≡ n) × (0 < n))
