-- A walk inside a span, with the bits that it took.
use Rattle.std.specs.Prelude.{ℕ, ◌-◌}
use Rattle.reading.specs.Tree.{Skim, stop, at, ◌>>-◌}

-- what a walk tells, and how many bits it took
pub record Counted (A : Type 0) : Type 0 where
  pub told : A
  pub bits : ℕ

abbrev pub counted : {A : Type 0} → A → ℕ → Counted A
counted a n = record { told = a; bits = n }

-- from the place where it begins to the place where it ends
unfoldable pub counting : {A : Type 0} → Skim A → Skim (Counted A)
counting x = at (λ p. x >>- (λ a. at (λ q. stop (counted a (q - p)))))
