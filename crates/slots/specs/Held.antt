-- What a reading keeps of the bins of the slots: seven times 256 exponents, and as many pointers.
use Rattle.std.specs.Prelude.{◌≡◌, List, ℕ, ◌≤◌, ◌<◌, length, get_or}

pub record Bins : Type 0 where
  pub exps : List ℕ
  pub baps : List ℕ

abbrev pub bins : List ℕ → List ℕ → Bins
bins e b = record { exps = e; baps = b }

-- what holds of the exponents whenever a block is read: none is above 24
pub record Held (exps : List ℕ) : Type 0 where
  pub size : length exps ≡ 1792
  pub low : (k : ℕ) → k < 1792 → get_or exps k 0 ≤ 24
