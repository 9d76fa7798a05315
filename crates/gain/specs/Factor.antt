-- GAIN WORDS AS FACTORS: the factor of a word over whole numbers, and what it is for an f64 to be that factor.
use Rattle.std.specs.Prelude.{◌≡◌, ℕ, ◌+◌, ◌-◌, ◌*◌, ◌/◌, ◌%◌, ◌^◌, false, cond, ℤ, pos, nat_lt, Float}
use Rattle.std.proofs.Math.IntN.{suc_ℤ}
use Rattle.std.specs.Float.{binary64}
use Rattle.std.specs.Float.Ieee.{minus, up, down, round}
use Rattle.std.specs.Float.Ieee.Exact.{HasValue}
use Rattle.gain.specs.declared.Kind.{Kind}
use Rattle.gain.specs.declared.Kind.TheVariants.{Dynrng, Compr}

-- the number over / under
pub record Ratio : Type 0 where
  pub over : ℕ
  pub under : ℕ

-- m × 2 ^ e / d: a power of two is the fraction up e / down e
abbrev pub scaled : ℕ → ℤ → ℕ → Ratio
scaled m e d = record { over = m * up e; under = d * down e }

-- n, of b bits, as a signed number: from half the range on it stands for n - 2 ^ b
abbrev pub signed : ℕ → ℕ → ℤ
signed b n = cond (nat_lt n (2 ^ (b - 1))) (pos n) (minus n (2 ^ b))

-- dynrng: the top 3 bits signed are X, the low 5 bits Y, and the factor is (32 + Y) × 2 ^ (X + 1) / 64
unfoldable pub dynrng_factor : ℕ → Ratio
dynrng_factor w = scaled (32 + w % 32) (suc_ℤ (signed 3 (w / 32))) 64

-- compr: 4 bits and 4 bits, (16 + Y) × 2 ^ (X + 1) / 32
unfoldable pub compr_factor : ℕ → Ratio
compr_factor w = scaled (16 + w % 16) (suc_ℤ (signed 4 (w / 16))) 32

unfoldable pub factor_of : Kind → ℕ → Ratio
factor_of Dynrng w = dynrng_factor w
factor_of Compr w = compr_factor w

abbrev pub one : Ratio
one = record { over = 1; under = 1 }

-- the f64 nearest to q
unfoldable pub to_f64 : Ratio → Float
to_f64 q = round binary64 false q.over q.under

-- x is q exactly: finite, not negative, and its m × 2 ^ e is over / under, multiplied out to whole numbers
abbrev pub Is : Float → Ratio → Type 0
Is x q = HasValue x false q.over q.under

-- x is the f64 nearest to q, and nothing was rounded
pub record Exactly (x : Float) (q : Ratio) : Type 0 where
  pub nearest : x ≡ to_f64 q
  pub value : Is x q
