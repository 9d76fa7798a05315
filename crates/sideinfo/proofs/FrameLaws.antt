-- What is derived from bsi and audfrm. Assumes nothing.
use Prim.Native.Nat.{ℕ, ◌+◌, ◌*◌, ◌^◌, ◌%◌, ◌≤◌, ◌<◌}
use mathlib.Core.Bool.{Bool, true, false, cond, not}
use mathlib.Core.Path.{◌≡◌, refl, ◌∙◌}
use native.Mathlib.Omega.{arith}
use native.Mathlib.Nat.{mul-le-mul, one-mul}
use lib.Pow.{shl_exact}

pub power : (k : ℕ) → k < 17 → 1 * 2 ^ k % 4294967296 ≡ 2 ^ k
power k h = shl_exact {a = 1} 1 k 32 (omega arith) (omega arith) ∙ one-mul (2 ^ k)

pub width-le : (a b : ℕ) → a < 65536 → b ≤ 17 → a * (4 + b) ≤ 1376235
width-le a b h k = mul-le-mul {n₂ = 65535} {m₂ = 21} (omega arith) (omega arith)

-- new exponents, either way round
pub swapped : (b : Bool) → ◌≡◌ {A = ℕ} (cond b 0 1) (cond (not b) 1 0)
swapped true = refl
swapped false = refl
