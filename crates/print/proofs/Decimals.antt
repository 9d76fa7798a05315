-- Laws of numbers in decimal. Assumes nothing.
use mathlib.Core.Path.{◌≡◌, refl, ap, ◌∙◌, subst}
use mathlib.Core.List.{List, ◌∷◌}
use Prim.Native.Nat.{ℕ, zero, suc, ◌-◌, ◌*◌, ◌/◌, ◌%◌, ◌^◌, ◌≤◌, ◌<◌}
use native.Mathlib.Nat.{pow-suc, pow-le-pow_right}
use native.Mathlib.Omega.{arith}
use native.Mathlib.Decide.{dec_lt}
use lib.ListN.{length, take, replicate, length-append}
use borrow.Author.Tests.{lt-ltb, le-ltb}
use Rattle.io.specs.Digits as io
use Rattle.print.specs.Text.{digits, decimal_of}

one-le : (k : ℕ) → 1 ≤ 10 ^ k
one-le zero = omega arith
one-le (suc k) = let h = one-le k in rw (pow-suc 10 k) (omega arith)

-- the fewest digits that hold a number
pub fewest : (most k n : ℕ) → k ≤ most → io.IsDigitCount 10 1 n k → io.last_digits 10 k n ≡ digits most n
unfolding digits
fewest most zero n h f = absurd (let z : ⊥ = omega arith in z)
fewest zero (suc k) n h f = absurd (let z : ⊥ = omega arith in z)
fewest (suc most) (suc zero) n h f =
    let s : n < 10 = f.1 in
    let e : n % 10 ≡ n = omega arith in
    rw (e, lt-ltb n 10 s) refl
fewest (suc most) (suc (suc k)) n h f =
    let big : 10 ^ suc k ≤ n = let e : suc (suc k) - 1 ≡ suc k = omega arith in subst (λ m. 10 ^ m ≤ n) e (f.2 (omega arith)) in
    let up : n < 10 ^ suc (suc k) = f.1 in
    let p : 10 ^ suc (suc k) ≡ 10 ^ suc k * 10 = pow-suc 10 (suc k) in
    let q : 10 ^ suc k ≡ 10 ^ k * 10 = pow-suc 10 k in
    let one : 10 ≤ n = omega (arith, one-le k) in
    let d : n % 10 < 10 = omega arith in
    let low : 10 ^ (suc k - 1) ≤ n / 10 = let e : k ≡ suc k - 1 = omega arith in subst (λ m. 10 ^ m ≤ n / 10) e (omega arith) in
    let rest : io.last_digits 10 (suc k) (n / 10) ≡ digits most (n / 10) =
    fewest most (suc k) (n / 10) (omega arith) (omega arith, omega arith, λ _. low) in
    rw (rest, lt-ltb (n % 10) 10 d, le-ltb n 10 one) refl

-- no more digits than there may be
pub few : (most n : ℕ) → length (digits most n) ≤ most
unfolding digits
few zero n = omega arith
few (suc most) n = go (dec_lt n 10) (few most (n / 10))
  where
    go : Dec (n < 10) → length (digits most (n / 10)) ≤ most → length (digits (suc most) n) ≤ suc most
    go (yes l) h = rw (lt-ltb n 10 l) (omega arith)
    go (no l) h = rw (le-ltb n 10 (let z : 10 ≤ n = omega arith in z), length-append) (omega arith)

-- a number of 64 bits has no more than 20 digits
pub no_more : (n k : ℕ) → n < 18446744073709551616 → io.IsDigitCount 10 1 n k → k ≤ 20
no_more n k h f = go (dec_lt 20 k)
  where
    go : Dec (20 < k) → k ≤ 20
    go (no l) = omega arith
    go (yes l) =
        let low : 10 ^ (k - 1) ≤ n = f.2 (omega arith) in
        let up : 10 ^ 20 ≤ 10 ^ (k - 1) = pow-le-pow_right {n = 10} (omega arith) {i = 20} {j = k - 1} (omega arith) in
        absurd (let z : ⊥ = omega arith in z)

-- the first blanks of more of them
pub first_of : (n m x : ℕ) → n ≤ m → take n (replicate m x) ≡ replicate n x
first_of zero m x h = refl
first_of (suc n) zero x h = absurd (let z : ⊥ = omega arith in z)
first_of (suc n) (suc m) x h = ap (λ l. x ∷ l) (first_of n m x (omega arith))

-- the digits of the library are those of the definition
pub library : (out : List ℕ) (n k : ℕ) → n < 18446744073709551616 → io.IsDigitCount 10 1 n k → take k out ≡ io.last_digits 10 k n → take k out ≡ decimal_of n
library out n k h f e = e ∙ fewest 20 k n (no_more n k h f) f
