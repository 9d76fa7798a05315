-- Laws of bits and of numbers of bits, each over the width. Assumes nothing.
use mathlib.Core.Path.{◌≡◌, refl, ap, sym, ◌∙◌}
use mathlib.Core.Bool.{Bool, true, false, ◌&&◌, cond}
use mathlib.Core.List.{List}
use Prim.Native.Nat.{ℕ, zero, suc, ◌+◌, ◌*◌, ◌-◌, ◌/◌, ◌%◌, ◌^◌, ◌≤◌, ◌<◌}
use native.Mathlib.Omega.{arith}
use native.Mathlib.Decide.{dec_lt}
use native.Mathlib.Nat.{add-zero, add-suc, pow-suc}
use lib.Dec.{leb}
use lib.ListN.{length, get_or}
use borrow.Author.Tests.{le-leb, lt-leb}
use Rattle.bits.specs.Bits.{bit_at, bits_at, SameBits, get_of}

pub bit_at_lt : (b : List ℕ) (i : ℕ) → bit_at b i < 2
unfolding bit_at
bit_at_lt b i = omega arith

pub bits_at-cong : (x y : List ℕ) (p w : ℕ) → SameBits x y p (p + w) → bits_at x p w ≡ bits_at y p w
unfolding bits_at
bits_at-cong x y p zero h = refl
bits_at-cong x y p (suc w) h =
    let a = bits_at-cong x y p w (λ i l u. h i l (omega arith)) in
    let c = h (p + w) (omega arith) (omega arith) in
    omega arith

-- of two binary numerals that are equal, the last digits are equal, and what stands before them
last-digit : (a b c d : ℕ) → c < 2 → d < 2 → 2 * a + c ≡ 2 * b + d → (a ≡ b) × (c ≡ d)
last-digit a b c d hc hd e = (omega arith, omega arith)

pub bits_at-inj : (x y : List ℕ) (p w : ℕ) → bits_at x p w ≡ bits_at y p w → SameBits x y p (p + w)
unfolding bits_at
bits_at-inj x y p zero e i l u = absurd (let z : ⊥ = omega arith in z)
bits_at-inj x y p (suc w) e i l u = go (bits_at-inj x y p w digits.0 i l) (dec_lt i (p + w))
  where
    digits : (bits_at x p w ≡ bits_at y p w) × (bit_at x (p + w) ≡ bit_at y (p + w))
    digits = last-digit _ _ _ _ (bit_at_lt x (p + w)) (bit_at_lt y (p + w)) e

    go : (i < p + w → bit_at x i ≡ bit_at y i) → Dec (i < p + w) → bit_at x i ≡ bit_at y i
    go ih (yes h) = ih h
    go ih (no h) = let q : i ≡ p + w = omega arith in rw q digits.1

pub bits_at-lt : (b : List ℕ) (p w : ℕ) → bits_at b p w < 2 ^ w
unfolding bits_at
bits_at-lt b p zero = omega arith
bits_at-lt b p (suc w) =
    let h = bits_at-lt b p w in
    let k = bit_at_lt b (p + w) in
    omega arith

-- a number of bits is the number of the first of them, and the rest
pub bits_at-add : (b : List ℕ) (p v w : ℕ) → bits_at b p (v + w) ≡ bits_at b p v * 2 ^ w + bits_at b (p + v) w
unfolding bits_at
bits_at-add b p v zero = rw (add-zero v) (omega arith)
bits_at-add b p v (suc w) =
    let h = bits_at-add b p v w in
    let e : bit_at b (p + (v + w)) ≡ bit_at b (p + v + w) = ap (bit_at b) (omega arith) in
    rw (add-suc v w, pow-suc 2 w) (omega arith)

bit_at-in : (b : List ℕ) (i j : ℕ) → j < 8 → bit_at b (8 * i + j) ≡ get_or b i 0 / 2 ^ (7 - j) % 2
unfolding bit_at
bit_at-in b i j h =
    let e : (8 * i + j) / 8 ≡ i = omega arith in
    let f : (8 * i + j) % 8 ≡ j = omega arith in
    rw (e, f) refl

up : (b : List ℕ) (i j s m : ℕ) → j < 8 → get_or b i 0 / 2 ^ (7 - j) ≡ m → s ≡ m / 2 → 2 * s + bit_at b (8 * i + j) ≡ m
up b i j s m h q e = let c = bit_at-in b i j h in rw (c, q) (omega arith)

-- a byte is its eight bits
pub byte-is : (b : List ℕ) (i : ℕ) → get_or b i 0 < 256 → bits_at b (8 * i) 8 ≡ get_or b i 0
unfolding bits_at
byte-is b i h = go (get_or b i 0) refl h
  where
    go : (n : ℕ) → get_or b i 0 ≡ n → n < 256 → bits_at b (8 * i) 8 ≡ n
    go n e k =
        up b i 7 _ n (omega arith) (rw e (omega arith))
        (up b i 6 _ (n / 2) (omega arith) (rw e (omega arith))
        (up b i 5 _ ((n / 2) / 2) (omega arith) (rw e (omega arith))
        (up b i 4 _ (((n / 2) / 2) / 2) (omega arith) (rw e (omega arith))
        (up b i 3 _ ((((n / 2) / 2) / 2) / 2) (omega arith) (rw e (omega arith))
        (up b i 2 _ (((((n / 2) / 2) / 2) / 2) / 2) (omega arith) (rw e (omega arith))
        (up b i 1 _ ((((((n / 2) / 2) / 2) / 2) / 2) / 2) (omega arith) (rw e (omega arith))
        (up b i 0 0 (((((((n / 2) / 2) / 2) / 2) / 2) / 2) / 2) (omega arith) (rw e (omega arith))
        (omega arith))))))))

-- the same bits are the same bytes
pub same_bytes : (x y : List ℕ) (n i : ℕ) → SameBits x y 0 (8 * n) → i < n → get_or x i 0 < 256 → get_or y i 0 < 256 → get_or x i 0 ≡ get_or y i 0
same_bytes x y n i h k a c = sym (byte-is x i a) ∙ bits_at-cong x y (8 * i) 8 (λ j l u. h j (omega arith) (omega arith)) ∙ byte-is y i c

-- what `get` gives, by cases: too wide, past the end, or the bits
module _ (b : List ℕ) (p w : ℕ) where
  pub get-wide : 32 < w → get_of b p w ≡ 0
  unfolding get_of
  get-wide h = rw (lt-leb w 32 h)

  pub get-past : 8 * length b < p + w → get_of b p w ≡ 0
  unfolding get_of
  get-past h = rw (lt-leb (p + w) (8 * length b) h) (go (leb w 32))
    where
      go : (c : Bool) → cond (c && false) (bits_at b p w) 0 ≡ 0
      go true = refl
      go false = refl

  pub get_in : w ≤ 32 → p + w ≤ 8 * length b → get_of b p w ≡ bits_at b p w
  unfolding get_of
  get_in h k = rw (le-leb w 32 h, le-leb (p + w) (8 * length b) k)
