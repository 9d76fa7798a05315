-- The remainder of bytes, by what their bits come to. Assumes nothing.
use mathlib.Core.Path.{◌≡◌, refl, sym, ap, ap₂, ◌∙◌}
use mathlib.Core.List.{List, []}
use Prim.Native.Nat.{ℕ, zero, suc, ◌+◌, ◌*◌, ◌-◌, ◌/◌, ◌%◌, ◌^◌, ◌<◌, ◌≤◌}
use native.Mathlib.Nat.{add-zero, add-suc}
use native.Mathlib.Omega.{arith}
use lib.Dec.{lit<}
use lib.ListN.{length, take, drop, get_or}
use Rattle.std.specs.Simd.{first_chunks}
use Rattle.std.proofs.lemmas.List.{get_or-take, get_or-drop, length-take, length-drop, drop-drop}
use Rattle.bits.specs.Bits.{bit_at, SameBits}
use Rattle.bits.proofs.BitLaws.{bit_at_lt}
use Rattle.crc.specs.Crc.{step, remainder}
use Rattle.crc.specs.Bytes.{after}
use Rattle.crc.proofs.Linear.{step-lt}

pub remainder-lt : (s : List ℕ) (p n : ℕ) → remainder s p n < 65536
unfolding remainder
remainder-lt s p zero = lit< tt
remainder-lt s p (suc n) = step-lt (remainder s p n) (bit_at s (p + n)) (remainder-lt s p n) (bit_at_lt s (p + n))

pub remainder-cong : (x y : List ℕ) (p n : ℕ) → SameBits x y p (p + n) → remainder x p n ≡ remainder y p n
unfolding remainder
remainder-cong x y p zero h = refl
remainder-cong x y p (suc n) h =
    ap₂ step (remainder-cong x y p n (λ i l u. h i l (omega arith))) (h (p + n) (omega arith) (omega arith))

-- k bits more, which are the first of the byte at i
bits-more : (s : List ℕ) (p n i k : ℕ) → p + n ≡ 8 * i → k ≤ 8 → remainder s p (n + k) ≡ after (remainder s p n) (get_or s i 0) k
unfolding remainder after bit_at
bits-more s p n i zero e h = ap (remainder s p) (add-zero n)
bits-more s p n i (suc k) e h =
    let byte : (p + (n + k)) / 8 ≡ i = omega arith in
    let place : (p + (n + k)) % 8 ≡ k = omega arith in
    let bit : bit_at s (p + (n + k)) ≡ get_or s i 0 / 2 ^ (7 - k) % 2 = rw (byte, place) refl in
    ap (remainder s p) (add-suc n k) ∙ ap₂ step (bits-more s p n i k e (omega arith)) bit

-- a byte more
pub more : (s : List ℕ) (p n m i : ℕ) → p + n ≡ 8 * i → m ≡ n + 8 → remainder s p m ≡ after (remainder s p n) (get_or s i 0) 8
more s p n m i e w = ap (remainder s p) w ∙ bits-more s p n i 8 e (omega arith)

-- the bytes from `from` on: n are taken, and one more
pub one_more : (s : List ℕ) (from n : ℕ) {r c : ℕ} → r ≡ remainder s (8 * from) (8 * n) → c ≡ after r (get_or s (from + n) 0) 8 → c ≡ remainder s (8 * from) (8 * (n + 1))
one_more s from n {r} {c} p e =
    e
    ∙ ap (λ (x : ℕ). after x (get_or s (from + n) 0) 8) p
    ∙ sym (more s (8 * from) (8 * n) (8 * (n + 1)) (from + n) (omega arith) (omega arith))

-- the bytes of a part in pairs, and what stands behind the pairs
pair-at : (n k : ℕ) (xs : List ℕ) → k < n → get_or (first_chunks 2 n xs) k [] ≡ take 2 (drop (2 * k) xs)
pair-at zero k xs h = absurd (let z : ⊥ = omega arith in z)
pair-at (suc n) zero xs h = refl
pair-at (suc n) (suc k) xs h =
    let e : 2 + 2 * k ≡ 2 * suc k = omega arith in
    pair-at n k (drop 2 xs) (omega arith) ∙ ap (take 2) (drop-drop (2 * k) 2 xs ∙ ap (λ (i : ℕ). drop i xs) e)

module _ (s : List ℕ) (from to : ℕ) (h : from ≤ to) (l : to ≤ length s) where
  abbrev part : List ℕ
  part = take (to - from) (drop from s)

  pub long : length part ≡ to - from
  long = omega (arith, length-take (to - from) (drop from s), length-drop from s)

  byte-at : (i : ℕ) → i < to - from → get_or part i 0 ≡ get_or s (from + i) 0
  byte-at i u = get_or-take (to - from) (drop from s) i 0 u ∙ get_or-drop from s i 0

  module _ {pairs : List (List ℕ)} (front : pairs ≡ first_chunks 2 (length part / 2) part) (fronts : length pairs ≡ length part / 2) where
    of-pair : (k i : ℕ) → k < length pairs → i < 2 → get_or (get_or pairs k []) i 0 ≡ get_or s (from + (2 * k + i)) 0
    of-pair k i u v =
        let u' : k < length part / 2 = omega arith in
        let w : 2 * k + i < to - from = omega (arith, long) in
        ap (λ (x : List (List ℕ)). get_or (get_or x k []) i 0) front
        ∙ ap (λ (x : List ℕ). get_or x i 0) (pair-at (length part / 2) k part u')
        ∙ get_or-take 2 (drop (2 * k) part) i 0 v
        ∙ get_or-drop (2 * k) part i 0
        ∙ byte-at (2 * k + i) w

    pub pair_more : {r c k : ℕ} → r ≡ remainder s (8 * from) (8 * (2 * k)) → k < length pairs
        → c ≡ after (after r (get_or (get_or pairs k []) 0 0) 8) (get_or (get_or pairs k []) 1 0) 8 → c ≡ remainder s (8 * from) (8 * (2 * (k + 1)))
    pair_more {r} {c} {k} p u e =
        let a : get_or (get_or pairs k []) 0 0 ≡ get_or s (from + 2 * k) 0 = of-pair k 0 u (omega arith) ∙ ap (λ (x : ℕ). get_or s (from + x) 0) (add-zero (2 * k)) in
        let b : get_or (get_or pairs k []) 1 0 ≡ get_or s (from + (2 * k + 1)) 0 = of-pair k 1 u (omega arith) in
        let n : 2 * k + 1 + 1 ≡ 2 * (k + 1) = omega arith in
        one_more s from (2 * k + 1) (one_more s from (2 * k) p refl) (e ∙ ap₂ (λ (x y : ℕ). after (after r x 8) y 8) a b) ∙ ap (λ (x : ℕ). remainder s (8 * from) (8 * x)) n

  pub behind : {rest : List ℕ} → rest ≡ drop (length part / 2 * 2) part → (i : ℕ) → i < length part % 2 → get_or rest i 0 ≡ get_or s (from + (2 * ((to - from) / 2) + i)) 0
  behind {rest} e i u =
      let w : length part / 2 * 2 + i < to - from = omega (arith, long) in
      let z : length part / 2 * 2 + i ≡ 2 * ((to - from) / 2) + i = omega (arith, ap (λ (x : ℕ). x / 2) long) in
      ap (λ (x : List ℕ). get_or x i 0) e ∙ get_or-drop (length part / 2 * 2) part i 0 ∙ byte-at (length part / 2 * 2 + i) w ∙ ap (λ (x : ℕ). get_or s (from + x) 0) z
