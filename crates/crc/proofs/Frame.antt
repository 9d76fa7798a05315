-- A frame with its crc2. Assumes nothing.
use mathlib.Core.Path.{◌≡◌, refl, ap, ap₂, ◌∙◌}
use mathlib.Core.Logic.{◌≢◌}
use mathlib.Core.List.{List, [], ◌∷◌}
use Prim.Native.Nat.{ℕ, zero, suc, ◌+◌, ◌*◌, ◌-◌, ◌/◌, ◌%◌, ◌^◌, ◌<◌, ◌≤◌}
use native.Mathlib.Omega.{arith}
use lib.ListN.{length, get_or, set, length-set}
use mir.Syntax.{w16}
use borrow.Rule.Slice.PartMut.{put_mid}
use Rattle.std.specs.Int.{to_be_bytes}
use lib.Seq.{get_or-set_same, get_or-set_other}
use Rattle.bits.specs.Bits.{bit_at, bits_at, SameBits}
use Rattle.bits.proofs.BitLaws.{byte-is, bits_at-add}
use Rattle.crc.specs.Crc.{remainder, crc2, with_crc2}
use Rattle.crc.specs.Checked.{Checked}
use Rattle.crc.specs.Bytes.{after}
use Rattle.crc.proofs.Bytes.{high-out}
use Rattle.crc.proofs.Remainders.{remainder-lt, remainder-cong, more}

-- a register that is taken in behind what it was made from, its high byte first, leaves 0
cleared : (r : ℕ) → r < 65536 → after (after r (r / 256) 8) (r % 256) 8 ≡ 0
cleared r h =
    let high : r % 256 ≡ r % 256 * 256 / 256 = omega arith in
    let none : r % 256 * 256 % 256 * 256 ≡ 0 = omega arith in
    ap₂ (λ (x y : ℕ). after x y 8) (high-out r h) high ∙ high-out (r % 256 * 256) (omega arith) ∙ none

module _ (s : List ℕ) (n : ℕ) where
  crc2-lt : crc2 s n < 65536
  unfolding crc2
  crc2-lt = remainder-lt s 16 (8 * n - 32)

  size : length (with_crc2 s n) ≡ length s
  unfolding with_crc2
  size = length-set (set s (n - 2) (crc2 s n / 256)) (n - 1) (crc2 s n % 256) ∙ length-set s (n - 2) (crc2 s n / 256)

  other_byte : (k : ℕ) → k ≢ n - 2 → k ≢ n - 1 → get_or (with_crc2 s n) k 0 ≡ get_or s k 0
  unfolding with_crc2
  other_byte k p q =
      get_or-set_other (set s (n - 2) (crc2 s n / 256)) (n - 1) k (crc2 s n % 256) 0 q
      ∙ get_or-set_other s (n - 2) k (crc2 s n / 256) 0 p

  module _ (four : 4 ≤ n) where
    before : SameBits (with_crc2 s n) s 0 (8 * n - 16)
    unfolding bit_at
    before i l u = ap (λ (b : ℕ). b / 2 ^ (7 - i % 8) % 2) (other_byte (i / 8) (omega arith) (omega arith))

    behind : (q : ℕ) → SameBits (with_crc2 s n) s (8 * n) q
    unfolding bit_at
    behind q i l u = ap (λ (b : ℕ). b / 2 ^ (7 - i % 8) % 2) (other_byte (i / 8) (omega arith) (omega arith))

    module _ (there : n ≤ length s) where
      high : get_or (with_crc2 s n) (n - 2) 0 ≡ crc2 s n / 256
      unfolding with_crc2
      high =
          let held : n - 2 < length s = omega arith in
          let apart : n - 2 ≢ n - 1 = omega arith in
          get_or-set_other (set s (n - 2) (crc2 s n / 256)) (n - 1) (n - 2) (crc2 s n % 256) 0 apart
          ∙ get_or-set_same s (n - 2) (crc2 s n / 256) 0 held

      low : get_or (with_crc2 s n) (n - 1) 0 ≡ crc2 s n % 256
      unfolding with_crc2
      low =
          let held : n - 1 < length (set s (n - 2) (crc2 s n / 256)) = rw length-set (omega arith) in
          get_or-set_same (set s (n - 2) (crc2 s n / 256)) (n - 1) (crc2 s n % 256) 0 held

      no_remainder : remainder (with_crc2 s n) 16 (8 * n - 16) ≡ 0
      unfolding crc2
      no_remainder =
          more (with_crc2 s n) 16 (8 * n - 24) (8 * n - 16) (n - 1) (omega arith) (omega arith)
          ∙ ap₂ (λ (x y : ℕ). after x y 8)
          (more (with_crc2 s n) 16 (8 * n - 32) (8 * n - 24) (n - 2) (omega arith) (omega arith)
          ∙ ap₂ (λ (x y : ℕ). after x y 8)
          (remainder-cong (with_crc2 s n) s 16 (8 * n - 32) (λ i l u. before i (omega arith) (omega arith)))
          high)
          low
          ∙ cleared (crc2 s n) crc2-lt

      value : bits_at (with_crc2 s n) (8 * n - 16) 16 ≡ crc2 s n
      value =
          let small = crc2-lt in
          let a : get_or (with_crc2 s n) (n - 2) 0 < 256 = rw high (omega arith) in
          let b : get_or (with_crc2 s n) (n - 1) 0 < 256 = rw low (omega arith) in
          let p : 8 * n - 16 ≡ 8 * (n - 2) = omega arith in
          let q : 8 * (n - 2) + 8 ≡ 8 * (n - 1) = omega arith in
          let whole : crc2 s n / 256 * 256 + crc2 s n % 256 ≡ crc2 s n = omega arith in
          ap (λ (i : ℕ). bits_at (with_crc2 s n) i 16) p
          ∙ bits_at-add (with_crc2 s n) (8 * (n - 2)) 8 8
          ∙ ap₂ (λ (x y : ℕ). x * 256 + y)
          (byte-is (with_crc2 s n) (n - 2) a ∙ high)
          (ap (λ (i : ℕ). bits_at (with_crc2 s n) i 8) q ∙ byte-is (with_crc2 s n) (n - 1) b ∙ low)
          ∙ whole

      pub checked : Checked s n
      checked = record { size = size; no_remainder = no_remainder; value = value; before = before; behind = behind }

-- what the code computes, and what it writes
module _ (s : List ℕ) (n : ℕ) {r : ℕ} (six : 6 ≤ n) (e : r ≡ remainder s 16 (8 * (n - 2 - 2))) where
  pub found : r ≡ crc2 s n
  unfolding crc2
  found = let wide : 8 * (n - 2 - 2) ≡ 8 * n - 32 = omega arith in e ∙ ap (remainder s 16) wide

  pub written : set (set s (n - 2) (r / 256)) (n - 1) (r % 256) ≡ with_crc2 s n
  unfolding with_crc2
  written = ap (λ (x : ℕ). set (set s (n - 2) (x / 256)) (n - 1) (x % 256)) found

-- two elements put in at a place
two_put : (s : List ℕ) (p a b : ℕ) → p + 1 < length s → put_mid p 2 s (a ∷ b ∷ []) ≡ set (set s p a) (suc p) b
two_put [] p a b h = absurd (omega arith)
two_put (x ∷ []) zero a b h = absurd (omega arith)
two_put (x ∷ y ∷ t) zero a b h = refl
two_put (x ∷ t) (suc p) a b h = ap (λ (z : List ℕ). x ∷ z) (two_put t p a b (omega arith))

-- a number as its two bytes, the high one first, put in at the end of the first n elements
pub put-in : (s : List ℕ) (n r : ℕ) {ys : List ℕ} → 2 ≤ n → n ≤ length s → r < 65536 → ys ≡ to_be_bytes w16 r
    → put_mid (n - 2) (n - (n - 2)) s ys ≡ set (set s (n - 2) (r / 256)) (n - 1) (r % 256)
put-in s n r {ys} two held small e =
    let k : n - (n - 2) ≡ 2 = omega arith in
    let m : suc (n - 2) ≡ n - 1 = omega arith in
    let high : r / 256 % 256 ≡ r / 256 = omega arith in
    rw (e, k, ← m) (two_put s (n - 2) (r / 256 % 256) (r % 256) (omega arith) ∙ ap (λ (x : ℕ). set (set s (n - 2) x) (suc (n - 2)) (r % 256)) high)
