-- Bits out of whole bytes: what `load` and `four_bytes` have loaded, and the windows that `get` and `bits_at` shift out. Assumes nothing.
use Prim.Native.Nat.{ℕ, ◌+◌, ◌-◌, ◌*◌, ◌/◌, ◌%◌, ◌^◌, ◌≤◌, ◌<◌}
use mathlib.Core.Path.{◌≡◌, refl, sym, ap, ◌∙◌}
use mathlib.Core.List.{List}
use native.Mathlib.Omega.{arith}
use native.Mathlib.Nat.{mul_assoc, add-mul, add_assoc, one-mul, lt_of_lt_of_le}
use lib.Pow.{pow-add, pow_mono, high, low, field, shl_exact, shl-shr, shr-shr}
use lib.ListN.{get_or}
use Rattle.bits.specs.Bits.{bits_at}
use Rattle.bits.proofs.BitLaws.{bits_at-add, bits_at-lt, byte-is}

module _ (s : List ℕ) where
  parts : (a w b r c : ℕ) → a * (w * r) + (b * r + c) ≡ (a * w + b) * r + c
  parts a w b r c = rw (add-mul (a * w) b r, mul_assoc a w r) (sym (add_assoc (a * (w * r)) (b * r) c))

  -- w bits out of d + w + r
  pub window : (f d w r : ℕ) → bits_at s f (d + (w + r)) / 2 ^ r % 2 ^ w ≡ bits_at s (f + d) w
  window f d w r =
      let e : bits_at s f (d + (w + r)) ≡ (bits_at s f d * 2 ^ w + bits_at s (f + d) w) * 2 ^ r + bits_at s (f + d + w) r
      = bits_at-add s f d (w + r) ∙ rw (bits_at-add s (f + d) w r, pow-add 2 w r) (parts (bits_at s f d) (2 ^ w) (bits_at s (f + d) w) (2 ^ r) (bits_at s (f + d + w) r)) in
      rw (e, high (bits_at s f d * 2 ^ w + bits_at s (f + d) w) r (bits_at-lt s (f + d + w) r)) (low (bits_at s f d) w (bits_at-lt s (f + d) w))

  -- one byte more
  pub more : (f n v y : ℕ) → v ≡ bits_at s (8 * f) (8 * n) → y ≡ get_or s (f + n) 0 → y < 256 → v * 256 + y ≡ bits_at s (8 * f) (8 * (n + 1))
  more f n v y e g k =
      let a : 8 * (n + 1) ≡ 8 * n + 8 = omega arith in
      let b : 8 * f + 8 * n ≡ 8 * (f + n) = omega arith in
      let z : bits_at s (8 * (f + n)) 8 ≡ y = byte-is s (f + n) (rw (← g) k) ∙ sym g in
      rw (a, bits_at-add s (8 * f) (8 * n) 8, b, z, ← e)

  -- one byte, two and four at once
  module _ (f : ℕ) where
    pub one : get_or s f 0 < 256 → get_or s f 0 ≡ bits_at s (8 * f) 8
    one k = sym (byte-is s f k)

    pub two : get_or s f 0 < 256 → get_or s (f + 1) 0 < 256 → get_or s f 0 * 256 + get_or s (f + 1) 0 ≡ bits_at s (8 * f) 16
    two k m = more f 1 _ _ (one k) refl m

    pub four : ((i : ℕ) → get_or s i 0 < 256)
        → ((get_or s f 0 * 256 + get_or s (f + 1) 0) * 256 + get_or s (f + 2) 0) * 256 + get_or s (f + 3) 0 ≡ bits_at s (8 * f) 32
    four k = more f 3 _ _ (more f 2 _ _ (two (k f) (k (f + 1))) refl (k (f + 2))) refl (k (f + 3))

  pub small : (f n v : ℕ) → v ≡ bits_at s (8 * f) (8 * n) → n ≤ 4 → v < 2 ^ 32
  small f n v e h = rw e (lt_of_lt_of_le (bits_at-lt s (8 * f) (8 * n)) (pow_mono {i = 8 * n} {j = 32} (omega arith)))

  one_shl : (w : ℕ) → w ≤ 32 → 1 * 2 ^ w % 18446744073709551616 ≡ 2 ^ w
  one_shl w h = shl_exact {a = 1} 1 w 64 (omega arith) (omega arith) ∙ one-mul (2 ^ w)

  module _ (at w v : ℕ) (k : w ≤ 32) (e : v ≡ bits_at s (8 * (at / 8)) (8 * ((at + w + 7) / 8 - at / 8))) where
    pub got-bits : v / 2 ^ ((at + w + 7) / 8 * 8 - (at + w)) % (1 * 2 ^ w % 18446744073709551616) ≡ bits_at s at w
    got-bits =
        let n : 8 * ((at + w + 7) / 8 - at / 8) ≡ at % 8 + (w + ((at + w + 7) / 8 * 8 - (at + w))) = omega arith in
        let p : 8 * (at / 8) + at % 8 ≡ at = omega arith in
        rw (one_shl w k, e, n) (window (8 * (at / 8)) (at % 8) w ((at + w + 7) / 8 * 8 - (at + w)) ∙ ap (λ j. bits_at s j w) p)

  module _ (at w v : ℕ) (k : w ≤ 25) (e : v ≡ bits_at s (8 * (at / 8)) 32) where
    below : v < 2 ^ 32
    below = rw e (bits_at-lt s (8 * (at / 8)) 32)

    -- the bits that stand before are shifted out to the left, those after to the right
    pub shifted : v * 2 ^ (at % 8) % 18446744073709551616 % 4294967296 / 2 ^ (32 - w) ≡ bits_at s at w
    shifted =
        let r : 32 - w ≡ at % 8 + (32 - w - at % 8) = omega arith in
        let n : 32 ≡ at % 8 + (w + (32 - w - at % 8)) = omega arith in
        let p : 8 * (at / 8) + at % 8 ≡ at = omega arith in
        let j : 32 ≡ w + (32 - w) = omega arith in
        let a : v * 2 ^ (at % 8) % 18446744073709551616 ≡ v * 2 ^ (at % 8) = shl_exact {a = v} 32 (at % 8) 64 below (omega arith) in
        let b : v * 2 ^ (at % 8) % 4294967296 / 2 ^ (32 - w) ≡ v * 2 ^ (at % 8) / 2 ^ (32 - w) % 2 ^ w
        = ap (λ (i : ℕ). v * 2 ^ (at % 8) % 2 ^ i / 2 ^ (32 - w)) j ∙ field (v * 2 ^ (at % 8)) w (32 - w) in
        let c : v * 2 ^ (at % 8) / 2 ^ (32 - w) ≡ v / 2 ^ (32 - w - at % 8)
        = ap (λ (i : ℕ). v * 2 ^ (at % 8) / 2 ^ i) r
        ∙ sym (shr-shr (v * 2 ^ (at % 8)) (at % 8) (32 - w - at % 8))
        ∙ ap (λ (i : ℕ). i / 2 ^ (32 - w - at % 8)) (shl-shr v (at % 8)) in
        let d : v / 2 ^ (32 - w - at % 8) % 2 ^ w ≡ bits_at s (8 * (at / 8) + at % 8) w
        = ap (λ (i : ℕ). i / 2 ^ (32 - w - at % 8) % 2 ^ w) (e ∙ ap (bits_at s (8 * (at / 8))) n)
        ∙ window (8 * (at / 8)) (at % 8) w (32 - w - at % 8) in
        ap (λ (i : ℕ). i % 4294967296 / 2 ^ (32 - w)) a ∙ b ∙ ap (λ (i : ℕ). i % 2 ^ w) c ∙ d ∙ ap (λ (i : ℕ). bits_at s i w) p
