-- The register is linear: after the sum of two bytes, from the sum of two registers, it is the sum of what each of them
-- gives. Assumes nothing.
use mathlib.Core.Path.{◌≡◌, refl, ap, ap₂, ◌∙◌}
use Prim.Native.Nat.{ℕ, zero, suc, ◌*◌, ◌-◌, ◌/◌, ◌%◌, ◌^◌, ◌<◌}
use native.Mathlib.Nat.{mod-lt}
use native.Mathlib.Omega.{arith}
use lib.Bits.{bit_xor, xor_shr, xor_mod, xor_lt}
use lib.Dec.{lit<}
use Rattle.crc.specs.Crc.{step}
use Rattle.crc.specs.Table.{steps}
use Rattle.crc.specs.Bytes.{after}
use Rattle.crc.proofs.Xor.{bit, xor-shl, xor-medial}

-- the register keeps its 16 bits
pub step-lt : (r b : ℕ) → r < 65536 → b < 2 → step r b < 65536
unfolding step
step-lt r b hr hb =
    let out : bit_xor (r / 32768) b < 2 = xor_lt 1 (r / 32768) b (omega arith) hb in
    xor_lt 16 (r * 2 % 65536) (bit_xor (r / 32768) b * 0x8005) (mod-lt (r * 2) (lit< tt)) (omega arith)

pub after-lt : (r x k : ℕ) → r < 65536 → after r x k < 65536
unfolding after
after-lt r x zero h = h
after-lt r x (suc k) h = step-lt (after r x k) (x / 2 ^ (7 - k) % 2) (after-lt r x k h) (mod-lt (x / 2 ^ (7 - k)) (lit< tt))

pub steps-lt : (r n : ℕ) → r < 65536 → steps r n < 65536
unfolding steps
steps-lt r zero h = h
steps-lt r (suc n) h = step-lt (steps r n) 0 (steps-lt r n h) (lit< tt)

generator-xor : (x y : ℕ) → x < 2 → y < 2 → bit_xor x y * 0x8005 ≡ bit_xor (x * 0x8005) (y * 0x8005)
generator-xor x y hx hy =
    bit (λ (u : ℕ). bit_xor u y * 0x8005 ≡ bit_xor (u * 0x8005) (y * 0x8005)) refl
    (bit (λ (v : ℕ). bit_xor 1 v * 0x8005 ≡ bit_xor 0x8005 (v * 0x8005)) refl refl y hy) x hx

step-xor : (r s a b : ℕ) → r < 65536 → s < 65536 → a < 2 → b < 2
    → step (bit_xor r s) (bit_xor a b) ≡ bit_xor (step r a) (step s b)
unfolding step
step-xor r s a b hr hs ha hb =
    ap₂ bit_xor
    (ap (λ (x : ℕ). x % 65536) (xor-shl 1 r s) ∙ xor_mod (r * 2) (s * 2) 16)
    (ap (λ (x : ℕ). x * 0x8005) (ap (λ (x : ℕ). bit_xor x (bit_xor a b)) (xor_shr r s 15) ∙ xor-medial (r / 32768) (s / 32768) a b)
    ∙ generator-xor (bit_xor (r / 32768) a) (bit_xor (s / 32768) b) (xor_lt 1 (r / 32768) a (omega arith) ha) (xor_lt 1 (s / 32768) b (omega arith) hb))
    ∙ xor-medial (r * 2 % 65536) (s * 2 % 65536) (bit_xor (r / 32768) a * 0x8005) (bit_xor (s / 32768) b * 0x8005)

pub after-xor : (k r s x y : ℕ) → r < 65536 → s < 65536 → after (bit_xor r s) (bit_xor x y) k ≡ bit_xor (after r x k) (after s y k)
unfolding after
after-xor zero r s x y hr hs = refl
after-xor (suc k) r s x y hr hs =
    ap₂ step (after-xor k r s x y hr hs) (ap (λ (z : ℕ). z % 2) (xor_shr x y (7 - k)) ∙ xor_mod (x / 2 ^ (7 - k)) (y / 2 ^ (7 - k)) 1)
    ∙ step-xor (after r x k) (after s y k) (x / 2 ^ (7 - k) % 2) (y / 2 ^ (7 - k) % 2) (after-lt r x k hr) (after-lt s y k hs)
    (mod-lt (x / 2 ^ (7 - k)) (lit< tt)) (mod-lt (y / 2 ^ (7 - k)) (lit< tt))
