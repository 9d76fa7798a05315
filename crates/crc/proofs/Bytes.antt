-- One byte and two bytes at a time, by the tables. Assumes nothing.
use mathlib.Core.Path.{◌≡◌, refl, sym, ap, ap₂, ◌∙◌}
use mathlib.Core.List.{List}
use Prim.Native.Nat.{ℕ, zero, suc, ◌+◌, ◌*◌, ◌-◌, ◌/◌, ◌%◌, ◌^◌, ◌<◌, ◌≤◌}
use native.Mathlib.Nat.{add-zero, mod-lt, pow-suc}
use native.Mathlib.Omega.{arith}
use lib.Bits.{bit_xor, xor_block, xor_comm, xor_lt, xor_self, xor_zero_r}
use lib.Dec.{lit<}
use lib.ListN.{get_or}
use lib.Pow.{field, shl-shr, shr-shr, split}
use Rattle.crc.specs.Crc.{step}
use Rattle.crc.specs.Table.{steps, Stepped}
use Rattle.crc.specs.Bytes.{after}
use Rattle.crc.proofs.Xor.{xor-cancel}
use Rattle.crc.proofs.Linear.{steps-lt, after-xor}

-- where the bit that leaves is the bit that comes, the register only moves up
up : {q s t b : ℕ} → q ≡ s → s / 32768 ≡ b → s * 2 % 65536 ≡ t → step q b ≡ t
unfolding step
up {q} {s} {t} {b} e l u =
    ap (λ (x : ℕ). bit_xor (x * 2 % 65536) (bit_xor (x / 32768) b * 0x8005)) e
    ∙ ap₂ (λ (x y : ℕ). bit_xor x (bit_xor y b * 0x8005)) u l
    ∙ ap (λ (x : ℕ). bit_xor t (x * 0x8005)) (xor_self b)
    ∙ xor_zero_r t

-- the bit that leaves, after k steps in which the register has only moved up
bit-out : (r k : ℕ) → k ≤ 7 → r * 2 ^ k % 65536 / 32768 ≡ r / 256 / 2 ^ (7 - k) % 2
bit-out r k h =
    let all : 15 ≡ k + (15 - k) = omega arith in
    let rest : 15 - k ≡ 8 + (7 - k) = omega arith in
    field (r * 2 ^ k) 1 15
    ∙ ap (λ (x : ℕ). x % 2)
    (ap (λ (j : ℕ). r * 2 ^ k / 2 ^ j) all
    ∙ sym (shr-shr (r * 2 ^ k) k (15 - k))
    ∙ ap (λ (x : ℕ). x / 2 ^ (15 - k)) (shl-shr r k)
    ∙ ap (λ (j : ℕ). r / 2 ^ j) rest
    ∙ sym (shr-shr r 8 (7 - k)))

-- the byte that comes is the register's high byte: the low byte moves up
moved : (r k : ℕ) → r < 65536 → k ≤ 8 → after r (r / 256) k ≡ r * 2 ^ k % 65536
unfolding after
moved r zero h l = omega arith
moved r (suc k) h l =
    let twice : r * 2 ^ k % 65536 * 2 % 65536 ≡ r * 2 ^ suc k % 65536 = rw (pow-suc 2 k) (omega arith) in
    up (moved r k h (omega arith)) (bit-out r k (omega arith)) twice

pub high-out : (r : ℕ) → r < 65536 → after r (r / 256) 8 ≡ r % 256 * 256
high-out r h = let low : r * 256 % 65536 ≡ r % 256 * 256 = omega arith in moved r 8 h (omega arith) ∙ low

-- the register r is one with the high byte b, and on it the sum of b and its own high byte
parts : (r b : ℕ) → r ≡ bit_xor (b * 256 + r % 256) (bit_xor (r / 256) b * 256)
parts r b =
    sym
    (ap (bit_xor (b * 256 + r % 256)) (sym (add-zero (bit_xor (r / 256) b * 256)))
    ∙ xor_block 8 b (bit_xor (r / 256) b) (r % 256) 0 (mod-lt r (lit< tt)) (lit< tt)
    ∙ ap₂ (λ (x y : ℕ). x * 256 + y) (xor-cancel b (r / 256)) (xor_zero_r (r % 256))
    ∙ split r 8)

pub high_lt : (r b : ℕ) → r < 65536 → b < 256 → bit_xor (r / 256) b < 256
high_lt r b hr hb = xor_lt 8 (r / 256) b (omega arith) hb

pub low-lt : (r b : ℕ) → b < 256 → bit_xor (r % 256) b < 256
low-lt r b hb = xor_lt 8 (r % 256) b (mod-lt r (lit< tt)) hb

-- zeros come
zeros : (r : ℕ) → after r 0 8 ≡ steps r 8
unfolding after steps
zeros r = refl

zeros-again : (r : ℕ) → after (steps r 8) 0 8 ≡ steps r 16
unfolding after steps
zeros-again r = refl

byte : (r b : ℕ) → r < 65536 → b < 256 → after r b 8 ≡ bit_xor (r % 256 * 256) (steps (bit_xor (r / 256) b * 256) 8)
byte r b hr hb =
    let k : bit_xor (r / 256) b < 256 = high_lt r b hr hb in
    let one : b * 256 + r % 256 < 65536 = omega arith in
    let other : bit_xor (r / 256) b * 256 < 65536 = omega arith in
    let high : (b * 256 + r % 256) / 256 ≡ b = omega arith in
    let low : (b * 256 + r % 256) % 256 ≡ r % 256 = omega arith in
    ap₂ (λ (x y : ℕ). after x y 8) (parts r b) (sym (xor_zero_r b))
    ∙ after-xor 8 (b * 256 + r % 256) (bit_xor (r / 256) b * 256) b 0 one other
    ∙ ap₂ bit_xor
    (ap (λ (x : ℕ). after (b * 256 + r % 256) x 8) (sym high) ∙ high-out (b * 256 + r % 256) one ∙ ap (λ (x : ℕ). x * 256) low)
    (zeros (bit_xor (r / 256) b * 256))

-- a byte that comes to an empty low byte
byte_high : (l b : ℕ) → l < 256 → b < 256 → after (l * 256) b 8 ≡ steps (bit_xor l b * 256) 8
byte_high l b hl hb =
    let none : l * 256 % 256 * 256 ≡ 0 = omega arith in
    let same : l * 256 / 256 ≡ l = omega arith in
    byte (l * 256) b (omega arith) hb ∙ ap₂ (λ (x y : ℕ). bit_xor x (steps (bit_xor y b * 256) 8)) none same

two : (r a b : ℕ) → r < 65536 → a < 256 → b < 256
    → after (after r a 8) b 8 ≡ bit_xor (steps (bit_xor (r / 256) a * 256) 16) (steps (bit_xor (r % 256) b * 256) 8)
two r a b hr ha hb =
    let k : bit_xor (r / 256) a < 256 = high_lt r a hr ha in
    let low : r % 256 < 256 = mod-lt r (lit< tt) in
    let high : bit_xor (r / 256) a * 256 < 65536 = omega arith in
    ap₂ (λ (x y : ℕ). after x y 8) (byte r a hr ha) (sym (xor_zero_r b))
    ∙ after-xor 8 (r % 256 * 256) (steps (bit_xor (r / 256) a * 256) 8) b 0 (omega arith) (steps-lt (bit_xor (r / 256) a * 256) 8 high)
    ∙ ap₂ bit_xor (byte_high (r % 256) b low hb) (zeros-again (bit_xor (r / 256) a * 256))
    ∙ xor_comm (steps (bit_xor (r % 256) b * 256) 8) (steps (bit_xor (r / 256) a * 256) 16)

-- what the code computes of a byte, and of two
pub took : {t : List ℕ} (r b : ℕ) → Stepped 8 t → r < 65536 → b < 256
    → bit_xor (r * 256 % 65536) (get_or t (bit_xor (r / 256) b) 0) ≡ after r b 8
took r b s hr hb =
    let moved : r * 256 % 65536 ≡ r % 256 * 256 = omega arith in
    ap₂ bit_xor moved (s.each (bit_xor (r / 256) b) (high_lt r b hr hb)) ∙ sym (byte r b hr hb)

pub took-two : {t u : List ℕ} (r a b : ℕ) → Stepped 8 t → Stepped 16 u → r < 65536 → a < 256 → b < 256
    → bit_xor (get_or u (bit_xor (r / 256) a) 0) (get_or t (bit_xor (r % 256) b) 0) ≡ after (after r a 8) b 8
took-two r a b s z hr ha hb =
    ap₂ bit_xor (z.each (bit_xor (r / 256) a) (high_lt r a hr ha)) (s.each (bit_xor (r % 256) b) (low-lt r b hb))
    ∙ sym (two r a b hr ha hb)
