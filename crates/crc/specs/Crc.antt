-- The cyclic redundancy check of a syncframe (A/52 clause 7.10.1, TS 102 366 clause 6.10.1), bit by bit: the remainder of
-- the bits, with sixteen zeros behind them, by the generator x^16 + x^15 + x^2 + 1, where sums are exclusive or. The
-- register has 16 bits, the high one for x^15; it starts at 0, and nothing is done to it at the end.
use Rattle.std.specs.Prelude.{List, ℕ, zero, suc, ◌+◌, ◌*◌, ◌-◌, ◌/◌, ◌%◌, set}
use Rattle.std.specs.Int.Bits.{bit_xor}
use Rattle.bits.specs.Bits.{bit_at}

-- One bit is taken in: the register moves up one place, and where the bit that leaves it and the bit that comes differ,
-- the terms of the generator below x^16 are added.
unfoldable pub step : ℕ → ℕ → ℕ
step r b = bit_xor (r * 2 % 65536) (bit_xor (r / 32768) b * 0x8005)

-- the remainder of n bits of a buffer, from bit p on
unfoldable pub remainder : List ℕ → ℕ → ℕ → ℕ
remainder s p zero = 0
remainder s p (suc n) = step (remainder s p n) (bit_at s (p + n))

-- crc2 of a frame of n bytes: the remainder of what stands between the sync word and crc2 itself
unfoldable pub crc2 : List ℕ → ℕ → ℕ
crc2 s n = remainder s 16 (8 * n - 32)

-- the frame with crc2 in its last two bytes, the high one first
unfoldable pub with_crc2 : List ℕ → ℕ → List ℕ
with_crc2 s n = set (set s (n - 2) (crc2 s n / 256)) (n - 1) (crc2 s n % 256)
