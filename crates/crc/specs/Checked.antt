-- What holds of a frame of n bytes, 4 or more, in a buffer s once its crc2 is set. Proved in proofs/Frame.antt.
use Rattle.std.specs.Prelude.{◌≡◌, List, ℕ, ◌*◌, ◌-◌, length}
use Rattle.bits.specs.Bits.{bits_at, SameBits}
use Rattle.crc.specs.Crc.{remainder, crc2, with_crc2}

-- The remainder from bit 16 to the frame's end is 0; crc2 is read back; no other bit of the buffer has changed.
pub record Checked (s : List ℕ) (n : ℕ) : Type 0 where
  pub size : length (with_crc2 s n) ≡ length s
  pub no_remainder : remainder (with_crc2 s n) 16 (8 * n - 16) ≡ 0
  pub value : bits_at (with_crc2 s n) (8 * n - 16) 16 ≡ crc2 s n
  pub before : SameBits (with_crc2 s n) s 0 (8 * n - 16)
  pub behind : (q : ℕ) → SameBits (with_crc2 s n) s (8 * n) q
