-- What holds of a buffer s once a word of w bits, 8 or fewer, is written at the bit p, where its two bytes lie in the buffer and v has w bits. Proved in
-- proofs/Writing.antt.
use Rattle.std.specs.Prelude.{◌≡◌, List, ℕ, ◌+◌, length}
use Rattle.bits.specs.Bits.{bits_at, SameBits}
use Rattle.words.specs.Words.{with_word}

-- The bits of the word are the value; no other bit of the buffer has changed.
pub record Written (s : List ℕ) (p w v : ℕ) : Type 0 where
  pub size : length (with_word s p w v) ≡ length s
  pub value : bits_at (with_word s p w v) p w ≡ v
  pub before : SameBits (with_word s p w v) s 0 p
  pub behind : (q : ℕ) → SameBits (with_word s p w v) s (p + w) q
