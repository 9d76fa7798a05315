-- Bits of a buffer of bytes, the high bit of byte 0 first (A/52 clause 5.3, TS 102 366 clause 4.3).
use Rattle.std.specs.Prelude.{◌≡◌, ◌&&◌, cond, List, ℕ, zero, suc, ◌+◌, ◌*◌, ◌-◌, ◌/◌, ◌%◌, ◌^◌, ◌≤◌, ◌<◌, leb, length, get_or}

-- bit i of the buffer
unfoldable pub bit_at : List ℕ → ℕ → ℕ
bit_at b i = get_or b (i / 8) 0 / 2 ^ (7 - i % 8) % 2

-- the number that the w bits from p on are, the first of them the highest
unfoldable pub bits_at : List ℕ → ℕ → ℕ → ℕ
bits_at b p zero = 0
bits_at b p (suc w) = 2 * bits_at b p w + bit_at b (p + w)

-- the two buffers have the same bits from p up to q
abbrev pub SameBits : List ℕ → List ℕ → ℕ → ℕ → Type 0
SameBits x y p q = (i : ℕ) → p ≤ i → i < q → bit_at x i ≡ bit_at y i

-- what is read of w bits at p: 0 where they are more than 32 or pass the end of the buffer
unfoldable pub get_of : List ℕ → ℕ → ℕ → ℕ
get_of b p w = cond (leb w 32 && leb (p + w) (8 * length b)) (bits_at b p w) 0
