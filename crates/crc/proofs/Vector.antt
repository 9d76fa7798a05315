-- The remainder of the nine characters 123456789, as catalogues give it for this check (CRC-16/UMTS). Assumes nothing.
use mathlib.Core.Path.{◌≡◌, refl}
use mathlib.Core.List.{[], ◌∷◌}
use Rattle.bits.specs.Bits.{bit_at}
use Rattle.crc.specs.Crc.{step, remainder}

nine : remainder (49 ∷ 50 ∷ 51 ∷ 52 ∷ 53 ∷ 54 ∷ 55 ∷ 56 ∷ 57 ∷ []) 0 72 ≡ 0xfee8
unfolding bit_at step remainder
nine = refl
