-- The rule of the tables. Both are proved to keep it by one computed test each over all entries (proofs/Entries.antt).
use Rattle.std.specs.Prelude.{◌≡◌, List, ℕ, zero, suc, ◌*◌, ◌<◌, length, get_or}
use Rattle.crc.specs.Crc.{step}

-- a register after n one-bit steps, in each of which 0 comes
unfoldable pub steps : ℕ → ℕ → ℕ
steps r zero = r
steps r (suc n) = step (steps r n) 0

-- of 256 entries each is its index, as the high byte, taken through n one-bit steps
pub record Stepped (n : ℕ) (t : List ℕ) : Type 0 where
  pub entries : length t ≡ 256
  pub each : (k : ℕ) → k < 256 → get_or t k 0 ≡ steps (k * 256) n
