-- The rule of log addition (A/52 7.2.2.3, TS 102 366 6.2.2.3): each entry against the one before it.
-- Proved in proofs/Neighbours.antt.
use Rattle.std.specs.Prelude.{◌≡◌, ◌⊎◌, ℕ, ◌+◌, ◌-◌, ◌≤◌, length, get_or}
use Rattle.tables.specs.BitAllocation.{latab}

-- of 256 entries the first is 64; each other one, at 1 to 255, equals the one before or is one less
pub record Neighbours : Type 0 where
  pub entries : length latab ≡ 256
  pub first : get_or latab 0 0 ≡ 64
  pub next : (i : ℕ) → 1 ≤ i → i ≤ 255 → (get_or latab i 0 ≡ get_or latab (i - 1) 0) ⊎ (get_or latab i 0 + 1 ≡ get_or latab (i - 1) 0)
