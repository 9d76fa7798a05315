-- What the search's code goes by: the next position that may hold a frame.
use Rattle.std.specs.Prelude.{◌≡◌, List, ℕ, ◌≤◌, ◌<◌, drop}
use Rattle.bits.specs.Bits.{bits_at}

-- the sync word stands at the position p
abbrev pub Synced : List ℕ → ℕ → Type 0
Synced s p = bits_at (drop p s) 0 16 ≡ 0x0B77

-- r is the first position with the sync word from one on, up to a last one, which it is if none before it has the word
pub record Passes (s : List ℕ) (from last r : ℕ) : Type 0 where
  pub low : from ≤ r
  pub high : r ≤ last
  pub none : (p : ℕ) → from ≤ p → p < r → ¬ Synced s p
  pub stops : r < last → Synced s r
