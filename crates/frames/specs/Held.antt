-- The bytes of a capture that the program holds, and what it finds in them.
use Rattle.std.specs.Prelude.{◌≡◌, ℕ, ◌-◌, ◌≤◌, min, Bool, cond, List, length, take, drop}
use Rattle.ingest.specs.Ingest.{empty}
use Rattle.search.specs.Find.{found_in}
use Rattle.search.specs.declared.Found.{Found}

-- how many positions from one on may be decided of n bytes that are held: those from which on 4,096 are held, or all where the capture has ended
abbrev pub allowance_of : ℕ → ℕ → Bool → ℕ
allowance_of n at ended = cond ended 18446744073709551615 (n - 4095 - at)

-- the next frame from one on, in the first `size` bytes, with room for the records of every frame
abbrev pub next_in : List ℕ → ℕ → ℕ → Bool → Found
next_in bytes size at ended = let n = min size (length bytes) in found_in (take n bytes) (empty 32782) at (allowance_of n at ended)

-- of the first `size` bytes those from one on
abbrev pub rest_of : List ℕ → ℕ → ℕ → ℕ
rest_of old first size = min size (length old) - first

-- they stand at the front, before the byte n
pub record Shifted (old : List ℕ) (first size : ℕ) (new : List ℕ) (n : ℕ) : Type 0 where
  pub within : n ≤ length new
  pub rest : rest_of old first size ≤ n
  pub front : take (rest_of old first size) new ≡ take (rest_of old first size) (drop first old)
