-- The bound on log addition (A/52 7.2.2.3, TS 102 366 6.2.2.3), which the rule over neighbours of its table gives.
-- Proved in proofs/LogSums.antt.
use Rattle.std.specs.Prelude.{ℤ, pos, ◌+ℤ◌, ◌≤ℤ◌}
use Rattle.alloc.specs.Allocation.{max_z, logadd}

-- a sum is at least the larger argument, and at most 64 above it
pub record LogBound (a b : ℤ) : Type 0 where
  pub low : max_z a b ≤ℤ logadd a b
  pub high : logadd a b ≤ℤ (max_z a b +ℤ pos 64)
