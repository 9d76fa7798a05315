-- The leaks by their codes are in range.
-- Assumes nothing.
use mathlib.Core.Bool.{Bool, true, false}
use Prim.Native.Nat.{ℕ, ◌<◌, ◌≤◌, zero-le}
use Rattle.alloc.specs.Allocation.{fast_of, slow_of}
use Rattle.alloc.proofs.Codes.{codes-leak}
use Rattle.alloc_host.specs.Host.{leak_by}

pub leak-low : (t : Bool) (f s : ℕ) → f < 8 → s < 8 → (fast_of (leak_by t f s) ≤ 2560) × (slow_of (leak_by t f s) ≤ 2560)
leak-low true f s hf hs = codes-leak f s hf hs
leak-low false f s hf hs = (zero-le, zero-le)
