use Prim.Native.Nat.{ℕ, ◌≤◌, ◌+◌, max}
use lib.ListN.{get_or}
use Rattle.alloc.specs.Levels.{delta_l}
use Rattle.alloc.specs.Premises.{Written}
use Rattle.segments.proofs.move_bands.Given as goal

abbrev pub invariant-loop-b : goal.invariant-loop-b
invariant-loop-b l =
    (l.b ≤ max l.from l.to) × Written (λ k. delta_l (get_or l.initial.out k 0) l.ba) l.from l.b l.initial.out l.out
    × ((k : ℕ) → get_or l.out k 0 ≤ get_or l.initial.out k 0 + 32768)
