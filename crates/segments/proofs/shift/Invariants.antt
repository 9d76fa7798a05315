use mathlib.Core.Path.{◌≡◌}
use Prim.Native.Nat.{ℕ, ◌≤◌, ◌+◌, ◌*◌}
use lib.ListN.{get_or}
use Rattle.alloc.specs.Allocation.{counter}
use Rattle.alloc.specs.Levels.{deltaed_l}
use Rattle.alloc.specs.Premises.{Written}
use Rattle.segments.proofs.shift.Given as goal

abbrev pub invariant-loop-i : goal.invariant-loop-i
invariant-loop-i l =
    (l.band ≤ 512 * l.i) × (l.band ≡ counter l.d l.i)
    × Written (λ b. deltaed_l l.d b (get_or l.initial.out b 0) l.i) l.first l.last l.initial.out l.out × ((k : ℕ) → get_or l.out k 0 ≤ 65536 + 32768 * l.i)
