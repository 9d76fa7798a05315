use mathlib.Core.Path.{◌≡◌}
use Prim.Native.Nat.{◌+◌, ◌-◌, ◌≤◌}
use Rattle.hybrid.specs.Hybrid.{active_in}
use Rattle.hybrid.proofs.active_in.Given as goal

abbrev pub invariant-loop-i : goal.invariant-loop-i
invariant-loop-i l = (l.n + l.start ≤ l.i) × (l.n ≤ 256) × (active_in l.mode l.baps l.slot l.start (l.end - l.start) ≡ l.n + active_in l.mode l.baps l.slot l.i (l.end - l.i))
