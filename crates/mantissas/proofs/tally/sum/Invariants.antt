use mathlib.Core.Path.{◌≡◌}
use Prim.Native.Nat.{◌+◌, ◌-◌}
use Rattle.mantissas.specs.Tally.{packed, tally_of}
use Rattle.mantissas.proofs.tally.sum.Given as goal

abbrev pub invariant-loop-i : goal.invariant-loop-i
invariant-loop-i l = l.x + packed (tally_of l.baps l.slot l.i (l.end - l.i)) ≡ packed (tally_of l.baps l.slot l.start (l.end - l.start))
