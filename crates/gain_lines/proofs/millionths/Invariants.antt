-- Each halving is counted.
use Prim.Native.Nat.{◌+◌, ◌≤◌}
use Rattle.gain_lines.proofs.millionths.Given as goal

abbrev pub invariant-loop-m : goal.invariant-loop-m
invariant-loop-m l = (l.m + l.doubles ≤ l.n)

abbrev pub decreases-loop-m : goal.decreases-loop-m
decreases-loop-m l = l.m
