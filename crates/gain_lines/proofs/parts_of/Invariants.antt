-- Halved steps: the number and two steps are at most 2^21.
use Prim.Native.Nat.{◌+◌, ◌*◌, ◌^◌, ◌≤◌}
use Rattle.gain_lines.proofs.parts_of.Given as goal

abbrev pub invariant-loop-step : goal.invariant-loop-step
invariant-loop-step l = l.n + 2 * l.step ≤ 2 ^ 21

abbrev pub decreases-loop-step : goal.decreases-loop-step
decreases-loop-step l = l.step
