-- The records before i are summed up.
use Rattle.std.proofs.Common.{◌≡◌}
use Rattle.replay.specs.Sums.{room_of, sum_of}
use Rattle.replay.proofs.sums.Sum.of_records.Given as goal

abbrev pub invariant-loop-i : goal.invariant-loop-i
invariant-loop-i l = l.sum ≡ sum_of (room_of l.r) l.i
