use Rattle.std.proofs.Common.{length}
use Rattle.toy_run.proofs.main.Given as goal

abbrev pub decreases-loop-size : goal.decreases-loop-size
decreases-loop-size l = length l.rest
