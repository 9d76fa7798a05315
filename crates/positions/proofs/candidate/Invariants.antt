-- The positions before p have no sync word.
use Rattle.positions.proofs.Syncs.{Going}
use Rattle.positions.proofs.candidate.Given as goal

abbrev pub invariant-loop-p : goal.invariant-loop-p
invariant-loop-p l = Going l.capture l.from l.last l.p
