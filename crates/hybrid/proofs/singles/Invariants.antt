use Rattle.hybrid.proofs.HybridLaws.{Singled}
use Rattle.hybrid.proofs.singles.Given as goal

abbrev pub invariant-loop-i : goal.invariant-loop-i
invariant-loop-i l = Singled l.src l.initial.place.0 l.limit.0 l.large l.n l.gain l.place.0 l.i
