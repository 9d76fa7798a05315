use Rattle.hybrid.proofs.HybridLaws.{Tripled}
use Rattle.hybrid.proofs.triples.Given as goal

abbrev pub invariant-loop-i : goal.invariant-loop-i
invariant-loop-i l = Tripled l.src l.initial.place.0 l.limit.0 l.n l.gain l.place.0 l.i
