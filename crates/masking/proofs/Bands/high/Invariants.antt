use Rattle.alloc.specs.Premises.{Excites}
use Rattle.masking.proofs.Bands.high.Given as goal

abbrev pub invariant-loop-b : goal.invariant-loop-b
invariant-loop-b l =
    Excites l.self.powers.now l.curve.gains l.self.first l.self.last l.from l.b l.initial.s l.s l.initial.out l.out
