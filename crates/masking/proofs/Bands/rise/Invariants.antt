use Rattle.alloc.specs.Premises.{Excites}
use Rattle.masking.proofs.Bands.rise.Given as goal

abbrev pub invariant-loop-b : goal.invariant-loop-b
invariant-loop-b l =
    Excites l.self.powers.now l.curve.gains 0 l.self.last 0 l.b l.initial.s l.s l.initial.out l.out
