use mathlib.Core.Path.{◌≡◌}
use Prim.Native.Nat.{◌-◌}
use Rattle.alloc.specs.Levels.{decay_from_l}
use Rattle.masking.proofs.Bands.decay_from.Given as goal

abbrev pub invariant-loop-b : goal.invariant-loop-b
invariant-loop-b l =
    decay_from_l l.self.powers.now l.self.last 5 2 ≡ decay_from_l l.self.powers.now l.self.last (7 - l.b) l.b
