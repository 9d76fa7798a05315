use Rattle.std.proofs.Common.{◌≡◌, ◌-◌, length}
use Rattle.exponents.specs.Exponents.{spread_of}
use Rattle.exponents.proofs.spread.Given as goal

abbrev pub invariant-loop-k : goal.invariant-loop-k
invariant-loop-k g l = record { left : spread_of l.initial.exps l.slot l.bin g.row.N l.e ≡ spread_of l.exps l.slot l.k (l.k-end - l.k) l.e; size : length l.exps ≡ 1792 }
