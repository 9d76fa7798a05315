-- The numbers before i are written.
use Rattle.std.proofs.Common.{◌≡◌, length}
use Rattle.answer_c.specs.Numbers.{written}
use Rattle.answer_c.proofs.lay_from.Given as goal

abbrev pub invariant-loop-i : goal.invariant-loop-i
invariant-loop-i l = (l.out ≡ written l.initial.out l.at l.numbers l.i) × (length l.out ≡ length l.initial.out)
