use native.Mathlib.Omega.{arith}
use Rattle.std.proofs.lemmas.Bool.Decides.{nat_tests}
use Rattle.hybrid.specs.Hybrid.{active_of}
use Rattle.hybrid.proofs.active.Goals as goal

pub returns-then-hebap-ge8 : goal.returns-then-hebap-ge8
unfolding active_of
returns-then-hebap-ge8 c = grind (arith, nat_tests)

pub returns-else-hebap-ge8 : goal.returns-else-hebap-ge8
unfolding active_of
returns-else-hebap-ge8 c = grind (arith, nat_tests)
