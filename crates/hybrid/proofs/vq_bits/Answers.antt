use native.Mathlib.Omega.{arith}
use Rattle.std.proofs.lemmas.Bool.Decides.{nat_tests}
use Rattle.skim.proofs.BitTables.{vq-is}
use Rattle.hybrid.proofs.vq_bits.Goals as goal

pub returns-in-1-to-4 : goal.returns-in-1-to-4
returns-in-1-to-4 c = rw (vq-is c.args.hebap) (grind (arith, nat_tests))

pub returns-in-5-to-7 : goal.returns-in-5-to-7
returns-in-5-to-7 c = rw (vq-is c.args.hebap) (grind (arith, nat_tests))

pub returns-in_default : goal.returns-in_default
returns-in_default c = rw (vq-is c.args.hebap) (grind (arith, nat_tests))

pub returns-in_default-2 : goal.returns-in_default-2
returns-in_default-2 c = rw (vq-is c.args.hebap) (grind (arith, nat_tests))
