use native.Mathlib.Omega.{arith}
use Rattle.std.proofs.lemmas.Bool.Decides.{nat_tests}
use Rattle.skim.proofs.BitTables.{gaq-is}
use Rattle.hybrid.proofs.gaq_bits.Goals as goal

pub returns-in-0-to-9 : goal.returns-in-0-to-9
returns-in-0-to-9 c = rw (gaq-is c.args.row) (grind (arith, nat_tests))

pub returns-in-10 : goal.returns-in-10
returns-in-10 c = rw (gaq-is c.args.row) (grind (arith, nat_tests))

pub returns-in-11 : goal.returns-in-11
returns-in-11 c = rw (gaq-is c.args.row) (grind (arith, nat_tests))

pub returns-in_default : goal.returns-in_default
returns-in_default c = rw (gaq-is c.args.row) (grind (arith, nat_tests))
