use native.Mathlib.Omega.{arith}
use Rattle.std.proofs.lemmas.Bool.Decides.{nat_tests}
use Rattle.skim.proofs.BitTables.{bap-is}
use Rattle.mantissas.proofs.alone.Goals as goal

pub returns-in-3 : goal.returns-in-3
returns-in-3 c = rw (bap-is c.args.bap) (grind (arith, nat_tests))

pub returns-in-5-to-13 : goal.returns-in-5-to-13
returns-in-5-to-13 c = rw (bap-is c.args.bap) (grind (arith, nat_tests))

pub returns-in-14 : goal.returns-in-14
returns-in-14 c = rw (bap-is c.args.bap) (grind (arith, nat_tests))

pub returns-in-15 : goal.returns-in-15
returns-in-15 c = rw (bap-is c.args.bap) (grind (arith, nat_tests))

pub returns-in_default : goal.returns-in_default
returns-in_default c = rw (bap-is c.args.bap) (grind (arith, nat_tests))

pub returns-in_default-2 : goal.returns-in_default-2
returns-in_default-2 c = rw (bap-is c.args.bap) (grind (arith, nat_tests))
