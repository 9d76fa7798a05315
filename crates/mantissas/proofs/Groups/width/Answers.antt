use native.Mathlib.Omega.{arith}
use borrow.Author.Tests.{ne_eqb}
use Rattle.mantissas.specs.Mantissas.{width_of}
use Rattle.mantissas.proofs.Groups.width.Goals as goal

pub returns-in-1 : goal.returns-in-1
unfolding width_of
returns-in-1 c = rw c.in-1.is c.opens.ensures

pub returns-in-2 : goal.returns-in-2
unfolding width_of
returns-in-2 c = rw c.in-2.is c.opens-in-2.ensures

pub returns-in-4 : goal.returns-in-4
unfolding width_of
returns-in-4 c = rw c.in-4.is c.opens-in-4.ensures

pub returns-in_default : goal.returns-in_default
unfolding width_of
returns-in_default c = rw (ne_eqb c.args.bap 1 (λ h. omega arith), ne_eqb c.args.bap 2 (λ h. omega arith), ne_eqb c.args.bap 4 (λ h. omega arith)) c.alone.ensures
