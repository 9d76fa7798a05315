use native.Mathlib.Omega.{arith}
use borrow.Author.Tests.{ne_eqb}
use Rattle.mantissas.specs.Mantissas.{counted_of}
use Rattle.mantissas.proofs.Groups.counted.Goals as goal

pub returns-in-1 : goal.returns-in-1
unfolding counted_of
returns-in-1 c = rw (c.in-1.is, c.turn.ensures)

pub returns-in-2 : goal.returns-in-2
unfolding counted_of
returns-in-2 c = rw (c.in-2.is, c.turn-in-2.ensures)

pub returns-in-4 : goal.returns-in-4
unfolding counted_of
returns-in-4 c = rw (c.in-4.is, c.turn-in-4.ensures)

pub returns-in_default : goal.returns-in_default
unfolding counted_of
returns-in_default c = rw (ne_eqb c.args.bap 1 (λ h. omega arith), ne_eqb c.args.bap 2 (λ h. omega arith), ne_eqb c.args.bap 4 (λ h. omega arith))
