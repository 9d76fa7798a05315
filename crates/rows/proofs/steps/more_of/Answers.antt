use Rattle.rows.specs.Rows.{from_in}
use Rattle.rows.proofs.StepLaws.{only-repeated}
use native.Mathlib.Omega.{arith}
use borrow.Author.Tests.{eq-eqb, ne_eqb}
use Rattle.rows.proofs.steps.more_of.Goals as goal

pub returns-in-Repeated : goal.returns-in-Repeated
unfolding from_in
returns-in-Repeated c = rw (eq-eqb _ _ c.if-left-ne0.false, eq-eqb _ _ c.in-Repeated.ensures, c.saturating_sub.ensures, c.field.ensures)

pub returns-in_default : goal.returns-in_default
unfolding from_in
returns-in_default c = rw (eq-eqb _ _ c.if-left-ne0.false, ne_eqb _ _ (only-repeated _ _ c.of.ensures c.in_default.not-Repeated)) (omega arith)
