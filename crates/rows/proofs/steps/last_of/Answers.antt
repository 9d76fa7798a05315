use Rattle.rows.specs.Rows.{to_in}
use Rattle.rows.proofs.StepLaws.{held_plain, only-repeated}
use borrow.Author.Tests.{eq-eqb, ne_eqb}
use Rattle.rows.proofs.steps.last_of.Goals as goal

pub returns-in-Repeated : goal.returns-in-Repeated
unfolding to_in
returns-in-Repeated c = rw (eq-eqb _ _ c.if-left-ne0.false, eq-eqb _ _ c.in-Repeated.ensures, c.cell_of.ensures, c.field.ensures) (held_plain _ _)

pub returns-in_default : goal.returns-in_default
unfolding to_in
returns-in_default c = rw (eq-eqb _ _ c.if-left-ne0.false, ne_eqb _ _ (only-repeated _ _ c.of.ensures c.in_default.not-Repeated))
