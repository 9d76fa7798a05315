use Rattle.rows.specs.Rows.{at_in}
use Rattle.rows.proofs.StepLaws.{no-counters}
use borrow.Author.Tests.{eq-eqb, ne_eqb}
use Rattle.rows.proofs.steps.tested.Goals as goal

pub returns-then-w-eq1 : goal.returns-then-w-eq1
unfolding at_in
returns-then-w-eq1 c = rw (eq-eqb _ _ c.if-w-eq1.true, c.spot.ensures.0, c.field-base.ensures, c.field.ensures, c.field-then-w-eq1.ensures)

pub returns-else-w-eq1 : goal.returns-else-w-eq1
unfolding at_in
returns-else-w-eq1 c = rw (ne_eqb _ _ c.if-w-eq1.false, c.field-base.ensures) (no-counters _ _)
