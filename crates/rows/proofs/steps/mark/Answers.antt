use Rattle.rows.specs.Rows.{counter_in}
use Rattle.rows.proofs.StepLaws.{put-none, only-repeated}
use borrow.Author.Tests.{eq-eqb, ne_eqb}
use Rattle.rows.proofs.steps.mark.Goals as goal

pub returns-in-Repeated : goal.returns-in-Repeated
unfolding counter_in
returns-in-Repeated c = rw (eq-eqb _ _ c.in-Repeated.ensures, c.put.ensures, c.field.ensures)

pub returns-in_default : goal.returns-in_default
unfolding counter_in
returns-in_default c = rw (ne_eqb _ _ (only-repeated _ _ c.of.ensures c.in_default.not-Repeated)) (put-none _ _)
