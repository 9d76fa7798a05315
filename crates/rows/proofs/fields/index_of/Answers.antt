use Rattle.rows.specs.Rows.{index_in}
use Rattle.rows.proofs.StepLaws.{no_cell, only-element}
use borrow.Author.Tests.{eq-eqb, ne_eqb}
use Rattle.rows.proofs.fields.index_of.Goals as goal

pub returns-in-Element : goal.returns-in-Element
unfolding index_in
returns-in-Element c = rw (eq-eqb _ _ c.in-Element.ensures, c.field-number.ensures) (no_cell _ _)

pub returns-in_default : goal.returns-in_default
unfolding index_in
returns-in_default c = rw (ne_eqb _ _ (only-element _ _ c.of.ensures c.in_default.not-Element), c.cell_of.ensures, c.field.ensures, c.field-number.ensures)
