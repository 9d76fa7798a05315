use Rattle.rows.specs.Rows.{keep_in}
use Rattle.rows.proofs.StepLaws.{no-counters, only-element}
use native.Mathlib.Omega.{arith}
use borrow.Author.Tests.{eq-eqb, ne_eqb}
use Rattle.rows.proofs.fields.keep_of.Goals as goal

pub returns-in-Element : goal.returns-in-Element
unfolding keep_in
returns-in-Element c = (rw (eq-eqb _ _ c.in-Element.ensures, c.field-base.ensures) (no-counters _ _), omega arith)

pub returns-in_default : goal.returns-in_default
unfolding keep_in
returns-in_default c = (rw (ne_eqb _ _ (only-element _ _ c.of.ensures c.in_default.not-Element), c.spot.ensures.0, c.field-base.ensures, c.field.ensures, c.field-in_default.ensures), c.spot.ensures.1)
