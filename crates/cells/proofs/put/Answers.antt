use Rattle.cells.specs.Cells.{put_in}
use borrow.Author.Tests.{eq-eqb, ne_eqb}
use Rattle.cells.proofs.put.Goals as goal

pub returns-then-i-ne0 : goal.returns-then-i-ne0
unfolding put_in
returns-then-i-ne0 c = rw (ne_eqb _ _ c.if-i-ne0.true)

pub returns-else-i-ne0 : goal.returns-else-i-ne0
unfolding put_in
returns-else-i-ne0 c = rw (eq-eqb _ _ c.if-i-ne0.false)
