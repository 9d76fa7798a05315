use Rattle.sideinfo.specs.Blocks.{endmant_of}
use Rattle.sideinfo.proofs.blocks.endmant.Goals as goal

pub returns-then-coupled : goal.returns-then-coupled
unfolding endmant_of
returns-then-coupled c = rw (← c.coupled.ensures, c.if-coupled.true, c.cell_of.ensures)

pub returns-then-extended : goal.returns-then-extended
unfolding endmant_of
returns-then-extended c = rw (← c.coupled.ensures, c.if-coupled.false, ← c.extended.ensures, c.if-extended.true, c.cell_of-then-extended.ensures)

pub returns-else-extended : goal.returns-else-extended
unfolding endmant_of
returns-else-extended c = rw (← c.coupled.ensures, c.if-coupled.false, ← c.extended.ensures, c.if-extended.false, c.cell_of-else-extended.ensures)
