-- By what the cell shows.
use Rattle.std.proofs.Common.{ap}
use Rattle.print.proofs.Adds.{meant}
use Rattle.slot_table.specs.SlotTable.{tenths_of, cell_of}
use Rattle.slot_table.proofs.cell.Goals as goal

pub returns-in-Some : goal.returns-in-Some
unfolding cell_of
returns-in-Some g c = rw c.in-Some.is (meant (ap tenths_of c.share.ensures) c.tenths.ensures)

pub returns-in-None : goal.returns-in-None
unfolding cell_of
returns-in-None g c = rw c.in-None.is c.right.ensures
