-- The blocks before this one stand in the text.
use Rattle.print.specs.Text.{Adds}
use Rattle.slot_table.specs.SlotTable.{rows_of}
use Rattle.slot_table.proofs.table.Given as goal

abbrev pub invariant-loop-block : goal.invariant-loop-block
invariant-loop-block g l = Adds g.row.N l.initial.out (rows_of l.f.slot_bits l.nfchans l.block) l.out
