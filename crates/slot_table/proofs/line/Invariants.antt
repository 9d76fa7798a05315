-- The channels before ch stand in the text.
use Rattle.print.specs.Text.{Adds}
use Rattle.slot_table.specs.SlotTable.{full_of}
use Rattle.slot_table.proofs.line.Given as goal

abbrev pub invariant-loop-ch : goal.invariant-loop-ch
invariant-loop-ch g l = Adds g.row.N l.initial.out (full_of l.frame l.x l.ch) l.out
