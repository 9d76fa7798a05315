-- The blocks before this one stand in the text.
use Rattle.print.specs.Text.{Adds}
use Rattle.strategy_table.specs.Table.{rows_of}
use Rattle.strategy_table.proofs.table.Given as goal

abbrev pub invariant-loop-block : goal.invariant-loop-block
invariant-loop-block g l = Adds g.row.N l.initial.out (rows_of l.r l.count l.nfchans l.block) l.out
