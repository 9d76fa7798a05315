-- The channels before ch stand in the text.
use Rattle.print.specs.Text.{Adds}
use Rattle.strategy_table.specs.Table.{full_of}
use Rattle.strategy_table.proofs.row.Given as goal

abbrev pub invariant-loop-ch : goal.invariant-loop-ch
invariant-loop-ch g l = Adds g.row.N l.initial.out (full_of l.r l.count l.block l.ch) l.out
