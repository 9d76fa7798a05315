-- The records before i stand in the text.
use Rattle.print.specs.Text.{Adds}
use Rattle.listing.specs.Listing.{lines_of}
use Rattle.listing.proofs.lines.Given as goal

abbrev pub invariant-loop-i : goal.invariant-loop-i
invariant-loop-i g l = Adds g.row.N l.initial.out (lines_of l.r l.i) l.out
