-- A turn of the loop reads at the next position with the sync word, or at the last one with 6 bytes; the positions between leave nothing behind.
use Prim.Native.Nat.{◌-◌}
use Rattle.reading.specs.Room.{room}
use Rattle.search.proofs.Finding.{Turn}
use Rattle.search.proofs.find.Given as goal

abbrev pub invariant-loop-tried : goal.invariant-loop-tried
invariant-loop-tried l =
    Turn l.capture (room l.initial.names l.initial.blocks l.initial.indexes l.initial.firsts l.initial.widths l.initial.values) l.start l.whole l.tried l.count (room l.names l.blocks l.indexes l.firsts l.widths l.values)

abbrev pub decreases-loop-tried : goal.decreases-loop-tried
decreases-loop-tried l = l.whole - l.tried
