use Prim.Native.Nat.{◌-◌}
use Rattle.cells.specs.Cells.{state}
use Rattle.slots.specs.Held.{bins}
use Rattle.syntax.specs.Rooms.{room_of, SameSlices}
use Rattle.walk.proofs.Walks.{EachInv, RowsInv, weigh}
use Rattle.walk.proofs.+each.Given as goal

abbrev pub decreases-each : goal.decreases-each
decreases-each l = l.to - l.from

abbrev pub invariant-loop-pc : goal.invariant-loop-pc
invariant-loop-pc l = RowsInv l.src l.limit.0 l.table l.from l.to l.initial.cur.at.0 l.initial.cur.count (state l.initial.cells (bins l.initial.exps l.initial.baps)) (room_of l.initial.room) l.cur.at.0 l.cur.count (state l.cells (bins l.exps l.baps)) (room_of l.room) l.memo l.pc l.left l.last × SameSlices l.initial.room l.room

abbrev pub decreases-loop-pc : goal.decreases-loop-pc
decreases-loop-pc l = weigh l.to l.pc l.left

abbrev pub invariant-loop-j : goal.invariant-loop-j
invariant-loop-j l = EachInv l.src l.limit.0 l.table l.from l.to l.i l.n l.counter l.initial.cur.at.0 l.initial.cur.count (state l.initial.cells (bins l.initial.exps l.initial.baps)) (room_of l.initial.room) l.cur.at.0 l.cur.count (state l.cells (bins l.exps l.baps)) (room_of l.room) l.memo l.j × SameSlices l.initial.room l.room
