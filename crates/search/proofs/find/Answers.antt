use mathlib.Core.Path.{sym, ◌∙◌}
use borrow.Author.Rules.{part_to_end}
use native.Mathlib.Omega.{arith}
use Rattle.reading.specs.Room.{room}
use Rattle.search.proofs.Finding.{first-turn, inside, room-is, turn-finds, turn_on, number_is, numbered, turn-none}
use Rattle.search.proofs.find.Goals as goal

pub loop-tried-init : goal.loop-tried-init
loop-tried-init c = first-turn _ _ _ _

pub overflow_add-from : goal.overflow_add-from
overflow_add-from c = omega (arith, inside _ _ _ c.saturating_sub.ensures c.positions-whole.ensures c.loop-tried-test.true, c.loop-tried-test.true)

pub overflow_sub-last : goal.overflow_sub-last
overflow_sub-last c = omega (arith, c.loop-tried-test.true)

pub overflow_add-last : goal.overflow_add-last
overflow_add-last c = omega (arith, inside _ _ _ c.saturating_sub.ensures c.positions-whole.ensures c.loop-tried-test.true, c.loop-tried-test.true)

pub furthest-requires : goal.furthest-requires
furthest-requires c = omega (arith, c.loop-tried-test.true)

pub candidate-at-requires : goal.candidate-at-requires
candidate-at-requires c = (c.furthest.ensures.0, omega (arith, c.furthest.ensures.1, inside _ _ _ c.saturating_sub.ensures c.positions-whole.ensures c.loop-tried-test.true))

pub slice_bounds-parse-count : goal.slice_bounds-parse-count
slice_bounds-parse-count c = omega (arith, c.candidate-at.ensures.high, c.furthest.ensures.1, inside _ _ _ c.saturating_sub.ensures c.positions-whole.ensures c.loop-tried-test.true)

pub overflow_sub-tried : goal.overflow_sub-tried
overflow_sub-tried c = omega (arith, c.candidate-at.ensures.low)

pub overflow_add-tried : goal.overflow_add-tried
overflow_add-tried c = omega (arith, c.candidate-at.ensures.high, c.candidate-at.ensures.low, c.furthest.ensures.1, inside _ _ _ c.saturating_sub.ensures c.positions-whole.ensures c.loop-tried-test.true)

pub returns-then-ends : goal.returns-then-ends
returns-then-ends c = turn-finds _ c.loop-tried.invariant c.saturating_sub.ensures c.positions-whole.ensures c.loop-tried-test.true (room-is (room c.args.names.now c.args.blocks.now c.args.indexes.now c.args.firsts.now c.args.widths.now c.args.values.now) c.least-room.ensures) c.furthest.ensures c.candidate-at.ensures (part_to_end c.args.capture.now c.candidate-at.result) (record { names = c.parse-read.auto.names; blocks = c.parse-read.auto.blocks; indexes = c.parse-read.auto.indexes; firsts = c.parse-read.auto.firsts; widths = c.parse-read.auto.widths; values = c.parse-read.auto.values }) c.parse-read.ensures (sym c.ends.ensures ∙ c.if-ends.true)

pub loop-tried-smaller : goal.loop-tried-smaller
loop-tried-smaller c = omega (arith, c.candidate-at.ensures.low, c.loop-tried-test.true)

pub loop-tried-preserved : goal.loop-tried-preserved
loop-tried-preserved c = turn_on _ c.loop-tried.invariant c.saturating_sub.ensures c.positions-whole.ensures c.loop-tried-test.true (room-is (room c.args.names.now c.args.blocks.now c.args.indexes.now c.args.firsts.now c.args.widths.now c.args.values.now) c.least-room.ensures) c.furthest.ensures c.candidate-at.ensures (part_to_end c.args.capture.now c.candidate-at.result) (record { names = c.parse-read.auto.names; blocks = c.parse-read.auto.blocks; indexes = c.parse-read.auto.indexes; firsts = c.parse-read.auto.firsts; widths = c.parse-read.auto.widths; values = c.parse-read.auto.values }) c.parse-read.ensures (sym c.ends.ensures ∙ c.if-ends.false) c.count_of-count.ensures

pub returns : goal.returns
returns c = turn-none _ c.loop-tried.invariant c.saturating_sub.ensures c.positions-whole.ensures c.positions-tries.ensures c.loop-tried-test.false (number_is _ c.saturating_sub-2.ensures (numbered _ _ c.none_left-none.ensures)) c.last_count.ensures c.none_found.ensures
