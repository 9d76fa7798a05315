use Rattle.std.proofs.Common.{refl, arith, rules}
use Rattle.sideinfo.specs.Steps.{sum_of}
use Rattle.slot_table.proofs.Parts.{one_more, most_more}
use Rattle.slot_table.proofs.slot_sum.Goals as goal

pub loop-block-init : goal.loop-block-init
unfolding sum_of
loop-block-init c = (refl, omega arith)

pub loop-block-preserved : goal.loop-block-preserved
loop-block-preserved c = (
  one_more c.args.blocks.now c.args.slot _ _ c.loop-block.invariant.0 _ (omega arith),
  most_more c.loop-block.block c.loop-block.invariant.1 (search rules),
)
