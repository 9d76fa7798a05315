-- Seven entries, and their sum.
use Rattle.slot_table.specs.SlotTable.{bits_of}
use Rattle.slot_table.proofs.Eight.{eight}
use Rattle.slot_table.proofs.slot_sums.Goals as goal

pub returns : goal.returns
returns c = eight (bits_of c.args.blocks.now) c.slot_sum-a.ensures.0 c.slot_sum-b.ensures.0 c.slot_sum-c.ensures.0 c.slot_sum-d.ensures.0 c.slot_sum-e.ensures.0 c.slot_sum-cpl.ensures.0 c.slot_sum-lfe.ensures.0
