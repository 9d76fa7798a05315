use Rattle.sideinfo.specs.Blocks.{spx_range_by}
use Rattle.sideinfo.proofs.blocks.spx_range.Goals as goal

pub returns : goal.returns
unfolding spx_range_by
returns c = rw (c.put-2.ensures, c.put.ensures, c.spx_begin-begin.ensures, c.spx_end-end.ensures, c.cell_of.ensures, c.cell_of-2.ensures)
