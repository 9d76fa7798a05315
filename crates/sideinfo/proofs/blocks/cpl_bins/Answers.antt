use Rattle.sideinfo.specs.Blocks.{cpl_bins_by}
use Rattle.sideinfo.proofs.blocks.cpl_bins.Goals as goal

pub returns : goal.returns
unfolding cpl_bins_by
returns c = rw (c.put-2.ensures, c.put.ensures, c.bin-start.ensures, c.bin-end.ensures, c.cell_of.ensures, c.cell_of-2.ensures)
