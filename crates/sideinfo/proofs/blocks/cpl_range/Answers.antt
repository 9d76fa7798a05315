use Rattle.sideinfo.specs.Blocks.{cpl_range_by}
use Rattle.sideinfo.proofs.blocks.cpl_range.Goals as goal

pub returns : goal.returns
unfolding cpl_range_by
returns c = rw (c.put.ensures, c.cpl_end.ensures, c.flag-extended.ensures, c.cell_of-spxbegf.ensures, c.cell_of-cplendf.ensures)
