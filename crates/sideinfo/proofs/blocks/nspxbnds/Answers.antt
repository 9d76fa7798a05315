use Rattle.sideinfo.specs.Blocks.{nspxbnds_by}
use Rattle.sideinfo.proofs.blocks.nspxbnds.Goals as goal

pub returns : goal.returns
unfolding nspxbnds_by
returns c = rw (c.put.ensures, c.bands-n.ensures, c.cell_of-b.ensures, c.cell_of-e.ensures)
