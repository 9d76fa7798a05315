use Rattle.sideinfo.specs.Blocks.{ncplbnd_by}
use Rattle.sideinfo.proofs.blocks.ncplbnd.Goals as goal

pub returns : goal.returns
unfolding ncplbnd_by
returns c = rw (c.put.ensures, c.bands-n.ensures, c.cell_of-b.ensures, c.cell_of-e.ensures)
