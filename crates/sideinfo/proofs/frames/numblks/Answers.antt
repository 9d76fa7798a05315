use Rattle.sideinfo.specs.Frames.{numblks_by}
use Rattle.sideinfo.proofs.frames.numblks.Goals as goal

pub returns : goal.returns
unfolding numblks_by
returns c = rw (c.put.ensures, c.blocks_of.ensures, c.cell_of-code.ensures)
