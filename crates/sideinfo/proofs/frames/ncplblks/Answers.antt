use Rattle.sideinfo.specs.Frames.{ncplblks_by}
use Rattle.sideinfo.proofs.frames.ncplblks.Goals as goal

pub returns : goal.returns
unfolding ncplblks_by
returns c = rw (c.put.ensures, c.count-blocks.ensures.0, c.cell_of-n.ensures)
