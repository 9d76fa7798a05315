use Rattle.sideinfo.specs.Frames.{nfchans_by}
use Rattle.sideinfo.proofs.frames.nfchans.Goals as goal

pub returns : goal.returns
unfolding nfchans_by
returns c = rw (c.put.ensures, c.entry.ensures, c.nfchans.ensures, c.cell_of-acmod.ensures)
