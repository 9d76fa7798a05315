use Rattle.sideinfo.specs.Frames.{ch_strategies_by}
use Rattle.sideinfo.proofs.frames.ch_strategies.Goals as goal

pub returns : goal.returns
unfolding ch_strategies_by
returns c = rw (c.strategies.ensures, c.cell_of-code.ensures, c.cell_of-ch.ensures)
