use Rattle.sideinfo.specs.Frames.{cpl_strategies_by}
use Rattle.sideinfo.proofs.frames.cpl_strategies.Goals as goal

pub returns : goal.returns
unfolding cpl_strategies_by
returns c = rw (c.strategies.ensures, c.cell_of-code.ensures)
