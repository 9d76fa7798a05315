use Rattle.sideinfo.proofs.FrameLaws.{width-le}
use Rattle.sideinfo.specs.Frames.{blkstrtinfo_by}
use native.Mathlib.Omega.{arith}
use Rattle.sideinfo.proofs.frames.blkstrtinfo.Goals as goal

pub overflow_mul-blocks : goal.overflow_mul-blocks
overflow_mul-blocks c = record { fits = omega (arith, width-le _ _ c.saturating_sub-blocks.type_inv c.ceil_log2.ensures.1) }

pub returns : goal.returns
unfolding blkstrtinfo_by
returns c = rw (c.put.ensures, c.ceil_log2.ensures.0, c.saturating_sub-blocks.ensures, c.cell_of.ensures, c.cell_of-2.ensures)
