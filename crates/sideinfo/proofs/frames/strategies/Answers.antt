use Rattle.sideinfo.proofs.StepLaws.{each_all, each_more, each_none}
use native.Mathlib.Omega.{arith}
use Rattle.sideinfo.proofs.frames.strategies.Goals as goal

pub loop-i-init : goal.loop-i-init
loop-i-init c = each_none _ _

pub loop-i-preserved : goal.loop-i-preserved
loop-i-preserved c = each_more _ _ _ _ _ c.loop-i.invariant (rw (c.put.ensures, c.entry.ensures, c.frame_expstr-table.ensures))

pub returns : goal.returns
returns c = each_all _ _ _ _ _ c.loop-i.invariant (omega arith)
