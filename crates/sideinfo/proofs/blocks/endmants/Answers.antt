use Rattle.sideinfo.specs.Blocks.{endmants_of, endmants_by}
use Rattle.sideinfo.proofs.StepLaws.{each_all, each_more, each_none}
use mathlib.Core.Path.{◌≡◌}
use native.Mathlib.Omega.{arith}
use Rattle.sideinfo.proofs.blocks.endmants.Goals as goal

pub loop-ch-init : goal.loop-ch-init
loop-ch-init c = each_none _ _

pub loop-ch-preserved : goal.loop-ch-preserved
loop-ch-preserved c = each_more _ _ _ _ _ c.loop-ch.invariant (rw (c.put.ensures, c.endmant-end.ensures))

pub returns : goal.returns
unfolding endmants_by
returns c =
    let e : c.loop-ch.cells ≡ endmants_of c.channels-n.result c.cpl_bins.new.cells = each_all _ _ _ _ _ c.loop-ch.invariant (omega arith) in
    rw (e, c.cpl_bins.ensures, c.channels-n.ensures.0)
