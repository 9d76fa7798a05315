use Rattle.sideinfo.specs.Frames.{nchregs_by, regions_by}
use Rattle.sideinfo.proofs.StepLaws.{each_all, each_more, each_none}
use mathlib.Core.Path.{◌≡◌}
use native.Mathlib.Omega.{arith}
use Rattle.sideinfo.proofs.frames.regions.Goals as goal

pub loop-ch-init : goal.loop-ch-init
loop-ch-init c = each_none _ _

pub loop-ch-preserved : goal.loop-ch-preserved
loop-ch-preserved c = each_more _ _ _ _ _ c.loop-ch.invariant (rw (c.put.ensures, c.regions_from-n.ensures))

pub returns : goal.returns
unfolding regions_by
returns c =
    let e : c.loop-ch.cells ≡ nchregs_by c.args.cells.now = each_all _ _ _ _ _ c.loop-ch.invariant (omega arith) in
    rw (c.put-3.ensures, c.regions_from-lfe.ensures, c.put-2.ensures, c.cpl_regions-cpl.ensures, e)
