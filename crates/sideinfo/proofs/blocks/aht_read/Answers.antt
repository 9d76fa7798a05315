use Prim.Native.Nat.{◌+◌}
use mathlib.Core.Bool.{◌&&◌}
use mathlib.Core.Path.{◌≡◌}
use native.Mathlib.Omega.{arith}
use Rattle.std.proofs.Common.{rules}
use Rattle.cells.specs.Names.{AHTINU, LFEON}
use Rattle.sideinfo.proofs.BlockLaws.{aht-read}
use Rattle.sideinfo.proofs.StepLaws.{each_all, each_more, each_none}
use Rattle.sideinfo.specs.Blocks.{flag_of}
use Rattle.sideinfo.proofs.blocks.aht_read.Goals as goal

pub loop-slot-init : goal.loop-slot-init
loop-slot-init c = each_none _ _

pub loop-slot-preserved : goal.loop-slot-preserved
loop-slot-preserved c = each_more _ _ _ _ _ c.loop-slot.invariant c.keep_bits.ensures

pub loop-ch-init : goal.loop-ch-init
loop-ch-init c = each_none _ _

pub loop-ch-preserved : goal.loop-ch-preserved
loop-ch-preserved c = each_more _ _ _ _ _ c.loop-ch.invariant c.read_one.ensures

pub returns : goal.returns
returns c =
    let lfe : c.if-flag.lfe ≡ (flag_of c.loop-ch.cells LFEON && flag_of c.loop-ch.cells (AHTINU + 6)) = search rules in
    aht-read _ _ _ _ _ _ (rw (c.put.ensures, c.cell_of.ensures, c.cell_of-2.ensures)) (each_all _ _ _ _ _ c.loop-slot.invariant (omega arith))
    (each_all _ _ _ _ _ c.loop-ch.invariant (omega (arith, c.channels-n.ensures.0))) lfe c.mark.ensures
