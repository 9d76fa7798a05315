-- By the callees.
use Rattle.std.proofs.Common.{refl, to_z-of_z, w8, w16}
use mir.Facts.{sfits_widen}
use Rattle.replay.specs.Sums.{added_of}
use Rattle.replay.proofs.sums.Sum.add_record.Goals as goal

pub returns : goal.returns
unfolding added_of
returns c =
    rw (c.add-7.ensures, c.add-6.ensures, c.add-5.ensures, c.add-4.ensures, c.add-3.ensures, c.raised-2.ensures, c.add-2.ensures, c.raised.ensures, c.from-2.ensures, c.add.ensures, c.from.ensures)
    (rw (to_z-of_z {w = w16} {z = c.args.index} c.ranges.index) (rw (to_z-of_z {w = w8} {z = c.args.block} c.ranges.block) (rw (to_z-of_z {w = w16} {z = c.args.block} (sfits_widen {w = w8} {w' = w16} tt c.ranges.block)) refl)))
