-- One after the other, and there is room for it.
use Rattle.std.proofs.Common.{ap}
use Rattle.print.specs.Text.{right_of}
use Rattle.print.proofs.Adds.{◌then◌, meant, whole}
use Rattle.frame_line.proofs.Lengths.{line-short}
use Rattle.frame_line.proofs.frame_line.Goals as goal

pub returns : goal.returns
returns c =
    whole c.new-out.ensures
    (c.right.ensures then c.right-2.ensures then c.right-3.ensures then c.right-4.ensures
    then (meant c.mode.ensures c.put.ensures then meant c.lfe.ensures c.put-2.ensures)
    then (meant (ap (right_of 7) c.rate.ensures) c.right-5.ensures then c.right-6.ensures then c.right-7.ensures then c.put-3.ensures))
    (line-short c.args.f c.args.position)
