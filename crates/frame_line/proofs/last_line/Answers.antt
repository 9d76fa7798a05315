-- One after the other, and there is room for it.
use Rattle.names.specs.Spelling.{bytes}
use Rattle.print.proofs.Adds.{◌then◌, whole}
use Rattle.frame_line.specs.Lines.{sums_of}
use Rattle.frame_line.proofs.Lengths.{sums-short}
use Rattle.frame_line.proofs.last_line.Goals as goal

pub returns : goal.returns
unfolding sums_of bytes
returns c =
    whole c.new-out.ensures
    (c.decimal.ensures then c.put.ensures then c.decimal-2.ensures then c.put-2.ensures then c.decimal-3.ensures then c.put-3.ensures)
    (sums-short c.args.frames c.args.all c.args.passed)
