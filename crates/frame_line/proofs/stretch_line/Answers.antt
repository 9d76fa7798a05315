-- One after the other, and there is room for it.
use Rattle.names.specs.Spelling.{bytes}
use Rattle.print.proofs.Adds.{◌then◌, whole}
use Rattle.frame_line.specs.Lines.{stretch_of}
use Rattle.frame_line.proofs.Lengths.{stretch-short}
use Rattle.frame_line.proofs.stretch_line.Goals as goal

pub returns : goal.returns
unfolding stretch_of bytes
returns c = whole c.new-out.ensures (c.right.ensures then c.right-2.ensures then c.put.ensures) (stretch-short c.args.position c.args.n)
