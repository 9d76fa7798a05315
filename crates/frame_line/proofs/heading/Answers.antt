-- There is room for it.
use Rattle.names.specs.Spelling.{bytes}
use Rattle.print.proofs.Adds.{whole}
use Rattle.frame_line.specs.Lines.{heading_of}
use Rattle.frame_line.proofs.Lengths.{heading-short}
use Rattle.frame_line.proofs.heading.Goals as goal

pub returns : goal.returns
unfolding heading_of bytes
returns c = whole c.new-out.ensures c.put.ensures heading-short
