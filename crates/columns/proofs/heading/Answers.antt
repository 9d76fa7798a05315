-- One after the other.
use Rattle.names.specs.Spelling.{bytes}
use Rattle.columns.specs.Columns.{heading_of}
use Rattle.print.proofs.Adds.{◌then◌, meant}
use Rattle.columns.proofs.heading.Goals as goal

pub returns : goal.returns
unfolding heading_of bytes
returns g c = c.put.ensures then meant c.channel_names.ensures c.put-2.ensures then c.put-3.ensures
