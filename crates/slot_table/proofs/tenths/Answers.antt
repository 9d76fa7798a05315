-- One after the other.
use Rattle.names.specs.Spelling.{bytes}
use Rattle.print.proofs.Adds.{◌then◌}
use Rattle.slot_table.proofs.tenths.Goals as goal

pub returns : goal.returns
unfolding bytes
returns g c = c.right.ensures then c.put.ensures then c.decimal.ensures
