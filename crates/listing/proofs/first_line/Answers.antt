-- By the verdict.
use Rattle.names.specs.Spelling.{bytes}
use Rattle.print.proofs.Adds.{◌then◌}
use Rattle.listing.specs.Listing.{first_by}
use Rattle.listing.proofs.first_line.Goals as goal

pub returns-in-Accepted : goal.returns-in-Accepted
unfolding first_by bytes
returns-in-Accepted g c = rw c.in-Accepted.is (c.put.ensures then c.three.ensures)

pub returns-in-Refused : goal.returns-in-Refused
unfolding first_by bytes
returns-in-Refused g c = rw c.in-Refused.is (c.put-in-Refused.ensures then c.three-in-Refused.ensures)
