-- There is room for the first line and the others.
use Rattle.std.proofs.Common.{arith, ap, min, ◌∙◌}
use Rattle.print.proofs.Adds.{◌then◌, meant, room, whole}
use Rattle.listing.specs.Listing.{lines_of}
use Rattle.listing.proofs.Laws.{listing-short}
use Rattle.listing.proofs.text_of.Goals as goal

pub lines-requires : goal.lines-requires
lines-requires c = (omega arith, (room c.first_line.ensures, omega arith))

pub returns : goal.returns
returns c =
    whole c.new-out.ensures
    (c.first_line.ensures then meant (ap (lines_of c.args.r) (c.min.ensures ∙ ap (λ n. min n 2048) c.count_of-count.ensures)) c.lines.ensures)
    (listing-short c.args.r)
