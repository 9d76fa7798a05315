-- The range record, and the answer that it gives.
use Rattle.std.proofs.Common.{ap, ◌∙◌}
use Rattle.gain.specs.Parts.{answer_of}
use Rattle.gain.proofs.told.Goals as goal

pub returns : goal.returns
returns c =
    let r = c.spread-range.ensures in
    let g = c.gain_from.ensures ∙ ap answer_of r in
    cc (r, g)
