use Rattle.std.proofs.Common.{◌∙◌}
use Rattle.allocation.proofs.MemoLaws.{bytes-are}
use Rattle.allocation.proofs.params_in.Goals as goal

pub returns : goal.returns
returns c = c.params_of.ensures ∙ rw (c.from.ensures, c.to_le_bytes-b.ensures ∙ bytes-are _)
