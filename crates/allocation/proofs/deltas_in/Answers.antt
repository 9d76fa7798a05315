use Rattle.std.proofs.Common.{◌∙◌}
use Rattle.allocation.proofs.MemoLaws.{bytes-are}
use Rattle.allocation.proofs.deltas_in.Goals as goal

pub returns : goal.returns
returns c = rw (c.from.ensures, c.many_in.ensures, c.to_le_bytes.ensures ∙ bytes-are _, c.to_le_bytes-2.ensures ∙ bytes-are _, c.to_le_bytes-3.ensures ∙ bytes-are _)
