use Rattle.std.proofs.Common.{ap, sym, ◌∙◌, get_or}
use borrow.Author.Tests.{eq-eqb, ne_eqb}
use Rattle.allocation.proofs.MemoLaws.{bytes-are}
use Rattle.allocation.proofs.kind_in.Goals as goal

pub returns-then-to_le_bytes-eq2 : goal.returns-then-to_le_bytes-eq2
returns-then-to_le_bytes-eq2 c = rw (eq-eqb _ 2 (sym (ap (λ x. get_or x 1 0) (c.to_le_bytes.ensures ∙ bytes-are _)) ∙ c.if-to_le_bytes-eq2.true))

pub returns-else-to_le_bytes-eq2 : goal.returns-else-to_le_bytes-eq2
returns-else-to_le_bytes-eq2 c = rw (ne_eqb _ 2 (λ e. c.if-to_le_bytes-eq2.false (ap (λ x. get_or x 1 0) (c.to_le_bytes.ensures ∙ bytes-are _) ∙ e)))
