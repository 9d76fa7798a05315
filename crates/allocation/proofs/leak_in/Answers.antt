use Rattle.std.proofs.Common.{ap, ◌∙◌, Some}
use borrow.Author.Tests.{eq-eqb}
use Rattle.allocation.proofs.MemoLaws.{bytes-are}
use Rattle.allocation.proofs.leak_in.Goals as goal

pub returns-then-slot-eq-CPL : goal.returns-then-slot-eq-CPL
returns-then-slot-eq-CPL c = rw (eq-eqb _ 5 c.if-slot-eq-CPL.true) (ap (λ x. Some x) (c.leak_of.ensures ∙ rw (c.to_le_bytes-b.ensures ∙ bytes-are _)))
