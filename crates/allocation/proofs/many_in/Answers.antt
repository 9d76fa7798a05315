use Rattle.std.proofs.Common.{◌∙◌}
use borrow.Author.Tests.{lt-ltb}
use Rattle.allocation.proofs.MemoLaws.{bytes-are}
use Rattle.allocation.proofs.many_in.Goals as goal

pub returns-then-slot-lt-LFE : goal.returns-then-slot-lt-LFE
returns-then-slot-lt-LFE c = rw (c.min.ensures, lt-ltb _ 6 c.if-slot-lt-LFE.true, c.to_le_bytes.ensures ∙ bytes-are _)
