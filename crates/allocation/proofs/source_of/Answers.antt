use Rattle.allocation.proofs.MemoLaws.{says_none, says_all}
use Rattle.allocation.proofs.source_of.Goals as goal

pub returns-then-many_in-eq0 : goal.returns-then-many_in-eq0
returns-then-many_in-eq0 c = says_none _ _ _ _ _ _ _ c.many_in.ensures c.if-many_in-eq0.true

pub returns : goal.returns
returns c = says_all _ _ _ _ _ _ _ _ _ c.word_at.ensures c.word_at-2.ensures c.word_at-3.ensures
