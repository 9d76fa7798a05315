use Rattle.allocation.proofs.MemoLaws.{owns}
use Rattle.allocation.proofs.own_words.Goals as goal

pub returns : goal.returns
returns c = owns _ _ _ _ _ _ _ _ _ _ c.own_at.ensures c.own_at-2.ensures c.own_at-3.ensures c.own_at-4.ensures c.own_at-5.ensures c.own_at-6.ensures c.own_at-7.ensures
