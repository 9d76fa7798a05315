use Rattle.std.proofs.Common.{◌<◌, ap, get_or, rules}
use Rattle.allocation.proofs.MemoLaws.{owned, not-owned, word-packs}
use Rattle.allocation.proofs.own_at.Goals as goal

pub returns-then-not-requested : goal.returns-then-not-requested
returns-then-not-requested c = not-owned _ _ _ _ _ c.requested.ensures (c.if-not-requested.true)

pub returns : goal.returns
returns c =
    let s : c.range_at-r.result.start < 65536 = search rules in
    owned _ _ _ _ _ _ _ _ _ _ _ _ _ c.requires.1 c.requested.ensures (c.if-not-requested.false) c.hybrid.ensures (rw c.from.ensures) c.range_at-r.ensures.0 c.range_at-r.ensures.1 s
    (ap (λ x. get_or x 0 0) c.to_le_bytes-start.ensures) (ap (λ x. get_or x 1 0) c.to_le_bytes-start.ensures) (rw (c.to_le_bytes-end.ensures, c.from-2.ensures)) (word-packs _ _ (λ i l. search rules) c.from_le_bytes.ensures)
