use Rattle.std.proofs.Common.{◌*◌, arith, rules}
use Rattle.std.proofs.lemmas.Option.{MatchOption-at_some}
use Rattle.allocation.proofs.MemoLaws.{chunk-packs}
use Rattle.allocation.proofs.word_at.Goals as goal

pub returns : goal.returns
returns c =
    let e = MatchOption-at_some _ _ _ c.unwrap.ensures c.first_chunk.ensures.cases in
    chunk-packs c.args.xs.now c.unwrap.result.now (8 * c.args.slot) _ _ (λ i. search (rules, c.fits-xs)) (omega arith) e.same c.from_le_bytes.ensures
