use Rattle.std.proofs.Common.{◌≡◌, ap, get_or, ◌∙◌, arith}
use Rattle.std.proofs.lemmas.Bool.Decides.{nat_tests}
use Rattle.allocation.specs.Memo.{start_by, end_by}
use Rattle.allocation.proofs.MemoLaws.{bytes-are}
use Rattle.allocation.proofs.channel_in.Goals as goal

pub returns : goal.returns
returns c =
    let b = c.to_le_bytes-b.ensures ∙ bytes-are c.args.own in
    let s : c.from.result ≡ start_by c.args.own =
    omega (arith, c.from.ensures, c.from_le_bytes.ensures, ap (λ x. get_or x 2 0) b, ap (λ x. get_or x 3 0) b) in
    let e : c.from-2.result ≡ end_by c.args.own = rw (c.from-2.ensures, c.min.ensures, b) (grind (arith, nat_tests)) in
    rw (s, e, c.fast_gain.ensures, b)
