-- Blanks, and the digits of the library.
use Rattle.std.proofs.Common.{◌≡◌, ◌-◌, length, replicate, arith, ap, sym, ◌∙◌, length-take-le}
use Rattle.print.specs.Text.{decimal_of}
use Rattle.print.proofs.Adds.{◌then◌, meant}
use Rattle.print.proofs.Decimals.{first_of, library}
use Rattle.print.proofs.Text.right.Goals as goal

pub returns : goal.returns
returns g c =
    let told = c.decimal-size.ensures in
    let k = c.decimal-size.result in
    let digits = library _ c.args.n k (omega arith) told.len told.digits in
    let long : length (decimal_of c.args.n) ≡ k = ap length (sym digits) ∙ length-take-le k _ (omega arith) in
    let blanks : c.saturating_sub.result ≡ c.args.width - length (decimal_of c.args.n) = c.saturating_sub.ensures ∙ ap (λ m. c.args.width - m) (sym long) in
    meant (first_of _ 20 32 (omega arith) ∙ ap (λ m. replicate m 32) blanks) c.put.ensures then meant digits c.put-2.ensures
