-- The letters stand before the blanks.
use Rattle.std.proofs.Common.{length, take, arith, ap, sym, ◌∙◌, length-take-le}
use Rattle.names.specs.Spelling.{spelling_of}
use Rattle.names.proofs.Rows.{padded-word, spelling-short}
use Rattle.print.proofs.Adds.{◌then◌, meant}
use Rattle.print.proofs.Text.name.Goals as goal

pub slice_bounds-bytes-end : goal.slice_bounds-bytes-end
slice_bounds-bytes-end g c = omega (arith, c.letters-letters.ensures, spelling-short c.args.name)

pub slice_bounds-put-end : goal.slice_bounds-put-end
slice_bounds-put-end g c = sym (length-take-le _ _ (let h = spelling-short c.args.name in omega (arith, c.letters-letters.ensures)))

pub returns : goal.returns
returns g c =
    let n = c.args.name in
    meant (ap (λ k. take k c.spelling-bytes.result) c.letters-letters.ensures ∙ ap (take (length (spelling_of n))) c.spelling-bytes.ensures ∙ padded-word 16 (spelling_of n) (spelling-short n)) c.put.ensures
    then c.put-2.ensures
