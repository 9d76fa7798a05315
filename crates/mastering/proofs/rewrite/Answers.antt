-- The tests; then the words, crc2 and their values.
use mathlib.Core.Path.{◌≡◌, refl, sym, ap, ◌∙◌}
use native.Mathlib.Omega.{arith}
use lib.ListN.{length}
use Rattle.mastering.specs.SetWords.{items_of, words_number}
use Rattle.std.proofs.lemmas.Result.{err_from_is_err_and}
use Rattle.mastering.proofs.Rewriting.{kept, settable, worded-long, values-long, bytes_are, values-are}
use Rattle.mastering.proofs.rewrite.Goals as goal

pub returns-in_err-words_fit : goal.returns-in_err-words_fit
returns-in_err-words_fit c =
    let p = err_from_is_err_and c.from_residual.result c.from_residual.ensures.1 in
    let e = c.in_err-words_fit.ensures in
    let a = c.args in
    let k = words_number a.names.now a.count a.places.now a.words.now in
    let n : ¬ (k ≡ 0) = λ z. omega (arith, e.1, z) in
    rw (p.1, p.2) (e, kept k _ _ n, kept k _ _ n)

pub write_words-requires : goal.write_words-requires
write_words-requires c = settable c.requires (sym c.in_ok-words_fit.ensures) refl refl

pub set_crc2-crc2-requires : goal.set_crc2-crc2-requires
set_crc2-crc2-requires c =
    let a = c.args in
    let l = ap length c.write_words.ensures.0 ∙ worded-long a.frame.now a.names.now a.firsts.now a.places.now a.words.now (items_of a.places.now a.words.now) in
    (c.requires.six, omega (arith, c.requires.whole))

pub bounds-values-count : goal.bounds-values-count
bounds-values-count c =
    let a = c.args in
    omega (arith, c.requires.some, c.requires.valued, ap length c.write_words.ensures.1, values-long a.values.now a.places.now a.words.now (items_of a.places.now a.words.now))

pub returns : goal.returns
returns c =
    let a = c.args in
    let z = c.in_ok-words_fit.ensures in
    let x = bytes_are a.frame.now a.names.now a.firsts.now a.values.now a.bytes.0 a.count a.places.now a.words.now refl c.write_words.ensures.0 c.set_crc2-crc2.ensures.1 in
    let y = values-are a.frame.now a.names.now a.firsts.now a.values.now a.bytes.0 a.count a.places.now a.words.now refl c.write_words.ensures.0 c.write_words.ensures.1 c.set_crc2-crc2.ensures.0 in
    (z, rw z x, rw z y)
