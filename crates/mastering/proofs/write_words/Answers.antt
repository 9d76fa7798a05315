use mathlib.Core.Path.{◌≡◌, refl, ap, ◌∙◌}
use mathlib.Core.List.{[], ◌∷◌, ◌++◌}
use Prim.Native.Nat.{◌+◌}
use lib.ListN.{length, get_or, length-append}
use borrow.Author.Rules.{rules}
use Rattle.std.proofs.lemmas.Slice.Zip.{zip_turn}
use Rattle.words.specs.Words.{width_of}
use Rattle.mastering.proofs.Rewriting.{worded-none, worded-more, worded-long, values-none, values-more, values-long}
use Rattle.mastering.proofs.write_words.Goals as goal

pub loop-place-init : goal.loop-place-init
loop-place-init c = (worded-none _ _ _ _ _, values-none _ _ _, refl, refl)

pub loop-place-preserved : goal.loop-place-preserved
loop-place-preserved c =
    let t = length c.loop-place.yielded in
    let k : length (c.loop-place.yielded ++ (c.in-Some.field-0-0, c.in-Some.field-0-1) ∷ []) ≡ t + 1 = length-append _ _ in
    let z = zip_turn c.args.places.now c.args.words.now c.loop-place.yielded c.into_iter-place-iterator.result c.loop-place.place-iterator c.next.new.self c.next.result (search rules) (search rules)
    c.loop-place.yielded_by (c.in-Some.field-0-0, c.in-Some.field-0-1) c.in-Some.is c.next.ensures.steps in
    let l : c.unwrap-width.result ≡ width_of (get_or c.args.names.now c.in-Some.field-0-0.now 0) = search rules in
    let x = worded-more _ _ _ _ _ t c.loop-place.invariant.0 (z.2 0) (z.3 0) l c.write_word.ensures k in
    let y = values-more _ _ _ t c.loop-place.invariant.1 (z.2 0) (z.3 0) k in
    (x, y, ap length x ∙ worded-long _ _ _ _ _ _, ap length y ∙ values-long _ _ _ _)
