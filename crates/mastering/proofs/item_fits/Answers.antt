-- The tests in their order.
use mathlib.Core.Path.{refl, sym, subst, ◌∙◌}
use Prim.Native.Nat.{ℕ}
use native.Mathlib.Omega.{arith}
use Rattle.words.specs.Told.{Told}
use Rattle.mastering.proofs.Rewriting.{listed_any, beyond, twice, inside}
use Rattle.mastering.proofs.item_fits.Goals as goal

pub returns-then-count-place : goal.returns-then-count-place
returns-then-count-place c = let b = beyond _ _ _ _ _ c.if-count-place.true in (b, omega (arith, b))

pub returns-then-contains : goal.returns-then-contains
returns-then-contains c =
    let l = sym (listed_any c.args.places.now _ c.args.item (omega (arith, c.requires.1))) ∙ sym c.contains.ensures.value ∙ c.if-contains.true in
    let b = twice _ _ _ _ _ c.if-count-place.false l in
    (b, omega (arith, b))

pub returns : goal.returns
returns c =
    let l = sym (listed_any c.args.places.now _ c.args.item (omega (arith, c.requires.1))) ∙ sym c.contains.ensures.value ∙ c.if-contains.false in
    subst (λ (k : ℕ). Told c.fits.result k) (inside _ _ _ _ _ c.if-count-place.false l refl) c.fits.ensures
