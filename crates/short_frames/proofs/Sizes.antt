-- The test of a frame's size. Assumes nothing.
use mathlib.Core.Path.{◌≡◌, refl}
use mathlib.Core.Bool.{Bool, true, false, cond}
use mathlib.Core.List.{List, []}
use Prim.Native.Nat.{ℕ, ◌≤◌}
use lib.Dec.{leb}
use lib.ListN.{length}
use borrow.Author.Tests.{le-leb, leb-true}
use Rattle.std.specs.Prelude.{None, Some}
use Rattle.refusals.specs.Refusals.{number_of}
use Rattle.refusals.specs.declared.Refusal.{Refusal}
use Rattle.refusals.specs.declared.Refusal.TheVariants.{ShortFrame, LongFrame}
use Rattle.reading.specs.Run.{refused, out}
use Rattle.reading.specs.Frame.{Format, framed, sized}
use Rattle.short_frames.specs.Tested.{tested, unfit_by}

-- a frame that is refused by its size, and one that is not
pub unfit-tested : {H A : Type 0} (F : Format H A) (s : List ℕ) (h : H) (p g : ℕ) (r : Refusal) → Some r ≡ unfit_by g (F.bytes h) (length s) → tested g F s h p ≡ out (refused (number_of r)) p []
unfolding tested sized unfit_by
unfit-tested F s h p g r e = go (leb (F.bytes h) g) (leb (F.bytes h) (length s)) e
  where
    go : (a b : Bool) → Some r ≡ cond a (cond b None (Some ShortFrame)) (Some LongFrame) → cond a (cond b (framed F s h p) (out (refused 4) p [])) (out (refused 46) p []) ≡ out (refused (number_of r)) p []
    go true true q = absurd (let z : ⊥ = cc in z)
    go true false q = let e : r ≡ ShortFrame = cc in rw e refl
    go false b q = let e : r ≡ LongFrame = cc in rw e refl

pub fit-bounds : (g n l : ℕ) → None ≡ unfit_by g n l → (n ≤ g) × (n ≤ l)
unfolding unfit_by
fit-bounds g n l e = go (leb n g) (leb n l) refl refl e
  where
    go : (a b : Bool) → leb n g ≡ a → leb n l ≡ b → None ≡ cond a (cond b None (Some ShortFrame)) (Some LongFrame) → (n ≤ g) × (n ≤ l)
    go true true p q r = (leb-true _ _ p, leb-true _ _ q)
    go true false p q r = absurd (let z : ⊥ = cc in z)
    go false b p q r = absurd (let z : ⊥ = cc in z)

pub fit-tested : {H A : Type 0} (F : Format H A) (s : List ℕ) (h : H) (p g : ℕ) → F.bytes h ≤ g → F.bytes h ≤ length s → tested g F s h p ≡ framed F s h p
unfolding tested sized
fit-tested F s h p g i j = rw (le-leb (F.bytes h) g i, le-leb (F.bytes h) (length s) j) refl
