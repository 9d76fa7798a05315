-- Slot by slot. Assumes nothing.
use mathlib.Core.Path.{◌≡◌, refl, sym, ◌∙◌}
use mathlib.Core.Bool.{Bool, true, false, ◌&&◌, ◌||◌, not}
use mathlib.Core.List.{List}
use Prim.Native.Nat.{ℕ, suc, ◌+◌, ◌-◌, ◌≤◌, ◌<◌}
use native.Mathlib.Omega.{arith}
use lib.Dec.{eqb}
use lib.ListN.{get_or}
use Rattle.slots.specs.Slots.{used_of}
use Rattle.slots.specs.declared.Shape.{Shape}
use Rattle.silence.specs.Silence.{offsets_zero, silent_by}

-- the silence test, the slots before `slot` passed
and_assoc : (a b c : Bool) → a && (b && c) ≡ (a && b) && c
and_assoc true b c = refl
and_assoc false b c = refl

module _ (coarse : ℕ) (fine : List ℕ) (shape : Shape) (slot : ℕ) (all : Bool) (so : silent_by coarse fine shape ≡ all && offsets_zero fine shape slot (7 - slot)) where
  pub silent-end : 7 ≤ slot → all ≡ silent_by coarse fine shape
  unfolding offsets_zero
  silent-end h = let e : 7 - slot ≡ 0 = omega arith in sym (so ∙ rw e (last all))
    where
      last : (a : Bool) → a && true ≡ a
      last true = refl
      last false = refl

  pub silent-on : slot < 7 → (r : Bool) → r ≡ used_of shape slot → (q : Bool) → q ≡ not r || eqb (get_or fine slot 0) 0 → (a : Bool) → a ≡ all && q
      → silent_by coarse fine shape ≡ a && offsets_zero fine shape (slot + 1) (7 - (slot + 1))
  unfolding offsets_zero
  silent-on h r c q d a e =
      let f : 7 - slot ≡ suc (7 - (slot + 1)) = omega arith in
      let g : slot + 1 ≡ suc slot = omega arith in
      so ∙ rw (f, e, d, c, ← g) (and_assoc all (not (used_of shape slot) || eqb (get_or fine slot 0) 0) (offsets_zero fine shape (slot + 1) (7 - (slot + 1))))
