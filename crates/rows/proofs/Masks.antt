-- A row says of its cell what the condition says: by the mask, which has the bit of each value for which the condition holds, or by a comparison. Assumes nothing.
use Prim.Native.Nat.{ℕ, zero, suc, ◌+◌, ◌*◌, ◌/◌, ◌%◌, ◌^◌, ◌≤◌, ◌<◌, min}
use mathlib.Core.Bool.{Bool, true, false, cond, not, ◌&&◌, ◌||◌, true≢false}
use mathlib.Core.Path.{◌≡◌, refl, sym, ap, ap₂, ◌∙◌}
use mathlib.Core.List.{List, [], ◌∷◌}
use native.Mathlib.Omega.{arith}
use native.Mathlib.Decide.{dec_lt}
use native.Mathlib.Numerals.{one-add}
use lib.Pow.{shr-shr}
use lib.Dec.{eqb, leb}
use borrow.Author.Tests.{ne_eqb, lt-ltb, le-ltb, leb-true}
use Rattle.cells.specs.Cells.{State, held_of}
use Rattle.rows.specs.Syntax.{Cond, Is, Not, Above, Below, Among, Differs, Over, Under, AtLeast, among, holds_of}
use Rattle.rows.specs.Rows.{test_by, cell_in, digits, mask_of, all_small, maskable, masked, is_relation, refusal}
use Rattle.rows.specs.Steps.{deals, dealing, step_of}

bit-first : (b : Bool) (d : ℕ) → (cond b 1 0 + 2 * d) % 2 ≡ cond b 1 0
bit-first true d = omega arith
bit-first false d = omega arith

bit-rest : (b : Bool) (d : ℕ) → (cond b 1 0 + 2 * d) / 2 ≡ d
bit-rest true d = omega arith
bit-rest false d = omega arith

digit : (n : ℕ) (f : ℕ → Bool) (v : ℕ) → v < n → digits n f / 2 ^ v % 2 ≡ cond (f v) 1 0
unfolding digits
digit zero f v h = absurd (let z : ⊥ = omega arith in z)
digit (suc n) f zero h =
    let e : (cond (f 0) 1 0 + 2 * digits n (λ v. f (suc v))) / 2 ^ 0 ≡ cond (f 0) 1 0 + 2 * digits n (λ v. f (suc v)) = omega arith in
    ap (λ (x : ℕ). x % 2) e ∙ bit-first (f 0) (digits n (λ v. f (suc v)))
digit (suc n) f (suc v) h =
    ap (λ (i : ℕ). (cond (f 0) 1 0 + 2 * digits n (λ v. f (suc v))) / 2 ^ i % 2) (sym (one-add v))
    ∙ ap (λ (x : ℕ). x % 2) (sym (shr-shr (cond (f 0) 1 0 + 2 * digits n (λ v. f (suc v))) 1 v))
    ∙ ap (λ (x : ℕ). x / 2 ^ v % 2) (bit-rest (f 0) (digits n (λ v. f (suc v))))
    ∙ digit n (λ v. f (suc v)) v (omega arith)

is_set : (b : Bool) → eqb (cond b 1 0) 1 ≡ b
is_set true = refl
is_set false = refl

first-true : (a b : Bool) → (a && b) ≡ true → a ≡ true
first-true true b e = refl
first-true false b e = e

second-true : (a b : Bool) → (a && b) ≡ true → b ≡ true
second-true true b e = e
second-true false b e = absurd (true≢false (sym e))

-- a number of at most 14 is none from 15 on
other : (x v : ℕ) → leb x 14 ≡ true → 15 ≤ v → eqb v x ≡ false
other x v h k = ne_eqb v x (λ e. let z : x ≤ 14 = leb-true x 14 h in omega arith)

none : (xs : List ℕ) (v : ℕ) → all_small xs ≡ true → 15 ≤ v → among xs v ≡ false
unfolding among all_small
none [] v h k = refl
none (x ∷ xs) v h k = ap₂ (λ (a b : Bool). a || b) (other x v (first-true (leb x 14) (all_small xs) h) k) (none xs v (second-true (leb x 14) (all_small xs) h) k)

-- 15 stands for all above
above : (c : Cond) → maskable c ≡ true → (v : ℕ) → 15 ≤ v → test_by c 15 ≡ test_by c v
above (Is a x) h v k = other x 15 h (omega arith) ∙ sym (other x v h k)
above (Not a x) h v k = ap not (other x 15 h (omega arith) ∙ sym (other x v h k))
above (Above a x) h v k = let z : x ≤ 14 = leb-true x 14 h in lt-ltb x 15 (omega arith) ∙ sym (lt-ltb x v (omega arith))
above (Below a x) h v k = let z : x ≤ 15 = leb-true x 15 h in le-ltb 15 x z ∙ sym (le-ltb v x (omega arith))
above (Among a xs) h v k = none xs 15 h (omega arith) ∙ sym (none xs v h k)
above (Differs a n) h v k = refl
above (Over a n) h v k = refl
above (Under a n) h v k = refl
above (AtLeast a n) h v k = refl

capped : (c : Cond) → maskable c ≡ true → (v : ℕ) → test_by c (min v 15) ≡ test_by c v
capped c h v = go (dec_lt v 15)
  where
    go : Dec (v < 15) → test_by c (min v 15) ≡ test_by c v
    go (yes k) = let e : min v 15 ≡ v = omega arith in ap (test_by c) e
    go (no k) = let e : min v 15 ≡ 15 = omega arith in ap (test_by c) e ∙ above c h v (omega arith)

test-holds : (c : Cond) → maskable c ≡ true → (m : List ℕ) → test_by c (held_of (cell_in c) m) ≡ holds_of c m
test-holds (Is a x) h m = refl
test-holds (Not a x) h m = refl
test-holds (Above a x) h m = refl
test-holds (Below a x) h m = refl
test-holds (Among a xs) h m = refl
test-holds (Differs a n) h m = absurd (true≢false (sym h))
test-holds (Over a n) h m = absurd (true≢false (sym h))
test-holds (Under a n) h m = absurd (true≢false (sym h))
test-holds (AtLeast a n) h m = absurd (true≢false (sym h))

pub mask-holds : (c : Cond) → maskable c ≡ true → (m : List ℕ) → masked (mask_of c) (cell_in c) m ≡ holds_of c m
unfolding mask_of
mask-holds c h m =
    ap (λ (x : ℕ). eqb x 1) (digit 16 (test_by c) (min (held_of (cell_in c) m) 15) (omega arith))
    ∙ is_set (test_by c (min (held_of (cell_in c) m) 15))
    ∙ capped c h (held_of (cell_in c) m)
    ∙ test-holds c h m

-- what the row of a refusal comes to; and of one at the place in a cell
module _ (n p : ℕ) (st : State) where
  pub refusal-at : (c : Cond) → is_relation c ≡ true → (k : ℕ) → step_of (refusal c n k) p st ≡ deals (dealing (cond (holds_of c st.cells) n 0) k st)
  unfolding step_of
  refusal-at (Differs a x) h k = refl
  refusal-at (Over a x) h k = refl
  refusal-at (Under a x) h k = refl
  refusal-at (AtLeast a x) h k = refl
  refusal-at (Is a x) h k = absurd (true≢false (sym h))
  refusal-at (Not a x) h k = absurd (true≢false (sym h))
  refusal-at (Above a x) h k = absurd (true≢false (sym h))
  refusal-at (Below a x) h k = absurd (true≢false (sym h))
  refusal-at (Among a xs) h k = absurd (true≢false (sym h))

  by_mask : (a b : Bool) → a ≡ b → deals (dealing (cond a n 0) 0 st) ≡ deals (dealing (cond b n 0) 0 st)
  by_mask a b e = ap (λ (x : Bool). deals (dealing (cond x n 0) 0 st)) e

  pub refusal-here : (c : Cond) → cond (is_relation c) true (maskable c) ≡ true → step_of (refusal c n 0) p st ≡ deals (dealing (cond (holds_of c st.cells) n 0) 0 st)
  unfolding step_of
  refusal-here (Differs a x) h = refl
  refusal-here (Over a x) h = refl
  refusal-here (Under a x) h = refl
  refusal-here (AtLeast a x) h = refl
  refusal-here (Is a x) h = by_mask _ _ (mask-holds (Is a x) h st.cells)
  refusal-here (Not a x) h = by_mask _ _ (mask-holds (Not a x) h st.cells)
  refusal-here (Above a x) h = by_mask _ _ (mask-holds (Above a x) h st.cells)
  refusal-here (Below a x) h = by_mask _ _ (mask-holds (Below a x) h st.cells)
  refusal-here (Among a xs) h = by_mask _ _ (mask-holds (Among a xs) h st.cells)
