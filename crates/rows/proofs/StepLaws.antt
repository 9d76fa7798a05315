-- The fields of a row's number, and what rows that read nothing come to. Assumes nothing.
use Prim.Native.Nat.{ℕ, ◌+◌, ◌-◌, ◌*◌, ◌/◌, ◌%◌, ◌≤◌, ◌<◌, max}
use mathlib.Core.Bool.{Bool, true, false, cond}
use mathlib.Core.Path.{◌≡◌, refl, sym, ap, ◌∙◌}
use mathlib.Core.List.{List}
use native.Mathlib.Omega.{arith}
use borrow.Author.Tests.{ne_eqb, lt-ltb, le-ltb}
use Rattle.slots.specs.Held.{Bins}
use Rattle.cells.specs.Cells.{State, state, cell_of, put_in, addr, sum, held_of, place_of, sum_of}
use Rattle.derivations.specs.Acted.{acted}
use Rattle.derivations.specs.Derivations.{derived}
use Rattle.rows.specs.Syntax.{Value, amount_of, number_of, filled}
use Rattle.rows.specs.declared.kinds.Kind.{Kind}
use Rattle.rows.specs.declared.kinds.Kind.TheVariants.{Element, Counted, Repeated, Span, Mantissas, Condition, Assignment, Refusal, Derivation, Comparison, Loop, Exponents}
use Rattle.rows.specs.Kinds.{IsKind}
use Rattle.rows.specs.Rows.{masked, compares, mask_in, at_in, rows_in, number_in, skip_of, put_at_in, of_in, x_in, y_in, value_in, filled_in, many_in, relation_in, compared_in, with_in, failure_in, stop_in, act_in, row_of}
use Rattle.rows.specs.Steps.{deals, dealing, step_of, Dealt}

-- no counters
pub no-counters : (m : List ℕ) (k : ℕ) → k ≡ place_of (addr k 0 0) m
unfolding cell_of
no-counters m k = omega arith

pub no_cell : (m : List ℕ) (k : ℕ) → k ≡ sum_of (sum k 0) m
unfolding cell_of
no_cell m k = omega arith

pub held_plain : (m : List ℕ) (k : ℕ) → cell_of m k ≡ cell_of m (place_of (addr k 0 0) m)
held_plain m k = ap (cell_of m) (no-counters m k)

pub put-none : (m : List ℕ) (v : ℕ) → m ≡ put_in m 0 v
unfolding put_in
put-none m v = refl

-- how many rows a condition passes
pub skip_by : (w : ℕ) (m : List ℕ) (c : Bool) → c ≡ masked (mask_in w) (at_in w) m → (c ≡ true → 0 ≡ skip_of w m) × (c ≡ false → rows_in w ≡ skip_of w m)
unfolding skip_of
skip_by w m c e = (λ h. ap (λ (b : Bool). cond b 0 (rows_in w)) (sym h ∙ e), λ h. ap (λ (b : Bool). cond b 0 (rows_in w)) (sym h ∙ e))

-- the place of a refusal
module _ (w p : ℕ) (m : List ℕ) where
  pub stop-none : ¬ (w % 16 ≡ 13) → p ≡ p + (cell_of m (stop_in w) - p)
  unfolding stop_in cell_of
  stop-none h = rw (ne_eqb _ _ h) (omega arith)

  pub stop-at : (x : ℕ) → x ≡ cell_of m (w / 268435456 % 1024) → w % 16 ≡ 13 → max p x ≡ p + (cell_of m (stop_in w) - p)
  unfolding stop_in
  stop-at x ex h = rw (h, ← ex) (omega arith)

-- a fill of all its cells
pub fill-ends : (w : ℕ) (m : List ℕ) (a : ℕ) → a ≡ held_of (of_in w) m → (v : ℕ) → v ≡ x_in w + y_in w * a → (k : ℕ) → k ≡ filled_in w → (i : ℕ) (x : List ℕ) → x ≡ filled i k v m → i ≡ many_in w
    → x ≡ filled (many_in w) (filled_in w) (x_in w + y_in w * held_of (of_in w) m) m
fill-ends w m a ea v ev k ek i x e h = rw (e, h, ek, ev, ea) refl

-- a row of another kind has another number
pub only-element : (r : Kind) (k : ℕ) → IsKind r k → ¬ (r ≡ Element) → ¬ (k ≡ 0)
only-element Element k i n e = n refl
only-element Counted k i n e = let z : ⊥ = omega arith in z
only-element Repeated k i n e = let z : ⊥ = omega arith in z
only-element Span k i n e = let z : ⊥ = omega arith in z
only-element Mantissas k i n e = let z : ⊥ = omega arith in z
only-element Condition k i n e = let z : ⊥ = omega arith in z
only-element Assignment k i n e = let z : ⊥ = omega arith in z
only-element Refusal k i n e = let z : ⊥ = omega arith in z
only-element Derivation k i n e = let z : ⊥ = omega arith in z
only-element Comparison k i n e = let z : ⊥ = omega arith in z
only-element Loop k i n e = let z : ⊥ = omega arith in z
only-element Exponents k i n e = let z : ⊥ = omega arith in z

pub only-repeated : (r : Kind) (k : ℕ) → IsKind r k → ¬ (r ≡ Repeated) → ¬ (k ≡ 2)
only-repeated Element k i n e = let z : ⊥ = omega arith in z
only-repeated Counted k i n e = let z : ⊥ = omega arith in z
only-repeated Repeated k i n e = n refl
only-repeated Span k i n e = let z : ⊥ = omega arith in z
only-repeated Mantissas k i n e = let z : ⊥ = omega arith in z
only-repeated Condition k i n e = let z : ⊥ = omega arith in z
only-repeated Assignment k i n e = let z : ⊥ = omega arith in z
only-repeated Refusal k i n e = let z : ⊥ = omega arith in z
only-repeated Derivation k i n e = let z : ⊥ = omega arith in z
only-repeated Comparison k i n e = let z : ⊥ = omega arith in z
only-repeated Loop k i n e = let z : ⊥ = omega arith in z
only-repeated Exponents k i n e = let z : ⊥ = omega arith in z

pub only-comparison : (r : Kind) (k : ℕ) → IsKind r k → ¬ (r ≡ Comparison) → ¬ (k ≡ 13)
only-comparison Element k i n e = let z : ⊥ = omega arith in z
only-comparison Counted k i n e = let z : ⊥ = omega arith in z
only-comparison Repeated k i n e = let z : ⊥ = omega arith in z
only-comparison Span k i n e = let z : ⊥ = omega arith in z
only-comparison Mantissas k i n e = let z : ⊥ = omega arith in z
only-comparison Condition k i n e = let z : ⊥ = omega arith in z
only-comparison Assignment k i n e = let z : ⊥ = omega arith in z
only-comparison Refusal k i n e = let z : ⊥ = omega arith in z
only-comparison Derivation k i n e = let z : ⊥ = omega arith in z
only-comparison Comparison k i n e = n refl
only-comparison Loop k i n e = let z : ⊥ = omega arith in z
only-comparison Exponents k i n e = let z : ⊥ = omega arith in z

-- of the rows that read nothing and derive nothing, one that neither assigns nor refuses by a mask compares
pub compared-kind : (r : Kind) (k : ℕ) → IsKind r k → ¬ (r ≡ Assignment) → ¬ (r ≡ Refusal) → 10 ≤ k → k < 14 → ¬ (k ≡ 12) → k ≡ 13
compared-kind Element k i a n l h d = omega arith
compared-kind Counted k i a n l h d = omega arith
compared-kind Repeated k i a n l h d = omega arith
compared-kind Span k i a n l h d = omega arith
compared-kind Mantissas k i a n l h d = omega arith
compared-kind Condition k i a n l h d = omega arith
compared-kind Assignment k i a n l h d = absurd (a refl)
compared-kind Refusal k i a n l h d = absurd (n refl)
compared-kind Derivation k i a n l h d = absurd (d i)
compared-kind Comparison k i a n l h d = i
compared-kind Loop k i a n l h d = omega arith
compared-kind Exponents k i a n l h d = omega arith

-- what a row that reads nothing comes to
module _ (w p : ℕ) (m : List ℕ) (b : Bins) where
  pub deal-put : w % 16 ≡ 10 → w / 16 % 8 < 5 → (v : Value) → v ≡ value_in w → (x : List ℕ) → x ≡ put_in m (place_of (put_at_in w) m) (amount_of v p m) → Dealt w p (state m b) 0 (state x b)
  unfolding row_of step_of stop_in
  deal-put h l v ev x e = record { is = rw (h, lt-ltb _ _ l, e, ev) refl }

  pub deal-fill : w % 16 ≡ 10 → 5 ≤ w / 16 % 8 → (x : List ℕ) → x ≡ filled (many_in w) (filled_in w) (x_in w + y_in w * held_of (of_in w) m) m → Dealt w p (state m b) 0 (state x b)
  unfolding row_of step_of stop_in
  deal-fill h l x e = record { is = rw (h, le-ltb _ _ l, e) refl }

  refused-by : (c y : Bool) (n k : ℕ) → c ≡ y → deals (dealing (cond y n 0) k (state m b)) ≡ deals (dealing (cond c n 0) k (state m b))
  refused-by c y n k e = ap (λ (z : Bool). deals (dealing (cond z n 0) k (state m b))) (sym e)

  module _ (c : Bool) (n r : ℕ) where
    pub deal-refuse : w % 16 ≡ 11 → c ≡ masked (mask_in w) (at_in w) m → n ≡ number_in w → r ≡ cond c n 0 → Dealt w p (state m b) r (state m b)
    unfolding row_of step_of stop_in
    deal-refuse h e en er = record { is = rw (h, er, en) (refused-by c (masked (mask_in w) (at_in w) m) (number_in w) 0 e) }

    pub deal-compare : w % 16 ≡ 13 → c ≡ compares (relation_in w) (held_of (compared_in w) m) (number_of (with_in w) m) → n ≡ failure_in w → r ≡ cond c n 0 → Dealt w p (state m b) r (state m b)
    unfolding row_of step_of
    deal-compare h e en er = record { is = rw (h, er, en) (refused-by c (compares (relation_in w) (held_of (compared_in w) m) (number_of (with_in w) m)) (failure_in w) (stop_in w) e) }

  pub deal-derive : w % 16 ≡ 12 → (n : ℕ) (st : State) → acted n st ≡ derived (act_in w) (state m b) → Dealt w p (state m b) n st
  unfolding row_of step_of stop_in
  deal-derive h n st e = record { is = rw (h, ← e) refl }
