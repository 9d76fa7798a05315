-- What holds along a reading, taken together; and its bit place. Assumes nothing.
use mathlib.Core.List.{List}
use Prim.Native.Nat.{ℕ, zero, suc, ◌-◌, ◌≤◌}
use native.Mathlib.Omega.{arith}
use Rattle.reading.specs.Tree.{Tree}
use Rattle.reading.specs.Run.{Entry, run}
use Rattle.cells.specs.Cells.{State, cell_of, stored, sum_of}
use Rattle.rows.specs.Syntax.{Item, Block, element, elements, span, mantissas, exponents, when, each, reject, reject_at, put, fill, derive, end, ◌⨾◌, count_of, one, item, meaning}
use Rattle.bounds.specs.Along.{Point, Turning, Inside, Along}
use Rattle.bounds.proofs.Reaches.{run-reaches}

module _ (s : List ℕ) (l : ℕ) where
  -- of each turn
  turning-both : (A B C : Point) (g : (st : State) (p : ℕ) (es : List Entry) → A st p es → B st p es → C st p es) (f : State → Tree State) (n i k : ℕ) (st : State) (p : ℕ) (es : List Entry)
      → Turning s l A f n i k st p es → Turning s l B f n i k st p es → Turning s l C f n i k st p es
  unfolding Turning
  turning-both A B C g f zero i k st p es x y = tt
  turning-both A B C g f (suc n) i k st p es x y = (g (stored st k i) p es x.0 y.0, λ a e. turning-both A B C g f n (suc i) k a _ _ (x.1 a e) (y.1 a e))

  -- two properties give a third
  module _ (Q R S : Item → Point) (f : (i : Item) (st : State) (p : ℕ) (es : List Entry) → Q i st p es → R i st p es → S i st p es) where
    mutual
      unfolding Along

      inside_both : (i : Item) (st : State) (p : ℕ) (es : List Entry) → Inside s l Q i st p es → Inside s l R i st p es → Inside s l S i st p es
      inside_both (element name i w a) st p es x y = tt
      inside_both (elements name i w a k j n) st p es x y =
          turning-both (λ o q fs. Q (element name i w a) o q fs) (λ o q fs. R (element name i w a) o q fs) (λ o q fs. S (element name i w a) o q fs) (λ o q fs u v. f (element name i w a) o q fs u v) (one name i w a)
          (cell_of st.cells n - j) j k st p es x y
      inside_both (span name k) st p es x y = tt
      inside_both (mantissas name a) st p es x y = tt
      inside_both (exponents t name i) st p es x y = tt
      inside_both (when c b) st p es x y = λ e. along-both b st p es (x e) (y e)
      inside_both (each k i n b) st p es x y =
          turning-both (λ a q fs. Along s l Q b a q fs) (λ a q fs. Along s l R b a q fs) (λ a q fs. Along s l S b a q fs) (λ a q fs u v. along-both b a q fs u v) (λ a. meaning b a)
          (count_of n st.cells - sum_of i st.cells) (sum_of i st.cells) k st p es x y
      inside_both (reject c n) st p es x y = tt
      inside_both (reject_at c n k) st p es x y = tt
      inside_both (put a v) st p es x y = tt
      inside_both (fill k n u v a) st p es x y = tt
      inside_both (derive k) st p es x y = tt

      pub along-both : (b : Block) (st : State) (p : ℕ) (es : List Entry) → Along s l Q b st p es → Along s l R b st p es → Along s l S b st p es
      along-both end st p es x y = tt
      along-both (i ⨾ b) st p es x y = (f i st p es x.0 y.0, inside_both i st p es x.1 y.1, λ a e. along-both b a _ _ (x.2 a e) (y.2 a e))

  -- the place never passes m, where the frame ends by m
  module _ (m : ℕ) (ends : l ≤ m) where
    abbrev pub Place : Item → Point
    Place i st p es = p ≤ m

    turning-place : (A : Point) (g : (st : State) (p : ℕ) (es : List Entry) → p ≤ m → A st p es) (f : State → Tree State) (n i k : ℕ) (st : State) (p : ℕ) (es : List Entry) → p ≤ m → Turning s l A f n i k st p es
    unfolding Turning
    turning-place A g f zero i k st p es h = tt
    turning-place A g f (suc n) i k st p es h =
        (g (stored st k i) p es h, λ a e. turning-place A g f n (suc i) k a _ _ (let r = (run-reaches (f (stored st k i)) s p l).reaches a e in let z : (run (f (stored st k i)) s p l).place ≤ m = omega arith in z))

    mutual
      unfolding Along

      inside-place : (i : Item) (st : State) (p : ℕ) (es : List Entry) → p ≤ m → Inside s l Place i st p es
      inside-place (element name i w a) st p es h = tt
      inside-place (elements name i w a k j n) st p es h = turning-place (λ o q fs. q ≤ m) (λ o q fs g. g) (one name i w a) (cell_of st.cells n - j) j k st p es h
      inside-place (span name k) st p es h = tt
      inside-place (mantissas name a) st p es h = tt
      inside-place (exponents t name i) st p es h = tt
      inside-place (when c b) st p es h = λ e. along-place b st p es h
      inside-place (each k i n b) st p es h =
          turning-place (λ a q fs. Along s l Place b a q fs) (λ a q fs g. along-place b a q fs g) (λ a. meaning b a) (count_of n st.cells - sum_of i st.cells) (sum_of i st.cells) k st p es h
      inside-place (reject c n) st p es h = tt
      inside-place (reject_at c n k) st p es h = tt
      inside-place (put a v) st p es h = tt
      inside-place (fill k n u v a) st p es h = tt
      inside-place (derive k) st p es h = tt

      pub along-place : (b : Block) (st : State) (p : ℕ) (es : List Entry) → p ≤ m → Along s l Place b st p es
      along-place end st p es h = tt
      along-place (i ⨾ b) st p es h =
          (h, inside-place i st p es h, λ a e. along-place b a _ _ (let r = (run-reaches (item i st) s p l).reaches a e in let z : (run (item i st) s p l).place ≤ m = omega arith in z))
