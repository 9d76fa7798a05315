-- Lists by their places: `tab`, and a list of which a loop writes a range.
-- Assumes nothing.
use mathlib.Core.Path.{◌≡◌, refl, ap, ◌∙◌, sym}
use mathlib.Core.Bool.{Bool, true, false, ◌&&◌, cond}
use mathlib.Core.List.{List}
use Prim.Native.Nat.{ℕ, zero, suc, ◌+◌, ◌<◌, ◌≤◌, zero-le, max}
use native.Mathlib.Nat.{add-zero, zero-add, add-suc, suc-add, le_of_suc-le-suc, not-suc-le-zero}
use native.Mathlib.Decide.{dec_lt}
use native.Mathlib.Omega.{arith}
use borrow.Author.Tests.{lt-ltb, le-ltb, le-leb, lt-leb}
use lib.Dec.{leb, ltb}
use lib.ListN.{length, get_or, set, replicate, length-set, length-replicate, get_or-replicate, get_or-eq_default}
use lib.Seq.{ext_get_or, get_or-set_same, get_or-set_other}
use Rattle.alloc.specs.Allocation.{tab}
use Rattle.alloc.specs.Premises.{Written}

pub length-tab : (f : ℕ → ℕ) (i n : ℕ) → length (tab f i n) ≡ n
length-tab f i zero = refl
length-tab f i (suc n) = ap suc (length-tab f (suc i) n)

from : (f : ℕ → ℕ) (i n k : ℕ) → k < n → get_or (tab f i n) k 0 ≡ f (i + k)
from f i zero k h = absurd (not-suc-le-zero h)
from f i (suc n) zero h = ap f (sym (add-zero i))
from f i (suc n) (suc k) h = from f (suc i) n k (le_of_suc-le-suc h) ∙ ap f (suc-add i k ∙ sym (add-suc i k))

pub get_d-tab : (f : ℕ → ℕ) (n k : ℕ) → k < n → get_or (tab f 0 n) k 0 ≡ f k
get_d-tab f n k h = from f 0 n k h ∙ ap f (zero-add k)

-- a list is the table of its entries
pub tab-of : (f : ℕ → ℕ) (n : ℕ) (l : List ℕ) → length l ≡ n → ((k : ℕ) → k < n → get_or l k 0 ≡ f k) → l ≡ tab f 0 n
tab-of f n l e h =
    ext_get_or 0 l (tab f 0 n) (e ∙ sym (length-tab f 0 n))
    (λ i b. let b' : i < n = omega arith in h i b' ∙ sym (get_d-tab f n i b'))

pub tab-same : (f g : ℕ → ℕ) (n : ℕ) → ((k : ℕ) → k < n → f k ≡ g k) → tab f 0 n ≡ tab g 0 n
tab-same f g n h = tab-of g n (tab f 0 n) (length-tab f 0 n) (λ k b. get_d-tab f n k b ∙ h k b)

-- f's value in a range, and another outside
pub within : (lo hi k a b : ℕ) → lo ≤ k → k < hi → cond (leb lo k && ltb k hi) a b ≡ a
within lo hi k a b p q = simp (le-leb lo k p, lt-ltb k hi q)

pub outside : (lo hi k a b : ℕ) → (k < lo → ⊥) → hi ≤ k → cond (leb lo k && ltb k hi) a b ≡ b
outside lo hi k a b n q = simp (le-leb lo k (let z : lo ≤ k = omega arith in z), le-ltb k hi q)

pub sooner-than : (lo hi k a b : ℕ) → k < lo → cond (leb lo k && ltb k hi) a b ≡ b
sooner-than lo hi k a b p = simp (lt-leb lo k p)

-- two such values are equal where they are in the range
pub ranged : (lo hi k a a' b : ℕ) → (lo ≤ k → k < hi → a ≡ a') → cond (leb lo k && ltb k hi) a b ≡ cond (leb lo k && ltb k hi) a' b
ranged lo hi k a a' b h = by (dec_lt k lo) (dec_lt k hi)
  where
    by : Dec (k < lo) → Dec (k < hi) → cond (leb lo k && ltb k hi) a b ≡ cond (leb lo k && ltb k hi) a' b
    by (yes p) d = sooner-than lo hi k a b p ∙ sym (sooner-than lo hi k a' b p)
    by (no p) (no q) = let z : hi ≤ k = omega arith in outside lo hi k a b p z ∙ sym (outside lo hi k a' b p z)
    by (no p) (yes q) = let z : lo ≤ k = omega arith in ap (λ x. cond (leb lo k && ltb k hi) x b) (h z q)

-- nothing is written yet
pub written_none : (f : ℕ → ℕ) (lo : ℕ) (old : List ℕ) → Written f lo lo old old
written_none f lo old = record { size = refl; made = λ k a b. absurd (omega arith); before = λ k b. refl; after = λ k b. refl }

-- what is to be written stands there already
pub written-already : (f : ℕ → ℕ) (lo hi : ℕ) (old : List ℕ) → ((k : ℕ) → get_or old k 0 ≡ f k) → Written f lo hi old old
written-already f lo hi old h = record { size = refl; made = λ k a b. h k; before = λ k b. refl; after = λ k b. refl }

-- a range, and the range after it
module _ (f g : ℕ → ℕ) (lo mid hi : ℕ) (old new newer : List ℕ) (le : lo ≤ mid) (up : mid ≤ hi)
    (one : Written f lo mid old new) (two : Written g mid hi new newer) (same : (k : ℕ) → mid ≤ k → k < hi → g k ≡ f k) where
  made' : (k : ℕ) → lo ≤ k → k < hi → Dec (k < mid) → get_or newer k 0 ≡ f k
  made' k a b (yes q) = two.before k q ∙ one.made k a q
  made' k a b (no q) = let z : mid ≤ k = omega arith in two.made k z b ∙ same k z b

  pub written-join : Written f lo hi old newer
  written-join =
      record {
        size = two.size ∙ one.size;
        made = λ k a b. made' k a b (dec_lt k mid);
        before = λ k b. two.before k (omega arith) ∙ one.before k b;
        after = λ k b. two.after k b ∙ one.after k (omega arith);
      }

-- one place
module _ (f : ℕ → ℕ) (i : ℕ) (old : List ℕ) (r : ℕ) (h : i < length old) (e : r ≡ f i) where
  at' : (k : ℕ) → i ≤ k → k < i + 1 → get_or (set old i r) k 0 ≡ f k
  at' k a b = let q : k ≡ i = omega arith in rw (q, get_or-set_same old i r 0 h) e

  written_one : Written f i (i + 1) old (set old i r)
  written_one =
      record {
        size = simp length-set;
        made = at';
        before = λ k b. let q : k ≡ i → ⊥ = omega arith in get_or-set_other old i k r 0 q;
        after = λ k b. let q : k ≡ i → ⊥ = omega arith in get_or-set_other old i k r 0 q;
      }

-- one place more
pub written-more : (f : ℕ → ℕ) (lo i : ℕ) (old new : List ℕ) (r : ℕ) → lo ≤ i → i < length new → Written f lo i old new → r ≡ f i
    → Written f lo (i + 1) old (set new i r)
written-more f lo i old new r le h w e =
    written-join f f lo i (i + 1) old new (set new i r) le (omega arith) w (written_one f i new r h e) (λ k a b. refl)

pub zeros : (n k : ℕ) → ◌≡◌ {A = ℕ} (get_or (replicate n 0) k 0) 0
zeros zero k = refl
zeros (suc n) zero = refl
zeros (suc n) (suc k) = zeros n k

-- what is below a bound, in a list of zeros of which a range was written
pub written_low : (f : ℕ → ℕ) (lo hi n most : ℕ) (out : List ℕ) → Written f lo hi (replicate n 0) out → ((k : ℕ) → f k < most) → (k : ℕ) → get_or out k 0 < most
written_low f lo hi n most out w h k = by (dec_lt k lo) (dec_lt k hi)
  where
    by : Dec (k < lo) → Dec (k < hi) → get_or out k 0 < most
    by (yes p) e = let z = w.before k p ∙ zeros n k in omega (arith, h k)
    by (no p) (yes q) = rw (w.made k (let z : lo ≤ k = omega arith in z) q) (h k)
    by (no p) (no q) = let z = w.after k (omega arith) ∙ zeros n k in omega (arith, h k)

-- a range that is written once more, from what stands there
pub written_over : (f : ℕ → ℕ) (h : ℕ → ℕ → ℕ) (lo hi : ℕ) (old new newer : List ℕ)
    → Written f lo hi old new → Written (λ k. h k (get_or new k 0)) lo hi new newer → Written (λ k. h k (f k)) lo hi old newer
written_over f h lo hi old new newer one two =
    record {
      size = two.size ∙ one.size;
      made = λ k a b. two.made k a b ∙ ap (h k) (one.made k a b);
      before = λ k b. two.before k b ∙ one.before k b;
      after = λ k b. two.after k b ∙ one.after k b;
    }

-- a loop from lo on ends at hi, or at once where hi is not past lo
pub written-end : (f : ℕ → ℕ) (lo i hi : ℕ) (old new : List ℕ) → Written f lo i old new → lo ≤ i → i ≤ max lo hi → hi ≤ i → Written f lo hi old new
written-end f lo i hi old new w up most end =
    record {
      size = w.size;
      made = λ k a b. w.made k a (omega arith);
      before = w.before;
      after = λ k b. by k b (dec_lt k lo);
    }
  where
    by : (k : ℕ) → hi ≤ k → Dec (k < lo) → get_or new k 0 ≡ get_or old k 0
    by k b (yes p) = w.before k p
    by k b (no p) = w.after k (omega arith)

-- a list of one value, of which a range was written
pub written-list : (f : ℕ → ℕ) (lo hi n d : ℕ) (out : List ℕ) → Written f lo hi (replicate n d) out
    → out ≡ tab (λ k. cond (leb lo k && ltb k hi) (f k) d) 0 n
written-list f lo hi n d out w = tab-of _ n out (w.size ∙ length-replicate n d) (λ k b. at k b (dec_lt k lo) (dec_lt k hi))
  where
    at : (k : ℕ) → k < n → Dec (k < lo) → Dec (k < hi) → get_or out k 0 ≡ cond (leb lo k && ltb k hi) (f k) d
    at k b (yes p) e = w.before k p ∙ get_or-replicate n k d 0 b ∙ sym (sooner-than lo hi k (f k) d p)
    at k b (no p) (yes q) = let z : lo ≤ k = omega arith in w.made k z q ∙ sym (within lo hi k (f k) d z q)
    at k b (no p) (no q) = let z : hi ≤ k = omega arith in w.after k z ∙ get_or-replicate n k d 0 b ∙ sym (outside lo hi k (f k) d p z)

-- zeros before a range, zeros after it, and the range: the whole list
module _ (f : ℕ → ℕ) (lo hi n : ℕ) (a b c d : List ℕ) (size : length a ≡ n) (le : lo ≤ hi)
    (one : Written (λ k. 0) 0 lo a b) (two : Written (λ k. 0) hi n b c) (three : Written f lo hi c d) where
  each : (k : ℕ) → k < n → Dec (k < lo) → Dec (k < hi) → get_or d k 0 ≡ cond (leb lo k && ltb k hi) (f k) 0
  each k h (yes p) e = three.before k p ∙ two.before k (omega arith) ∙ one.made k (omega arith) p ∙ sym (sooner-than lo hi k (f k) 0 p)
  each k h (no p) (yes q) = let z : lo ≤ k = omega arith in three.made k z q ∙ sym (within lo hi k (f k) 0 z q)
  each k h (no p) (no q) = let z : hi ≤ k = omega arith in three.after k z ∙ two.made k z h ∙ sym (outside lo hi k (f k) 0 p z)

  pub written-whole : d ≡ tab (λ k. cond (leb lo k && ltb k hi) (f k) 0) 0 n
  written-whole = tab-of _ n d (three.size ∙ two.size ∙ one.size ∙ size) (λ k h. each k h (dec_lt k lo) (dec_lt k hi))

-- an empty range
pub ranged-none : (f : ℕ → ℕ) (lo hi n : ℕ) → hi ≤ lo → replicate n 0 ≡ tab (λ k. cond (leb lo k && ltb k hi) (f k) 0) 0 n
ranged-none f lo hi n le = tab-of _ n (replicate n 0) (length-replicate n 0) (λ k h. zeros n k ∙ sym (at k (dec_lt k lo)))
  where
    at : (k : ℕ) → Dec (k < lo) → cond (leb lo k && ltb k hi) (f k) 0 ≡ 0
    at k (yes p) = sooner-than lo hi k (f k) 0 p
    at k (no p) = outside lo hi k (f k) 0 p (omega arith)

-- no entry of a list with zeros outside a range is above a bound of those within
ranged-at : (f : ℕ → ℕ) (lo hi n most : ℕ) → ((k : ℕ) → f k ≤ most) → (k : ℕ) → Dec (k < n)
    → get_or (tab (λ i. cond (leb lo i && ltb i hi) (f i) 0) 0 n) k 0 ≤ most
ranged-at f lo hi n most h k (yes b) = rw (get_d-tab (λ i. cond (leb lo i && ltb i hi) (f i) 0) n k b) (by (leb lo k && ltb k hi))
  where
    by : (t : Bool) → cond t (f k) 0 ≤ most
    by true = h k
    by false = zero-le
ranged-at f lo hi n most h k (no b) =
    let l = length-tab (λ i. cond (leb lo i && ltb i hi) (f i) 0) 0 n in
    rw (get_or-eq_default (tab (λ i. cond (leb lo i && ltb i hi) (f i) 0) 0 n) 0 {n = k} (omega arith)) zero-le

pub ranged-most : (f : ℕ → ℕ) (lo hi n most : ℕ) → ((k : ℕ) → f k ≤ most) → (k : ℕ)
    → get_or (tab (λ i. cond (leb lo i && ltb i hi) (f i) 0) 0 n) k 0 ≤ most
ranged-most f lo hi n most h k = ranged-at f lo hi n most h k (dec_lt k n)

pub picked_low : (t : Bool) (a b n : ℕ) → a < n → b < n → cond t a b < n
picked_low true a b n ha hb = ha
picked_low false a b n ha hb = hb
