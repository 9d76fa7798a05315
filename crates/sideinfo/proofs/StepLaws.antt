-- Loops, step by step. Assumes nothing.
use Prim.Native.Nat.{ℕ, zero, suc, ◌+◌, ◌≤◌, ◌<◌}
use mathlib.Core.Bool.{Bool, true, false, cond}
use mathlib.Core.Path.{◌≡◌, refl, sym, ap, subst, ◌∙◌}
use mathlib.Core.List.{List}
use denote.Param.Members.{Mut, Called}
use native.Mathlib.Numerals.{add-one}
use native.Mathlib.Omega.{arith}
use lib.ListN.{length, get_or, set, replicate}
use Rattle.std.specs.List.{count_by, filter, range_with_len}
use Rattle.std.specs.Array.{IsFromFnResult, IsFromFnResultFrom}
use Rattle.std.proofs.lemmas.List.{ext_get_or}
use Rattle.std.proofs.lemmas.List.Sums.{sum_by-cons, length-filter}
use Rattle.sideinfo.specs.Steps.{sum_of, each_of, tab_of}

-- a sum by its first number, and sums of the same numbers
sum-first : (f : ℕ → ℕ) (n : ℕ) → sum_of f (suc n) ≡ f 0 + sum_of (λ i. f (suc i)) n
unfolding sum_of
sum-first f zero = omega arith
sum-first f (suc n) = omega (arith, sum-first f n)

pub same_sum : (f g : ℕ → ℕ) (n : ℕ) → ((i : ℕ) → i < n → f i ≡ g i) → sum_of f n ≡ sum_of g n
unfolding sum_of
same_sum f g zero h = refl
same_sum f g (suc n) h = omega (arith, same_sum f g n (λ i l. h i (omega arith)), h n (omega arith))

-- how many of n numbers pass a test
counted-from : (p : ℕ → Bool) (a n : ℕ) → count_by p (range_with_len a n) ≡ sum_of (λ i. cond (p (a + i)) 1 0) n
unfolding sum_of
counted-from p a zero = refl
counted-from p a (suc n) =
    let on : (i : ℕ) → a + 1 + i ≡ a + suc i = λ i. omega arith in
    let here : a ≡ a + 0 = omega arith in
    sum_by-cons (λ i. cond (p i) 1 0) a (range_with_len (a + 1) n)
    ∙ ap (λ (x : ℕ). cond (p a) 1 0 + x) (counted-from p (a + 1) n ∙ same_sum _ _ n (λ i l. ap (λ (j : ℕ). cond (p j) 1 0) (on i)))
    ∙ ap (λ (j : ℕ). cond (p j) 1 0 + sum_of (λ i. cond (p (a + suc i)) 1 0) n) here
    ∙ sym (sum-first (λ i. cond (p (a + i)) 1 0) n)

pub counted : (p : ℕ → Bool) (n r : ℕ) → r ≡ length (filter p (range_with_len 0 n)) → r ≡ sum_of (λ i. cond (p i) 1 0) n
counted p n r h = h ∙ length-filter p (range_with_len 0 n) ∙ counted-from p 0 n ∙ same_sum _ _ n (λ i l. let e : 0 + i ≡ i = omega arith in ap (λ (j : ℕ). cond (p j) 1 0) e)

pub each_none : (f : ℕ → List ℕ → List ℕ) (m : List ℕ) → m ≡ each_of f 0 m
unfolding each_of
each_none f m = refl

pub each_more : (f : ℕ → List ℕ → List ℕ) (n : ℕ) (m x y : List ℕ) → x ≡ each_of f n m → y ≡ f n x → y ≡ each_of f (n + 1) m
unfolding each_of
each_more f n m x y ex ey = rw (add-one, ey, ex)

pub each_all : (f : ℕ → List ℕ → List ℕ) (n k : ℕ) (m x : List ℕ) → x ≡ each_of f n m → n ≡ k → x ≡ each_of f k m
each_all f n k m x ex e = ex ∙ ap (λ i. each_of f i m) e

-- a property that each step keeps
pub each_within : (P : List ℕ → Type 0) (f : ℕ → List ℕ → List ℕ) (n : ℕ) (m : List ℕ) → ((i : ℕ) (x : List ℕ) → i < n → P x → P (f i x)) → P m → P (each_of f n m)
unfolding each_of
each_within P f zero m step p = p
each_within P f (suc n) m step p = step n (each_of f n m) (omega arith) (each_within P f n m (λ i x l q. step i x (omega arith) q) p)

-- a sum of ones and zeros
pub sum-most : (f : ℕ → ℕ) (n : ℕ) → ((i : ℕ) → f i ≤ 1) → sum_of f n ≤ n
unfolding sum_of
sum-most f zero h = omega arith
sum-most f (suc n) h = let r = sum-most f n h in omega (arith, h n)

pub bit-le : (b : Bool) → cond b 1 0 ≤ 1
bit-le true = omega arith
bit-le false = omega arith

-- the list of n values of h from i on; an array made by calls that give them is it
length-tab : {A : Type 0} (h : ℕ → A) (i n : ℕ) → length (tab_of h i n) ≡ n
unfolding tab_of
length-tab h i zero = refl
length-tab h i (suc n) = ap suc (length-tab h (suc i) n)

get_or-tab : {A : Type 0} (h : ℕ → A) (i n k : ℕ) (d : A) → k < n → get_or (tab_of h i n) k d ≡ h (i + k)
unfolding tab_of
get_or-tab h i zero k d l = absurd (let z : ⊥ = omega arith in z)
get_or-tab h i (suc n) zero d l = let e : i ≡ i + 0 = omega arith in ap h e
get_or-tab h i (suc n) (suc k) d l = let e : suc i + k ≡ i + suc k = omega arith in get_or-tab h (suc i) n k d (omega arith) ∙ ap h e

module _ {F A : Type 0} (g : Mut F (ℕ × Unit {0}) A) (f : F) (h : ℕ → A) (gives : (i : ℕ) (y : A) (q : F) → Called g f (i, tt) y q → (q ≡ f) × (y ≡ h i)) (ys : List A) where
  made-at : (i n : ℕ) (d : A) → IsFromFnResultFrom g f ys i n → (k : ℕ) → k < n → get_or ys (i + k) d ≡ h (i + k)
  made-at i zero d e k l = absurd (let z : ⊥ = omega arith in z)
  made-at i (suc n) d (q, y, at, call, rest) zero l = let e : i ≡ i + 0 = omega arith in subst (λ (j : ℕ). get_or ys j d ≡ h j) e (at.1 d ∙ (gives i y q call).1)
  made-at i (suc n) d (q, y, at, call, rest) (suc k) l =
      let e : i + 1 + k ≡ i + suc k = omega arith in
      subst (λ (j : ℕ). get_or ys j d ≡ h j) e (made-at (i + 1) n d (subst (λ (x : F). IsFromFnResultFrom g x ys (i + 1) n) (gives i y q call).0 rest) k (omega arith))

  pub made : (n : ℕ) (d : A) → IsFromFnResult g f ys n → ys ≡ tab_of h 0 n
  made n d r =
      let at : (k : ℕ) → k < n → get_or ys (0 + k) d ≡ h (0 + k) = made-at 0 n d r.each in
      ext_get_or d ys (tab_of h 0 n) (r.long ∙ sym (length-tab h 0 n))
      (λ k l. let e : k ≡ 0 + k = omega arith in ap (λ (j : ℕ). get_or ys j d) e ∙ at k (omega (arith, r.long)) ∙ sym (get_or-tab h 0 n k d (omega (arith, r.long))))

-- 48 values set one after another are the list of them
pub set_all : (f : ℕ → ℕ) → each_of (λ i a. set a i (f i)) 48 (replicate 48 0) ≡ tab_of f 0 48
unfolding each_of tab_of
set_all f = refl
