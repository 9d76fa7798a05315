-- Names are numbered in byte order of their spellings: a test of neighbours, computed over the whole list, and the
-- order carried to every two names. Assumes nothing.
use Prim.Native.Nat.{ℕ, zero, suc, ◌<◌}
use mathlib.Core.Path.{◌≡◌, refl, ◌∙◌, subst}
use mathlib.Core.Bool.{Bool, true, ◌&&◌, ◌||◌}
use mathlib.Core.List.{List, [], ◌∷◌, map}
use mathlib.Core.Logic.{◌⊎◌, inl, inr, ⊎_elim}
use native.Mathlib.Omega.{arith}
use native.Mathlib.Decide.{dec_lt}
use lib.Dec.{T, ltb, eqb, eqb→eq, ltb→lt}
use lib.ListN.{length, get_or}
use borrow.Author.Tests.{lt-ltb, eq-eqb}
use Rattle.names.specs.Names.{Name, names}
use Rattle.names.specs.Spelling.{spellings, spelling_of, bytes, before, rising}
use Rattle.names.proofs.Bools.{and_left, and_right, both, or_cases, or_left, or_right}
use Rattle.names.proofs.Rows.{count}

holds : {b : Bool} → b ≡ true → T b
holds e = rw e tt

-- how two words that begin with a letter each are ordered
First : ℕ → ℕ → Bool → Type 0
First x y r = (x < y) ⊎ ((x ≡ y) × T r)

first : (x y : ℕ) (r : Bool) → T (ltb x y || (eqb x y && r)) → First x y r
unfolding First
first x y r t = ⊎_elim (λ a. inl (ltb→lt x y a)) (λ a. inr (eqb→eq x y (and_left (eqb x y) r a), and_right (eqb x y) r a)) (or_cases (ltb x y) (eqb x y && r) t)

less : (x y : ℕ) (r : Bool) → x < y → T (ltb x y || (eqb x y && r))
less x y r h = or_left (ltb x y) (eqb x y && r) (holds (lt-ltb x y h))

next : (x y : ℕ) (r : Bool) → x ≡ y → T r → T (ltb x y || (eqb x y && r))
next x y r e t = or_right (ltb x y) (eqb x y && r) (both (eqb x y) r (holds (eq-eqb x y e)) t)

pub before-trans : (a b c : List ℕ) → T (before a b) → T (before b c) → T (before a c)
unfolding before First
before-trans a [] c s t = absurd s
before-trans a (y ∷ b) [] s t = absurd t
before-trans [] (y ∷ b) (z ∷ c) s t = tt
before-trans (x ∷ a) (y ∷ b) (z ∷ c) s t = go (first x y _ s) (first y z _ t) (before-trans a b c)
  where
    go : First x y (before a b) → First y z (before b c) → (T (before a b) → T (before b c) → T (before a c)) → T (ltb x z || (eqb x z && before a c))
    go (inl h) (inl k) on = less x z _ (omega arith)
    go (inl h) (inr k) on = let e : y ≡ z = k.0 in less x z _ (omega arith)
    go (inr h) (inl k) on = let e : x ≡ y = h.0 in less x z _ (omega arith)
    go (inr h) (inr k) on = next x z _ (h.0 ∙ k.0) (on h.1 k.1)

pub before-irrefl : (a : List ℕ) → T (before a a) → ⊥
unfolding before First
before-irrefl [] t = t
before-irrefl (x ∷ a) t = go (first x x _ t) (before-irrefl a)
  where
    go : First x x (before a a) → (T (before a a) → ⊥) → ⊥
    go (inl h) on = omega arith
    go (inr h) on = on h.1

-- from each word to the next, and from each to every later one
step : (ls : List (List ℕ)) (n : ℕ) → T (rising ls) → suc n < length ls → T (before (get_or ls n []) (get_or ls (suc n) []))
unfolding rising
step [] n t h = absurd (let z : ⊥ = omega arith in z)
step (l ∷ []) n t h = absurd (let z : ⊥ = omega arith in z)
step (l ∷ m ∷ ms) zero t h = and_left (before l m) (rising (m ∷ ms)) t
step (l ∷ m ∷ ms) (suc n) t h = step (m ∷ ms) n (and_right (before l m) (rising (m ∷ ms)) t) (omega arith)

later : (ls : List (List ℕ)) (m n : ℕ) → T (rising ls) → m < n → n < length ls → T (before (get_or ls m []) (get_or ls n []))
later ls m zero t h k = absurd (let z : ⊥ = omega arith in z)
later ls m (suc n) t h k = go (dec_lt m n) (later ls m n t)
  where
    go : Dec (m < n) → (m < n → n < length ls → T (before (get_or ls m []) (get_or ls n []))) → T (before (get_or ls m []) (get_or ls (suc n) []))
    go (yes l) on = before-trans _ (get_or ls n []) _ (on l (omega arith)) (step ls n t k)
    go (no l) on = let e : m ≡ n = omega arith in rw e (step ls n t k)

-- the test over the whole list
pub in_order : rising spellings ≡ true
unfolding names spellings bytes before rising
in_order = refl

-- the numbers are the places, from 0 on
pub counted : ℕ → List Name → List ℕ
counted i [] = []
counted i (n ∷ ns) = i ∷ counted (suc i) ns

pub numbered : map (λ (n : Name). n.number) names ≡ counted 0 names
unfolding names counted
numbered = refl

-- name order is byte order
pub name-order : (m n : ℕ) → m < n → n < 202 → T (before (spelling_of m) (spelling_of n))
name-order m n h hn = later spellings m n (holds in_order) h (rw count hn)

pub byte-order : (m n : ℕ) → m < 202 → n < 202 → T (before (spelling_of m) (spelling_of n)) → m < n
byte-order m n hm hn t = go (dec_lt m n) (dec_lt n m)
  where
    go : Dec (m < n) → Dec (n < m) → m < n
    go (yes h) d = h
    go (no h) (yes k) = absurd (before-irrefl (spelling_of m) (before-trans (spelling_of m) (spelling_of n) (spelling_of m) t (name-order n m k hm)))
    go (no h) (no k) = let e : n ≡ m = omega arith in absurd (before-irrefl (spelling_of m) (subst (λ j. T (before (spelling_of m) (spelling_of j))) e t))
