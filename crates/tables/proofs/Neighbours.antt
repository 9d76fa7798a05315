-- Log addition: one computed test over neighbours, carried to each entry; so no entry is above the first.
-- Assumes nothing.
use mathlib.Core.Path.{◌≡◌, refl}
use mathlib.Core.Bool.{Bool, true, false, ◌||◌}
use mathlib.Core.List.{List, [], ◌∷◌}
use mathlib.Core.Logic.{◌⊎◌, inl, inr, ⊎_elim}
use Prim.Native.Nat.{ℕ, zero, suc, ◌+◌, ◌-◌, ◌<◌, ◌≤◌, zero-le}
use native.Mathlib.Decide.{dec_lt}
use native.Mathlib.Nat.{le_of_suc-le-suc, not-suc-le-zero}
use native.Mathlib.Omega.{arith}
use lib.Dec.{T, eqb, eqb→eq}
use lib.ListN.{length, get_or, get_or-eq_default}
use Rattle.tables.specs.BitAllocation.{latab}
use Rattle.tables.specs.Neighbours.{Neighbours}
use Rattle.tables.proofs.Rule.{both, both_left, both_right}

-- the test: each entry equals the one before, or is one less
abbrev falls : List ℕ → Bool
falls [] = true
falls (x ∷ []) = true
falls (x ∷ y ∷ r) = both (eqb y x || eqb (y + 1) x) (falls (y ∷ r))

either : (x y : ℕ) → T (eqb y x || eqb (y + 1) x) → (y ≡ x) ⊎ (y + 1 ≡ x)
either x y t = go (eqb y x) (eqb (y + 1) x) (eqb→eq y x) (eqb→eq (y + 1) x) t
  where
    go : (a b : Bool) → (T a → y ≡ x) → (T b → y + 1 ≡ x) → T (a || b) → (y ≡ x) ⊎ (y + 1 ≡ x)
    go true b f g t = inl (f tt)
    go false b f g t = inr (g t)

-- what it says of each entry
each : (xs : List ℕ) → T (falls xs) → (k : ℕ) → suc k < length xs → (get_or xs (suc k) 0 ≡ get_or xs k 0) ⊎ (get_or xs (suc k) 0 + 1 ≡ get_or xs k 0)
each [] t k h = absurd (not-suc-le-zero h)
each (x ∷ []) t k h = absurd (not-suc-le-zero (le_of_suc-le-suc h))
each (x ∷ y ∷ r) t zero h = either x y (both_left (eqb y x || eqb (y + 1) x) (falls (y ∷ r)) t)
each (x ∷ y ∷ r) t (suc k) h = each (y ∷ r) (both_right (eqb y x || eqb (y + 1) x) (falls (y ∷ r)) t) k (le_of_suc-le-suc h)

-- the test passes on the table
latab-falls : T (falls latab)
unfolding latab
latab-falls = tt

latab-size : length latab ≡ 256
unfolding latab
latab-size = refl

latab-first : get_or latab 0 0 ≡ 64
unfolding latab
latab-first = refl

after : (i : ℕ) → 1 ≤ i → i ≤ 255 → (get_or latab i 0 ≡ get_or latab (i - 1) 0) ⊎ (get_or latab i 0 + 1 ≡ get_or latab (i - 1) 0)
after zero a b = absurd (not-suc-le-zero a)
after (suc k) a b =
    let q : suc k - 1 ≡ k = omega arith in
    rw q (each latab latab-falls k (omega (arith, latab-size)))

pub neighbours : Neighbours
neighbours = record { entries = latab-size; first = latab-first; next = after }

-- so no entry is above the first, 64
from_first : (k : ℕ) → k ≤ 255 → get_or latab k 0 ≤ 64
from_first zero h = omega (arith, neighbours.first)
from_first (suc k) h =
    let q : suc k - 1 ≡ k = omega arith in
    let p : get_or latab (suc k - 1) 0 ≤ 64 = rw q (from_first k (omega arith)) in
    ⊎_elim (λ e. omega arith) (λ e. omega arith) (neighbours.next (suc k) (omega arith) h)

pub latab-high : (k : ℕ) → get_or latab k 0 ≤ 64
latab-high k = by (dec_lt k 256)
  where
    by : Dec (k < 256) → get_or latab k 0 ≤ 64
    by (yes h) = from_first k (omega arith)
    by (no n) = let e = neighbours.entries in rw (get_or-eq_default latab 0 {n = k} (omega arith)) zero-le
