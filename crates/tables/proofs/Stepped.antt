-- The tables by steps: what stands at each place.
-- Assumes nothing.
use mathlib.Core.Path.{◌≡◌, refl, ap, ◌∙◌, sym}
use mathlib.Core.List.{List}
use Prim.Native.Nat.{ℕ, zero, suc, ◌+◌, ◌-◌, ◌<◌, min}
use native.Mathlib.Nat.{add-zero, zero-add, add-suc, suc-add, le_of_suc-le-suc, not-suc-le-zero}
use lib.ListN.{length, get_or}
use Rattle.tables.specs.Steps.{steps}

pub length-steps : (table : List ℕ) (t n : ℕ) → length (steps table t n) ≡ n
unfolding steps
length-steps table t zero = refl
length-steps table t (suc n) = ap suc (length-steps table (suc t) n)

from : (table : List ℕ) (t n k : ℕ) → k < n → get_or (steps table t n) k 0 ≡ get_or table (min (160 - (t + k)) 63) 0
unfolding steps
from table t zero k h = absurd (not-suc-le-zero h)
from table t (suc n) zero h = ap (λ i. get_or table (min (160 - i) 63) 0) (sym (add-zero t))
from table t (suc n) (suc k) h =
    from table (suc t) n k (le_of_suc-le-suc h)
    ∙ ap (λ i. get_or table (min (160 - i) 63) 0) (suc-add t k ∙ sym (add-suc t k))

pub steps-at : (table : List ℕ) (n t : ℕ) → t < n → get_or (steps table 0 n) t 0 ≡ get_or table (min (160 - t) 63) 0
steps-at table n t h = from table 0 n t h ∙ ap (λ i. get_or table (min (160 - i) 63) 0) (zero-add t)
