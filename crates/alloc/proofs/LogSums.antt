-- A sum lies from the larger argument to 64 above it: the rule over neighbours of log addition, at work.
-- Assumes nothing.
use mathlib.Core.Path.{◌≡◌, refl, ap, ◌∙◌, subst}
use Prim.Native.Nat.{ℕ, suc, ◌+◌, ◌-◌, ◌/◌, ◌<◌, ◌≤◌, min}
use native.Mathlib.Decide.{dec_lt}
use native.Mathlib.Omega.{arith}
use borrow.Author.Tests.{le-leb}
use lib.IntN.{ℤ, pos, negsuc, sub_ℕ, nat_abs, ◌+ℤ◌, ◌-ℤ◌, +ℤ_assoc}
use lib.ListN.{get_or}
use lib.Signed.{◌≤ℤ◌, le_z_yes}
use Rattle.tables.specs.BitAllocation.{latab}
use Rattle.tables.proofs.Neighbours.{latab-high}
use Rattle.alloc.specs.Allocation.{max_z}
use Rattle.alloc.specs.Levels.{logadd_l, LogSum, apart}
use Rattle.alloc.specs.LogBound.{LogBound}
use Rattle.alloc.proofs.Signs.{less, more}

-- a natural number more is no less
up : (m : ℤ) (n : ℕ) → m ≤ℤ (m +ℤ pos n)
up (pos a) n = le_z_yes (rw (le-leb a (a + n) (omega arith)) tt)
up (negsuc a) n = by (dec_lt n (suc a))
  where
    by : Dec (n < suc a) → negsuc a ≤ℤ sub_ℕ n (suc a)
    by (yes h) = rw (less n (suc a) h) (le_z_yes (rw (le-leb (suc a - suc n) a (omega arith)) tt))
    by (no k) = rw (more n (suc a) (let z : suc a ≤ n = omega arith in z)) (le_z_yes tt)

up-to : (m : ℤ) (n most : ℕ) → n ≤ most → (m +ℤ pos n) ≤ℤ (m +ℤ pos most)
up-to m n most h =
    subst (λ z. (m +ℤ pos n) ≤ℤ z)
    (+ℤ_assoc m (pos n) (pos (most - n)) ∙ ap (λ x. m +ℤ pos x) (let q : n + (most - n) ≡ most = omega arith in q))
    (up (m +ℤ pos n) (most - n))

pub logadd-bounds : (a b : ℤ) → LogBound a b
logadd-bounds a b =
    let i = min (nat_abs (a -ℤ b) / 2) 255 in
    record { low = up (max_z a b) (get_or latab i 0); high = up-to (max_z a b) (get_or latab i 0) _ (omega (arith, latab-high i)) }

-- the same on levels
pub logadd-bound : (a b : ℕ) → LogSum a b (logadd_l a b)
unfolding logadd_l
logadd-bound a b =
    let h : get_or latab (min (apart a b / 2) 255) 0 ≤ 64 = latab-high _ in
    record { sum = refl; low = omega arith; high = omega arith }
