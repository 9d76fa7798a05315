-- Laws of the search for a record.
use mathlib.Core.Logic.{◌≢◌}
use mathlib.Core.Path.{◌≡◌, refl, sym, ◌∙◌, ap}
use mathlib.Core.Bool.{Bool, true, false, ◌&&◌, cond}
use Prim.Native.Nat.{ℕ, suc, ◌+◌, ◌-◌, ◌≤◌, ◌<◌}
use native.Mathlib.Omega.{arith}
use lib.Dec.{eqb}
use lib.IntN.{ℤ, pos}
use lib.ListN.{get_or}
use borrow.Author.Tests.{eq-eqb, ne_eqb}
use Rattle.listing.specs.declared.Records.{Records}
use Rattle.strategy_table.specs.Strategies.{is_of, found}
use Rattle.std.specs.Prelude.{Option, Some, None}

abbrev hit_at : Records → ℕ → ℤ → ℕ → Bool
hit_at r name index i = is_of (get_or r.names i 0) (get_or r.indexes i (pos 0)) name index

step : (r : Records) (name : ℕ) (index : ℤ) (f i k : ℕ) → found r name index (suc f) i k ≡ cond (hit_at r name index i && eqb k 0) (Some (get_or r.values i 0)) (found r name index f (i + 1) (cond (hit_at r name index i) (k - 1) k))
unfolding found
step r name index f i k = refl

-- the search from the place i on, among n records, where it finds w
module _ (r : Records) (name : ℕ) (index : ℤ) (n i k : ℕ) (w : Option ℕ) where
  one : i < n → found r name index (n - i) i k ≡ cond (hit_at r name index i && eqb k 0) (Some (get_or r.values i 0)) (found r name index (n - (i + 1)) (i + 1) (cond (hit_at r name index i) (k - 1) k))
  one h = let e : n - i ≡ suc (n - (i + 1)) = omega arith in ap (λ f. found r name index f i k) e ∙ step r name index (n - (i + 1)) i k

  -- it is the record at i
  pub here : i < n → found r name index (n - i) i k ≡ w → hit_at r name index i ≡ true → k ≡ 0 → Some (get_or r.values i 0) ≡ w
  here h e a z = let o = one h in let p = rw (a, eq-eqb k 0 z) at o in sym p ∙ e

  -- more of them are to be passed
  pub passed : i < n → found r name index (n - i) i k ≡ w → hit_at r name index i ≡ true → k ≢ 0 → found r name index (n - (i + 1)) (i + 1) (k - 1) ≡ w
  passed h e a z = let o = one h in let p = rw (a, ne_eqb k 0 z) at o in sym p ∙ e

  -- it is another record
  pub further : i < n → found r name index (n - i) i k ≡ w → hit_at r name index i ≡ false → found r name index (n - (i + 1)) (i + 1) k ≡ w
  further h e a = let o = one h in let p = rw a at o in sym p ∙ e

  -- there is none left
  pub ended : n ≤ i → found r name index (n - i) i k ≡ w → None ≡ w
  unfolding found
  ended h e = let z : n - i ≡ 0 = omega arith in sym (ap (λ f. found r name index f i k) z) ∙ e
