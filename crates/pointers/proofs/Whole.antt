-- The allocation on levels, from its parts.
-- Assumes nothing.
use mathlib.Core.Path.{◌≡◌, ap, ap₂, ◌∙◌, sym}
use mathlib.Core.Bool.{cond, ◌&&◌}
use mathlib.Core.List.{List}
use Prim.Native.Nat.{ℕ, ◌+◌, ◌-◌, ◌<◌, ◌≤◌}
use native.Mathlib.Omega.{arith}
use lib.Dec.{leb, ltb}
use lib.ListN.{length, get_or, replicate}
use Rattle.tables.specs.Bands.{band_of}
use Rattle.alloc.specs.Allocation.{tab}
use Rattle.alloc.specs.Levels.{range_l, place_l, mask_l, places_l, places_of, pointer_l, allocation_l}
use Rattle.alloc.specs.Premises.{Written, Pointed}
use Rattle.alloc.specs.Shares.{total, shares_of}
use Rattle.alloc.specs.declared.Deltas.{Deltas}
use Rattle.alloc.specs.declared.Gains.{Gains}
use Rattle.alloc.specs.declared.Leaks.{Leaks}
use Rattle.alloc.specs.declared.Levels.{Levels}
use Rattle.alloc.proofs.Lists.{get_d-tab, within, ranged-most, written_over, written-list, written-whole}
use Rattle.pointers.proofs.Pointing.{total-same}

pub places-most : (g : Gains) (l : Leaks) (q : Levels) (d : Deltas) (bnd : List ℕ) (first last k : ℕ) → get_or (places_l g l q d bnd first last) k 0 ≤ 415
unfolding places_l
places-most g l q d bnd first last k =
    ranged-most (λ b. place_l (mask_l g l q d bnd first last b) q.snr q.floor) first last 50 415 (λ b. omega arith) k

-- places, written over the masks
pub places-made : (g : Gains) (l : Leaks) (q : Levels) (d : Deltas) (bnd : List ℕ) (first last : ℕ) (masks out : List ℕ)
    → Written (mask_l g l q d bnd first last) first last (replicate 50 0) masks
    → Written (λ b. place_l (get_or masks b 0) q.snr q.floor) first last masks out
    → out ≡ places_l g l q d bnd first last
unfolding places_l
places-made g l q d bnd first last masks out one two =
    written-list _ first last 50 0 out (written_over _ (λ b x. place_l x q.snr q.floor) first last _ masks out one two)

module _ (exp : List ℕ) (start end : ℕ) (g : Gains) (l : Leaks) (q : Levels) (d : Deltas) where
  places-are : (bnd : List ℕ) (first last : ℕ) (m : List ℕ) → first ≡ band_of start → last ≡ band_of (end - 1) → bnd ≡ (range_l exp start end).sums
      → m ≡ places_l g l q d bnd first (last + 1) → m ≡ places_of exp start end g l q d
  unfolding places_of
  places-are bnd first last m a b c e = rw (← a, ← b, ← c) e

  module _ (table : List ℕ) (base : ℕ) (powers m : List ℕ) (kept : powers ≡ (range_l exp start end).powers) (places : m ≡ places_of exp start end g l q d) where
    all_are : (out : List ℕ) → out ≡ tab (λ k. cond (leb start k && ltb k end) (pointer_l table base powers m k) 0) 0 256
        → out ≡ allocation_l table base exp start end g l q d
    unfolding allocation_l
    all_are out h = rw (← kept, ← places) h

    at : (k : ℕ) → end ≤ 256 → start ≤ k → k < end → pointer_l table base powers m k ≡ get_or (allocation_l table base exp start end g l q d) k 0
    unfolding allocation_l
    at k most a b =
        ap₂ (λ w p. pointer_l table base w p k) kept places
        ∙ sym
        (get_d-tab (λ j. cond (leb start j && ltb j end) (pointer_l table base (range_l exp start end).powers (places_of exp start end g l q d) j) 0) 256 k (omega arith)
        ∙ within start end k _ 0 a b)

    shares-are : (shares : List ℕ) (r : ℕ) → end ≤ 256 → r ≡ total (λ k. get_or shares (pointer_l table base powers m k) 0) start (end - start)
        → r ≡ shares_of shares (allocation_l table base exp start end g l q d) start (end - start)
    shares-are shares r most h =
        h ∙ total-same _ _ start (end - start) (λ k a b. ap (λ x. get_or shares x 0) (at k most a (omega arith)))

  -- the powers of the bins, the bands' sums and places, zeros before the range and after it, and the pointers of the range
  pub allocated : (table shares : List ℕ) (base first last r : ℕ) (powers bnd m old before after out : List ℕ)
      → start < end → end ≤ 253 → length old ≡ 256
      → first ≡ band_of start → last ≡ band_of (end - 1) → powers ≡ (range_l exp start end).powers → bnd ≡ (range_l exp start end).sums
      → m ≡ places_l g l q d bnd first (last + 1)
      → Written (λ k. 0) 0 start old before → Written (λ k. 0) end 256 before after → Pointed shares (pointer_l table base powers m) start end after out r
      → (out ≡ allocation_l table base exp start end g l q d)
      × (r ≡ shares_of shares (allocation_l table base exp start end g l q d) start (end - start))
  allocated table shares base first last r powers bnd m old before after out some most size a b kept c e one two three =
      let places = places-are bnd first last m a b c e in (
        all_are table base powers m kept places out (written-whole _ start end 256 old before after out size (omega arith) one two three.written),
        shares-are table base powers m kept places shares r (omega arith) three.sum,
      )
