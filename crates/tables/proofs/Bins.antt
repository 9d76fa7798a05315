-- The bands and their bins: one computed test for each table, and what it says of each entry.
-- Assumes nothing.
use mathlib.Core.Path.{◌≡◌, refl, ap, subst, sym, ◌∙◌}
use mathlib.Core.Bool.{Bool, true, ◌||◌}
use mathlib.Core.List.{List, [], ◌∷◌}
use Prim.Native.Nat.{ℕ, zero, suc, ◌+◌, ◌-◌, ◌<◌, ◌≤◌}
use native.Mathlib.Decide.{dec_lt, ℕ_discrete}
use native.Mathlib.Numerals.{add-one}
use native.Mathlib.Nat.{le_refl, le_trans, le_of_lt, le_of_suc-le-suc, not-suc-le-zero}
use native.Mathlib.Omega.{arith}
use borrow.Author.Tests.{lt-leb}
use lib.Dec.{T, eqb, leb, ltb, eqb→eq, leb→le, ltb→lt}
use lib.ListN.{length, get_or}
use Rattle.tables.specs.BitAllocation.{bndend, masktab}
use Rattle.tables.specs.Bands.{band_of, start_of, end_of, BinBand}
use Rattle.tables.proofs.Rule.{at, both, both_left, both_right}

-- the entry of masktab at a bin is the bin's band, and the band has the bin
right : ℕ → ℕ → Bool
right bin k = both (eqb k (band_of bin)) (both (ltb k 50) (both (leb (start_of k) bin) (ltb bin (end_of k))))

found-band : (bin k : ℕ) → T (right bin k) → BinBand bin k
unfolding right
found-band bin k t =
    let t1 = both_right (eqb k (band_of bin)) _ t in
    let t2 = both_right (ltb k 50) _ t1 in
    record {
      band = eqb→eq _ _ (both_left (eqb k (band_of bin)) _ t);
      is = ltb→lt _ _ (both_left (ltb k 50) _ t1);
      from = leb→le _ _ (both_left (leb (start_of k) bin) _ t2);
      to = ltb→lt _ _ (both_right (leb (start_of k) bin) _ t2);
    }

pub masktab-band : (bin : ℕ) → bin < 253 → BinBand bin (get_or masktab bin 0)
unfolding right masktab band_of bndend
masktab-band bin h = found-band bin (get_or masktab bin 0) (at right masktab tt bin h)

pub own-band : (bin : ℕ) → bin < 253 → BinBand bin (band_of bin)
own-band bin h = let b = masktab-band bin h in subst (BinBand bin) b.band b

-- the ends rise
abbrev rises : List ℕ → Bool
rises [] = true
rises (x ∷ []) = true
rises (x ∷ y ∷ r) = both (ltb x y) (rises (y ∷ r))

from_first : (x : ℕ) (r : List ℕ) → T (rises (x ∷ r)) → (k : ℕ) → k < length (x ∷ r) → x ≤ get_or (x ∷ r) k 0
from_first x r t zero h = le_refl x
from_first x [] t (suc k) h = absurd (not-suc-le-zero (le_of_suc-le-suc h))
from_first x (y ∷ r) t (suc k) h =
    le_trans (le_of_lt (ltb→lt x y (both_left (ltb x y) (rises (y ∷ r)) t)))
    (from_first y r (both_right (ltb x y) (rises (y ∷ r)) t) k (le_of_suc-le-suc h))

rising : (xs : List ℕ) → T (rises xs) → (i k : ℕ) → i ≤ k → k < length xs → get_or xs i 0 ≤ get_or xs k 0
rising [] t i k l h = absurd (not-suc-le-zero h)
rising (x ∷ r) t zero k l h = from_first x r t k h
rising (x ∷ r) t (suc i) zero l h = absurd (not-suc-le-zero l)
rising (x ∷ []) t (suc i) (suc k) l h = absurd (not-suc-le-zero (le_of_suc-le-suc h))
rising (x ∷ y ∷ r) t (suc i) (suc k) l h =
    rising (y ∷ r) (both_right (ltb x y) (rises (y ∷ r)) t) i k (le_of_suc-le-suc l) (le_of_suc-le-suc h)

pub ends-rise : (i k : ℕ) → i ≤ k → k < 50 → end_of i ≤ end_of k
unfolding bndend
ends-rise i k l h = rising bndend tt i k l h

-- a band before another ends where that one starts, or sooner
pub apart-bands : (i k : ℕ) → i < k → k < 50 → end_of i ≤ start_of k
apart-bands i zero l h = absurd (not-suc-le-zero l)
apart-bands i (suc k) l h = ends-rise i k (le_of_suc-le-suc l) (le_of_lt h)

-- a later bin is in no earlier band
pub bands-rise : (i j a b : ℕ) → i ≤ j → BinBand i a → BinBand j b → a ≤ b
bands-rise i j a b h ba bb = by (dec_lt b a)
  where
    by : Dec (b < a) → a ≤ b
    by (yes l) =
        let q : end_of b ≤ start_of a = apart-bands b a l ba.is in
        absurd (omega (arith, ba.from, bb.to))
    by (no n) = omega arith

-- a bin that a band has is in that band
pub same-band : (bin k : ℕ) → bin < 253 → k < 50 → start_of k ≤ bin → bin < end_of k → k ≡ band_of bin
same-band bin k w h lo hi = by (dec_lt k (band_of bin)) (dec_lt (band_of bin) k)
  where
    by : Dec (k < band_of bin) → Dec (band_of bin < k) → k ≡ band_of bin
    by (yes l) d = let q = apart-bands k (band_of bin) l (own-band bin w).is in absurd (omega (arith, (own-band bin w).from))
    by (no n) (yes l) = let q = apart-bands (band_of bin) k l h in absurd (omega (arith, (own-band bin w).to))
    by (no n) (no m) = omega arith

-- a band starts where the one before ends
pub start-end : (k : ℕ) → (k ≡ 0 → ⊥) → end_of (k - 1) ≡ start_of k
start-end zero n = absurd (n refl)
start-end (suc k) n = ap end_of (let h : suc k - 1 ≡ k = omega arith in h)

step : (xs : List ℕ) → T (rises xs) → (k : ℕ) → suc k < length xs → get_or xs k 0 < get_or xs (suc k) 0
step [] t k h = absurd (not-suc-le-zero h)
step (x ∷ []) t k h = absurd (not-suc-le-zero (le_of_suc-le-suc h))
step (x ∷ y ∷ r) t zero h = ltb→lt x y (both_left (ltb x y) (rises (y ∷ r)) t)
step (x ∷ y ∷ r) t (suc k) h = step (y ∷ r) (both_right (ltb x y) (rises (y ∷ r)) t) k (le_of_suc-le-suc h)

ends-step : (k : ℕ) → suc k < 50 → end_of k < end_of (suc k)
unfolding bndend
ends-step k h = step bndend tt k h

last_end : (k : ℕ) → k < 50 → end_of k < 253 → suc k < 50
unfolding bndend
last_end k h e = by (ℕ_discrete k 49)
  where
    by : Dec (k ≡ 49) → suc k < 50
    by (yes q) = absurd (let z : end_of 49 < 253 = rw q at e in omega arith)
    by (no n) = omega arith

-- the bin past a band is in the next one
pub next-band : (k : ℕ) → k < 50 → end_of k < 253 → BinBand (end_of k) (k + 1)
next-band k h e =
    let s = last_end k h e in
    let b = same-band (end_of k) (suc k) e s (le_refl (end_of k)) (ends-step k s) in
    rw add-one (subst (BinBand (end_of k)) (sym b) (own-band (end_of k) e))

-- the bands of the bins below 29 are numbered as these
single : ℕ → ℕ → Bool
single bin k = leb 29 bin || eqb k bin

found-single : (bin k : ℕ) → bin < 29 → T (single bin k) → k ≡ bin
unfolding single
found-single bin k h t = eqb→eq k bin (rw (lt-leb 29 bin h) at t)

pub single-band : (bin : ℕ) → bin < 29 → band_of bin ≡ bin
unfolding single masktab
single-band bin h =
    sym (masktab-band bin (omega arith)).band
    ∙ found-single bin (get_or masktab bin 0) h (at single masktab tt bin (omega arith))
