-- The powers of the bins and the sums of the bands, from one bin to the next.
-- Assumes nothing.
use mathlib.Core.Path.{◌≡◌, refl, ap, ◌∙◌, sym}
use mathlib.Core.Bool.{cond, ◌&&◌}
use mathlib.Core.List.{List}
use Prim.Native.Nat.{ℕ, zero, suc, ◌+◌, ◌-◌, ◌*◌, ◌<◌, ◌≤◌}
use native.Mathlib.Decide.{dec_lt, ℕ_discrete}
use native.Mathlib.Nat.{le_refl}
use native.Mathlib.Omega.{arith}
use borrow.Author.Tests.{lt-ltb, le-ltb}
use lib.Dec.{ltb, leb}
use lib.ListN.{length, get_or, set, replicate, length-set, length-replicate, get_or-replicate, get_or-eq_default}
use lib.Seq.{get_or-set_same, get_or-set_other, set-set}
use Rattle.tables.specs.Bands.{start_of, end_of, BinBand}
use Rattle.tables.proofs.Bins.{apart-bands, next-band, same-band}
use Rattle.alloc.specs.Allocation.{tab, first_in, last_in}
use Rattle.alloc.specs.Levels.{logadd_l, psd_l, sum_l, bndpsd_l, bndpsds_l, steps_below, psds_l, range_l}
use Rattle.alloc.specs.Premises.{Exponents, Powers}
use Rattle.alloc.proofs.Lists.{length-tab, get_d-tab, tab-of, within, outside, sooner-than, ranged-none, picked_low}
use Rattle.alloc.proofs.LogSums.{logadd-bound}

-- a sum of n + 1 powers is at most 64 n above one of 3072
pub sum-high : (exp : List ℕ) (lo n : ℕ) → sum_l exp lo n ≤ 11264 + 64 * n
sum-high exp lo zero = omega arith
sum-high exp lo (suc n) =
    let h = sum-high exp lo n in
    let b = logadd-bound (sum_l exp lo n) (psd_l (get_or exp (suc (lo + n)) 0)) in
    omega (arith, b.high)

-- a sum of powers is no less than the first, which is no less than 0
sum-least : (exp : List ℕ) (lo n : ℕ) → get_or exp lo 0 ≤ 24 → 8192 ≤ sum_l exp lo n
sum-least exp lo zero h = omega arith
sum-least exp lo (suc n) h =
    let r = sum-least exp lo n h in
    let b = logadd-bound (sum_l exp lo n) (psd_l (get_or exp (suc (lo + n)) 0)) in
    omega (arith, b.low)

-- the sum of the bins lo .. j - 1, with bin j
pub sum_more : (exp : List ℕ) (lo j : ℕ) → lo < j → logadd_l (sum_l exp lo (j - lo - 1)) (psd_l (get_or exp j 0)) ≡ sum_l exp lo (j + 1 - lo - 1)
sum_more exp lo j h =
    let z : j + 1 - lo - 1 ≡ suc (j - lo - 1) = omega arith in
    let l : suc (lo + (j - lo - 1)) ≡ j = omega arith in
    rw (z, l)

-- what was set
place_set : (l : List ℕ) (n r i v : ℕ) → n < length l → i ≡ n → r ≡ v → get_or (set l n r) i 0 ≡ v
place_set l n r i v h q e = rw (q, get_or-set_same l n r 0 h) e

-- what the powers up to bin n have at bin j
abbrev power_in : List ℕ → ℕ → ℕ → ℕ → ℕ
power_in exp start n j = cond (leb start j && ltb j n) (steps_below (psd_l (get_or exp j 0))) 0

-- one bin more, of the bins from start on
module _ (exp : List ℕ) (start : ℕ) where
  -- a band that has none of the bins has the level of 0
  none : (n k : ℕ) → last_in n k ≤ first_in start k → bndpsd_l exp start n k ≡ 8192
  none n k h = simp (le-ltb (first_in start k) (last_in n k) h)

  -- bin n is the first of its band
  pub band-opens : (n k : ℕ) → BinBand n k → first_in start k ≡ n → psd_l (get_or exp n 0) ≡ bndpsd_l exp start (n + 1) k
  band-opens n k b e =
      let hi : last_in (n + 1) k ≡ n + 1 = omega (arith, b.to) in
      let z : n + 1 - n - 1 ≡ 0 = omega arith in
      rw (e, hi, lt-ltb n (n + 1) (omega arith), z) refl

  -- bin n goes on in its band
  band-goes-on : (n k : ℕ) → BinBand n k → first_in start k < n
      → logadd_l (bndpsd_l exp start n k) (psd_l (get_or exp n 0)) ≡ bndpsd_l exp start (n + 1) k
  band-goes-on n k b h =
      let lo : last_in n k ≡ n = omega (arith, b.to) in
      let hi : last_in (n + 1) k ≡ n + 1 = omega (arith, b.to) in
      rw (lo, hi, lt-ltb (first_in start k) n h, lt-ltb (first_in start k) (n + 1) (let z : first_in start k < n + 1 = omega arith in z))
      (sum_more exp (first_in start k) n h)

  -- the other bands stay as they are
  other : (n k i : ℕ) → BinBand n k → (i ≡ k → ⊥) → i < 50 → Dec (i < k) → bndpsd_l exp start n i ≡ bndpsd_l exp start (n + 1) i
  other n k i b ne h (yes l) =
      let q : end_of i ≤ start_of k = apart-bands i k l b.is in
      let e : last_in n i ≡ last_in (n + 1) i = omega (arith, b.from) in
      ap (λ x. cond (ltb (first_in start i) x) (sum_l exp (first_in start i) (x - first_in start i - 1)) 8192) e
  other n k i b ne h (no m) =
      let q : end_of k ≤ start_of i = apart-bands k i (omega arith) h in
      none n i (omega (arith, b.to)) ∙ sym (none (n + 1) i (omega (arith, b.to)))

  -- the sums up to bin n, and that of the band of bin n
  pub sums-more : (n k r : ℕ) → BinBand n k → r ≡ bndpsd_l exp start (n + 1) k → set (bndpsds_l exp start n) k r ≡ bndpsds_l exp start (n + 1)
  unfolding bndpsds_l
  sums-more n k r b e =
      tab-of (bndpsd_l exp start (n + 1)) 50 (set (tab (bndpsd_l exp start n) 0 50) k r)
      (simp length-set (length-tab (bndpsd_l exp start n) 0 50))
      (λ i h. at i h (ℕ_discrete i k))
    where
      at : (i : ℕ) → i < 50 → Dec (i ≡ k) → get_or (set (tab (bndpsd_l exp start n) 0 50) k r) i 0 ≡ bndpsd_l exp start (n + 1) i
      at i h (yes q) =
          let l = length-tab (bndpsd_l exp start n) 0 50 in
          place_set (tab (bndpsd_l exp start n) 0 50) k r i _ (omega (arith, b.is)) q (e ∙ ap (bndpsd_l exp start (n + 1)) (sym q))
      at i h (no ne) =
          get_or-set_other (tab (bndpsd_l exp start n) 0 50) k i r 0 ne
          ∙ get_d-tab (bndpsd_l exp start n) 50 i h
          ∙ other n k i b ne h (dec_lt i k)

  pub sums_none : replicate 50 8192 ≡ bndpsds_l exp start start
  unfolding bndpsds_l
  sums_none =
      tab-of (bndpsd_l exp start start) 50 (replicate 50 8192) (length-replicate {A = ℕ} 50 8192)
      (λ k h. get_or-replicate 50 k 8192 0 h ∙ sym (none start k (omega arith)))

  -- the powers up to bin n, and that of bin n
  past : (n i a : ℕ) → (i ≡ n → ⊥) → Dec (i < n) → cond (leb start i && ltb i n) a 0 ≡ cond (leb start i && ltb i (n + 1)) a 0
  past n i a ne (yes l) = rw (lt-ltb i n l, lt-ltb i (n + 1) (let z : i < n + 1 = omega arith in z))
  past n i a ne (no m) =
      rw (le-ltb i n (let z : n ≤ i = omega arith in z), le-ltb i (n + 1) (let z : n + 1 ≤ i = omega arith in z))

  pub powers-more : (n r : ℕ) → start ≤ n → n < 256 → r ≡ steps_below (psd_l (get_or exp n 0))
      → set (psds_l exp start n) n r ≡ psds_l exp start (n + 1)
  unfolding psds_l
  powers-more n r up low e =
      tab-of (power_in exp start (n + 1)) 256 (set (tab (power_in exp start n) 0 256) n r)
      (simp length-set (length-tab (power_in exp start n) 0 256))
      (λ i h. at i h (ℕ_discrete i n))
    where
      at : (i : ℕ) → i < 256 → Dec (i ≡ n)
          → get_or (set (tab (power_in exp start n) 0 256) n r) i 0
          ≡ power_in exp start (n + 1) i
      at i h (yes q) =
          let l = length-tab (power_in exp start n) 0 256 in
          place_set (tab (power_in exp start n) 0 256) n r i _ (omega arith) q
          (e ∙ ap (λ x. steps_below (psd_l (get_or exp x 0))) (sym q) ∙ sym (within start (n + 1) i (steps_below (psd_l (get_or exp i 0))) 0 (omega arith) (omega arith)))
      at i h (no ne) =
          get_or-set_other (tab (power_in exp start n) 0 256) n i r 0 ne
          ∙ get_d-tab (power_in exp start n) 256 i h
          ∙ past n i (steps_below (psd_l (get_or exp i 0))) ne (dec_lt i n)

  pub powers-none : replicate 256 0 ≡ psds_l exp start start
  unfolding psds_l
  powers-none = ranged-none (λ j. steps_below (psd_l (get_or exp j 0))) start start 256 (le_refl start)

  -- the pass: bin j - 1 is in band k, which ends at `to` and has the sum s so far
  module _ (j k to s : ℕ) (bnd : List ℕ) (up : start < j) (low : j < 253) (band : BinBand (j - 1) k) (end : to ≡ end_of k)
      (sum : s ≡ bndpsd_l exp start j k) (sums : set bnd k s ≡ (range_l exp start j).sums) where
    -- bin j is the first of the next band
    module _ (here : j ≡ to) where
      pub next-bin : BinBand j (k + 1)
      next-bin =
          let e : j ≡ end_of k = here ∙ end in
          rw e (next-band k band.is (let z : end_of k < 253 = omega arith in z))

      pub opened-sum : psd_l (get_or exp j 0) ≡ bndpsd_l exp start (j + 1) (k + 1)
      opened-sum =
          let q : end_of k ≤ start_of (k + 1) = apart-bands k (k + 1) (omega arith) next-bin.is in
          band-opens j (k + 1) next-bin (omega (arith, next-bin.from))

      pub opened-sums : set (set bnd k s) (k + 1) (psd_l (get_or exp j 0)) ≡ (range_l exp start (j + 1)).sums
      opened-sums = ap (λ l. set l (k + 1) (psd_l (get_or exp j 0))) sums ∙ sums-more j (k + 1) (psd_l (get_or exp j 0)) next-bin opened-sum

    -- bin j is in the same band
    module _ (inside : j ≡ to → ⊥) where
      pub same_bin : BinBand j k
      same_bin =
          let lo : start_of k ≤ j = omega (arith, band.from) in
          let hi : j < end_of k = omega (arith, band.to) in
          record { band = same-band j k low band.is lo hi; is = band.is; from = lo; to = hi }

      pub added-sum : logadd_l s (psd_l (get_or exp j 0)) ≡ bndpsd_l exp start (j + 1) k
      added-sum =
          ap (λ x. logadd_l x (psd_l (get_or exp j 0))) sum
          ∙ band-goes-on j k same_bin (omega (arith, band.from))

      pub added-sums : set bnd k (logadd_l s (psd_l (get_or exp j 0))) ≡ (range_l exp start (j + 1)).sums
      added-sums =
          sym (set-set bnd k s (logadd_l s (psd_l (get_or exp j 0))))
          ∙ ap (λ l. set l k (logadd_l s (psd_l (get_or exp j 0)))) sums
          ∙ sums-more j k (logadd_l s (psd_l (get_or exp j 0))) same_bin added-sum

pub band-high : (exp : List ℕ) (start end k : ℕ) → end ≤ 253 → bndpsd_l exp start end k < 32768
band-high exp start end k h =
    picked_low (ltb (first_in start k) (last_in end k)) _ _ 32768
    (omega (arith, sum-high exp (first_in start k) (last_in end k - first_in start k - 1))) (omega arith)

low-at : (exp : List ℕ) (start end k : ℕ) → end ≤ 253 → Dec (k < 50) → get_or (bndpsds_l exp start end) k 0 < 32768
unfolding bndpsds_l
low-at exp start end k h (yes b) = rw (get_d-tab (bndpsd_l exp start end) 50 k b) (band-high exp start end k h)
low-at exp start end k h (no n) =
    let l = length-tab (bndpsd_l exp start end) 0 50 in
    rw (get_or-eq_default (tab (bndpsd_l exp start end) 0 50) 0 {n = k} (omega arith)) (omega arith)

pub bands-low : (exp : List ℕ) (start end : ℕ) → end ≤ 253 → (k : ℕ) → get_or (bndpsds_l exp start end) k 0 < 32768
bands-low exp start end h k = low-at exp start end k h (dec_lt k 50)

-- no sum of the range is below 0
band-least : (exp : List ℕ) (start end k : ℕ) → Exponents exp start end → Dec (first_in start k < last_in end k) → 8192 ≤ bndpsd_l exp start end k
band-least exp start end k ready (yes h) =
    rw (lt-ltb (first_in start k) (last_in end k) h)
    (sum-least exp (first_in start k) (last_in end k - first_in start k - 1) (ready.low (first_in start k) (omega arith) (omega arith)))
band-least exp start end k ready (no n) =
    rw (le-ltb (first_in start k) (last_in end k) (let z : last_in end k ≤ first_in start k = omega arith in z)) (omega arith)

pub bands-least : (exp : List ℕ) (start end : ℕ) → Exponents exp start end → (k : ℕ) → k < 50 → 8192 ≤ get_or (bndpsds_l exp start end) k 0
unfolding bndpsds_l
bands-least exp start end ready k h =
    rw (get_d-tab (bndpsd_l exp start end) 50 k h) (band-least exp start end k ready (dec_lt (first_in start k) (last_in end k)))

-- no power of the range is below 0
power-low : (exp : List ℕ) (start end : ℕ) → Exponents exp start end → (j : ℕ) → Dec (j < start) → Dec (j < end) → power_in exp start end j ≤ 96
power-low exp start end ready j (yes a) e = rw (sooner-than start end j (steps_below (psd_l (get_or exp j 0))) 0 a) (omega arith)
power-low exp start end ready j (no a) (no b) =
    rw (outside start end j (steps_below (psd_l (get_or exp j 0))) 0 a (let z : end ≤ j = omega arith in z)) (omega arith)
power-low exp start end ready j (no a) (yes b) =
    let up : start ≤ j = omega arith in
    let h = ready.low j up b in
    rw (within start end j (steps_below (psd_l (get_or exp j 0))) 0 up b) (omega arith)

powers-at : (exp : List ℕ) (start end : ℕ) → Exponents exp start end → (j : ℕ) → Dec (j < 256) → get_or (psds_l exp start end) j 0 ≤ 96
unfolding psds_l
powers-at exp start end ready j (yes h) =
    rw (get_d-tab (power_in exp start end) 256 j h) (power-low exp start end ready j (dec_lt j start) (dec_lt j end))
powers-at exp start end ready j (no n) =
    let l = length-tab (power_in exp start end) 0 256 in
    rw (get_or-eq_default (tab (power_in exp start end) 0 256) 0 {n = j} (omega arith)) (omega arith)

pub powers-size : (exp : List ℕ) (start end : ℕ) → length (psds_l exp start end) ≡ 256
unfolding psds_l
powers-size exp start end = length-tab (power_in exp start end) 0 256

pub powers-low : (exp : List ℕ) (start end : ℕ) → Exponents exp start end → Powers (psds_l exp start end)
powers-low exp start end ready = record { size = powers-size exp start end; low = λ j. powers-at exp start end ready j (dec_lt j 256) }
