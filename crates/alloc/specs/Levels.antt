-- What the code computes with: the formulas of `Allocation` on levels. A level n stands for the number n - 8192, so that
-- no level is below 0. A difference of two levels (a gain, a decay, lowcomp) is held as it is.
-- `proofs/Carry.antt` proves that these are the formulas of `Allocation`.
use Rattle.std.specs.Prelude.{◌≡◌, ◌&&◌, cond, Option, List, ℕ, zero, suc, ◌+◌, ◌-◌, ◌*◌, ◌/◌, ◌%◌, ◌≤◌, min, max, leb, ltb, eqb, ℤ, pos, ◌+ℤ◌, get_or}
use Rattle.std.proofs.Math.IntN.{sub_ℕ}
use Rattle.tables.specs.BitAllocation.{latab, hth}
use Rattle.tables.specs.Bands.{band_of}
use Rattle.alloc.specs.Allocation.{tab, floored, first_in, last_in, lfe_last, counter, fast_of, slow_of}
use Rattle.alloc.specs.declared.Deltas.{Deltas}
use Rattle.alloc.specs.declared.Gains.{Gains}
use Rattle.alloc.specs.declared.Leaks.{Leaks}
use Rattle.alloc.specs.declared.Leak.{Leak}
use Rattle.alloc.specs.declared.Levels.{Levels}
use Rattle.alloc.specs.declared.Params.{Params}
use Rattle.alloc.specs.declared.Passed.{Passed}
use Rattle.alloc.specs.declared.Pointers.{Pointers}
use Rattle.alloc.specs.declared.Pointers.TheVariants.{Bap, Hebap}

-- the number that a level stands for
abbrev pub value : ℕ → ℤ
value n = sub_ℕ n 8192

-- the level of a number from -8192 on
abbrev pub level_of : ℤ → ℕ
level_of z = floored (z +ℤ pos 8192)

-- the parameters as the code holds them
abbrev pub gains_of : ℕ → Params → Gains
gains_of fgain q = record { fgain = fgain; sgain = q.sgain; fdecay = q.fdecay; sdecay = q.sdecay }

abbrev pub leaks_of : Option Leak → Leaks
leaks_of l = record { fast = 8192 + fast_of l; slow = 8192 + slow_of l }

abbrev pub levels_of : Params → ℕ → ℕ → Levels
levels_of q csnroffst fsnroffst =
    record { knee = 8192 + q.dbknee; floor = level_of q.floor; snr = 64 * csnroffst + 4 * fsnroffst; fscod = q.fscod }

abbrev pub psd_l : ℕ → ℕ
psd_l e = 8192 + 3072 - 128 * e

-- |a - b|
abbrev pub apart : ℕ → ℕ → ℕ
apart a b = (a - b) + (b - a)

unfoldable pub logadd_l : ℕ → ℕ → ℕ
logadd_l a b = max a b + get_or latab (min (apart a b / 2) 255) 0

-- what `logadd` gives: the sum by the table, which lies from the larger argument to 64 above it
pub record LogSum (a b r : ℕ) : Type 0 where
  pub sum : r ≡ logadd_l a b
  pub low : max a b ≤ r
  pub high : r ≤ max a b + 64

abbrev pub sum_l : List ℕ → ℕ → ℕ → ℕ
sum_l exp lo zero = psd_l (get_or exp lo 0)
sum_l exp lo (suc n) = logadd_l (sum_l exp lo n) (psd_l (get_or exp (suc (lo + n)) 0))

abbrev pub bndpsd_l : List ℕ → ℕ → ℕ → ℕ → ℕ
bndpsd_l exp start end k =
    cond (ltb (first_in start k) (last_in end k)) (sum_l exp (first_in start k) (last_in end k - first_in start k - 1)) 8192

unfoldable pub bndpsds_l : List ℕ → ℕ → ℕ → List ℕ
bndpsds_l exp start end = tab (bndpsd_l exp start end) 0 50

-- a power in steps of 32 below 3072, as the pointers are entered by it
abbrev pub steps_below : ℕ → ℕ
steps_below p = (11264 - p) / 32

-- the powers of the bins start .. n - 1 in these steps, and 0 at the other bins
unfoldable pub psds_l : List ℕ → ℕ → ℕ → List ℕ
psds_l exp start n = tab (λ j. cond (leb start j && ltb j n) (steps_below (psd_l (get_or exp j 0))) 0) 0 256

-- powers and sums of the range up to bin n: what is known when the bins start .. n - 1 are passed
pub record RangeL : Type 0 where
  pub powers : List ℕ
  pub sums : List ℕ

abbrev pub range_l : List ℕ → ℕ → ℕ → RangeL
range_l exp start n = record { powers = psds_l exp start n; sums = bndpsds_l exp start n }

abbrev pub lowcomp_l : ℕ → ℕ → ℕ → ℕ → ℕ
lowcomp_l a b0 b1 bin =
    cond (ltb bin 20)
    (cond (eqb (b0 + 256) b1) (cond (ltb bin 7) 384 320) (cond (ltb b1 b0) (a - 64) a))
    (a - 128)

abbrev pub next_low_l : List ℕ → ℕ → ℕ → ℕ → ℕ → ℕ
next_low_l bnd first last low b =
    cond (eqb first 0 && ltb b 22)
    (cond (lfe_last last b) low (lowcomp_l low (get_or bnd b 0) (get_or bnd (b + 1) 0) b))
    0

unfoldable pub decay_from_l : List ℕ → ℕ → ℕ → ℕ → ℕ
decay_from_l bnd last zero b = b
decay_from_l bnd last (suc n) b =
    cond (lfe_last last b) (b + 1)
    (cond (leb (get_or bnd b 0) (get_or bnd (b + 1) 0)) (b + 1) (decay_from_l bnd last n (b + 1)))

abbrev pub begin_l : List ℕ → ℕ → ℕ → ℕ
begin_l bnd first last = cond (eqb first 0) (decay_from_l bnd last 5 2) first

abbrev pub next_leak_l : ℕ → ℕ → ℕ → ℕ → ℕ → ℕ → ℕ
next_leak_l begin b leak decay p gain = cond (ltb b begin) (p - gain) (max (leak - decay) (p - gain))

abbrev pub excite_of_l : ℕ → ℕ → ℕ → ℕ → ℕ → ℕ
excite_of_l fast slow low begin b = cond (ltb b begin) (fast - low) (max (fast - low) slow)

-- the leaks and lowcomp at band b, from those before it
pub record NextL (bnd : List ℕ) (g : Gains) (s : Passed) (first last begin b : ℕ) (r : Passed) : Type 0 where
  pub fast : r.fast ≡ next_leak_l begin b s.fast g.fdecay (get_or bnd b 0) g.fgain
  pub slow : r.slow ≡ next_leak_l begin b s.slow g.sdecay (get_or bnd b 0) g.sgain
  pub low : r.low ≡ next_low_l bnd first last s.low b

module _ (bnd : List ℕ) (g : Gains) (l : Leaks) (first last : ℕ) where
  unfoldable pub fast_l : ℕ → ℕ
  fast_l zero = l.fast
  fast_l (suc n) = next_leak_l (begin_l bnd first last) (first + n) (fast_l n) g.fdecay (get_or bnd (first + n) 0) g.fgain

  unfoldable pub slow_l : ℕ → ℕ
  slow_l zero = l.slow
  slow_l (suc n) = next_leak_l (begin_l bnd first last) (first + n) (slow_l n) g.sdecay (get_or bnd (first + n) 0) g.sgain

  unfoldable pub low_l : ℕ → ℕ
  low_l zero = 0
  low_l (suc n) = next_low_l bnd first last (low_l n) (first + n)

  unfoldable pub excite_l : ℕ → ℕ
  excite_l n = excite_of_l (fast_l (suc n)) (slow_l (suc n)) (low_l (suc n)) (begin_l bnd first last) (first + n)

abbrev pub hear_l : ℕ → ℕ → ℕ
hear_l fscod b = 8192 + get_or hth (50 * fscod + b) 0

abbrev pub masked_l : ℕ → ℕ → Levels → ℕ → ℕ
masked_l e p q b = max (e + (q.knee - p) / 4) (hear_l q.fscod b)

abbrev pub delta_l : ℕ → ℕ → ℕ
delta_l m ba = cond (ltb ba 4) (m - (4 - ba) * 128) (m + (ba - 3) * 128)

abbrev pub delta_in_l : ℕ → ℕ → ℕ → ℕ → ℕ → ℕ
delta_in_l m ba from to b = cond (leb from b && ltb b to) (delta_l m ba) m

unfoldable pub deltaed_l : Deltas → ℕ → ℕ → ℕ → ℕ
deltaed_l d b m zero = m
deltaed_l d b m (suc i) =
    delta_in_l (deltaed_l d b m i) (get_or d.ba i 0) (counter d i + get_or d.offset i 0) (counter d (suc i)) b

-- where a mask stands among the steps of 32 by which the pointers are entered: the mask less the offset, above the floor,
-- and the floor below the power of 3072; snr is snroffset + 960
abbrev pub place_l : ℕ → ℕ → ℕ → ℕ
place_l mask snr floor = (mask + 960 - (snr + floor)) / 32 % 256 + (160 - (11264 - floor) / 32)

module _ (g : Gains) (l : Leaks) (q : Levels) (d : Deltas) where
  -- the mask of a band when all segments are passed
  abbrev pub mask_l : List ℕ → ℕ → ℕ → ℕ → ℕ
  mask_l bnd first last b = deltaed_l d b (masked_l (excite_l bnd g l first last (b - first)) (get_or bnd b 0) q b) d.n

  unfoldable pub places_l : List ℕ → ℕ → ℕ → List ℕ
  places_l bnd first last =
      tab (λ b. cond (leb first b && ltb b last) (place_l (mask_l bnd first last b) q.snr q.floor) 0) 0 50

-- where a table starts among the pointers
abbrev pub base_of : Pointers → ℕ
base_of Bap = 0
base_of Hebap = 512

-- the pointer of a bin of a band, by the band's place in the table and the bin's power
abbrev pub point_l : List ℕ → List ℕ → ℕ → ℕ → ℕ
point_l table powers place bin = get_or table (place + get_or powers bin 0) 0

abbrev pub pointer_l : List ℕ → ℕ → List ℕ → List ℕ → ℕ → ℕ
pointer_l table base powers places bin = point_l table powers (base + get_or places (band_of bin) 0) bin

-- the places of the bands of the bins start .. end - 1
unfoldable pub places_of : List ℕ → ℕ → ℕ → Gains → Leaks → Levels → Deltas → List ℕ
places_of exp start end g l q d = places_l g l q d (range_l exp start end).sums (band_of start) (band_of (end - 1) + 1)

unfoldable pub allocation_l : List ℕ → ℕ → List ℕ → ℕ → ℕ → Gains → Leaks → Levels → Deltas → List ℕ
allocation_l table base exp start end g l q d =
    tab (λ j. cond (leb start j && ltb j end) (pointer_l table base (range_l exp start end).powers (places_of exp start end g l q d) j) 0) 0 256
