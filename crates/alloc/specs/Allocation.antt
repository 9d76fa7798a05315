-- The parametric bit allocation on whole numbers, clause by clause: A/52 7.2.2.x is TS 102 366 6.2.2.x.
-- `cond t a b` is a where t holds and b where it does not; `pos n` is the natural number n as a whole number.
-- Names are those of the clauses; tables are those of the crate `tables`.
use Rattle.std.specs.Prelude.{Bool, ◌&&◌, not, cond, Option, Some, None, List, [], ◌∷◌, ℕ, zero, suc, ◌+◌, ◌-◌, ◌*◌, ◌/◌, ◌%◌, min, max, leb, ltb, eqb, get_or, ℤ, pos, negsuc, neg_ℤ, nat_abs, ◌+ℤ◌, ◌-ℤ◌, ◌*ℤ◌}
use Rattle.std.specs.Int.Signed.{lt_z}
use Rattle.tables.specs.BitAllocation.{slowdec, fastdec, slowgain, dbpbtab, floortab, latab, hth, baptab, hebaptab}
use Rattle.tables.specs.Bands.{band_of, start_of, end_of}
use Rattle.alloc.specs.declared.Params.{Params}
use Rattle.alloc.specs.declared.Channel.{Channel}
use Rattle.alloc.specs.declared.Deltas.{Deltas}
use Rattle.alloc.specs.declared.Leak.{Leak}
use Rattle.alloc.specs.declared.Pointers.{Pointers}
use Rattle.alloc.specs.declared.Pointers.TheVariants.{Bap, Hebap}

abbrev pub max_z : ℤ → ℤ → ℤ
max_z a b = cond (lt_z a b) b a

abbrev pub eq_z : ℤ → ℤ → Bool
eq_z a b = not (lt_z a b) && not (lt_z b a)

-- no less than 0
abbrev pub floored : ℤ → ℕ
floored (pos n) = n
floored (negsuc n) = 0

-- f i, f (i + 1), .., n of them
abbrev pub tab : (ℕ → ℕ) → ℕ → ℕ → List ℕ
tab f i zero = []
tab f i (suc n) = f i ∷ tab f (suc i) n

-- 7.2.2.1: the parameters by their codes, the leaks that coupling starts with, and snroffset
abbrev pub params_of : ℕ → ℕ → ℕ → ℕ → ℕ → ℕ → Params
params_of sdcycod fdcycod sgaincod dbpbcod floorcod fscod =
    record {
      sdecay = get_or slowdec sdcycod 0;
      fdecay = get_or fastdec fdcycod 0;
      sgain = get_or slowgain sgaincod 0;
      dbknee = get_or dbpbtab dbpbcod 0;
      floor = get_or floortab floorcod (pos 0);
      fscod = fscod;
    }

abbrev pub leak_of : ℕ → ℕ → Leak
leak_of cplfleak cplsleak = record { fast = cplfleak * 256 + 768; slow = cplsleak * 256 + 768 }

unfoldable pub snroffset : ℕ → ℕ → ℤ
snroffset csnroffst fsnroffst = pos 4 *ℤ (pos 16 *ℤ (pos csnroffst -ℤ pos 15) +ℤ pos fsnroffst)

-- 7.2.2.2: psd[bin] = 3072 - (exp[bin] << 7)
abbrev pub psd : ℕ → ℤ
psd e = pos 3072 -ℤ pos (128 * e)

-- 7.2.2.3: c = a - b; address = min(|c| >> 1, 255); the larger plus latab[address]
abbrev pub logadd : ℤ → ℤ → ℤ
logadd a b = max_z a b +ℤ pos (get_or latab (min (nat_abs (a -ℤ b) / 2) 255) 0)

-- the powers of the bins lo, lo + 1, .., lo + n, added
unfoldable pub sum : List ℕ → ℕ → ℕ → ℤ
sum exp lo zero = psd (get_or exp lo 0)
sum exp lo (suc n) = logadd (sum exp lo n) (psd (get_or exp (suc (lo + n)) 0))

-- the first bin of band k from start on, and the first past it up to end
abbrev pub first_in : ℕ → ℕ → ℕ
first_in start k = max start (start_of k)

abbrev pub last_in : ℕ → ℕ → ℕ
last_in end k = min end (end_of k)

-- bndpsd[k], of the bins of the band among start .. end - 1; 0 where it has none of them
unfoldable pub bndpsd : List ℕ → ℕ → ℕ → ℕ → ℤ
bndpsd exp start end k =
    cond (ltb (first_in start k) (last_in end k))
    (sum exp (first_in start k) (last_in end k - first_in start k - 1))
    (pos 0)

-- powers and sums of the range up to bin n: psd by bin, looked at for the bins start .. n - 1 alone, and bndpsd of the bands as far as these bins go
pub record Range : Type 0 where
  pub powers : ℕ → ℤ
  pub sums : ℕ → ℤ

abbrev pub range_to : List ℕ → ℕ → ℕ → Range
range_to exp start n = record { powers = λ bin. psd (get_or exp bin 0); sums = bndpsd exp start n }

-- 7.2.2.4: calc_lowcomp(a, b0, b1, bin)
abbrev pub calc_lowcomp : ℕ → ℤ → ℤ → ℕ → ℕ
calc_lowcomp a b0 b1 bin =
    cond (ltb bin 20)
    (cond (eq_z (b0 +ℤ pos 256) b1) (cond (ltb bin 7) 384 320) (cond (lt_z b1 b0) (a - 64) a))
    (a - 128)

-- (bndend == 7) && (bin == 6): the last band of the LFE channel has no band after it to compare with
abbrev pub lfe_last : ℕ → ℕ → Bool
lfe_last bndend b = eqb bndend 7 && eqb b 6

-- the excitation of the bands bndstrt .. bndend - 1 with the powers p; fastleak and slowleak start at fast and slow
module _ (p : ℕ → ℤ) (fgain : ℕ) (q : Params) (fast slow : ℤ) (bndstrt bndend : ℕ) where
  -- the band from which the leaks decay: past the first of the bands 2 .. 6 from which the power does not fall, or 7
  unfoldable pub decay_from : ℕ → ℕ → ℕ
  decay_from zero b = b
  decay_from (suc n) b = cond (lfe_last bndend b) (b + 1) (cond (not (lt_z (p (b + 1)) (p b))) (b + 1) (decay_from n (b + 1)))

  abbrev pub begin : ℕ
  begin = cond (eqb bndstrt 0) (decay_from 5 2) bndstrt

  -- fastleak, slowleak and lowcomp when n bands from bndstrt on are passed
  unfoldable pub fastleak : ℕ → ℤ
  fastleak zero = fast
  fastleak (suc n) =
      cond (ltb (bndstrt + n) begin) (p (bndstrt + n) -ℤ pos fgain)
      (max_z (fastleak n -ℤ pos q.fdecay) (p (bndstrt + n) -ℤ pos fgain))

  unfoldable pub slowleak : ℕ → ℤ
  slowleak zero = slow
  slowleak (suc n) =
      cond (ltb (bndstrt + n) begin) (p (bndstrt + n) -ℤ pos q.sgain)
      (max_z (slowleak n -ℤ pos q.sdecay) (p (bndstrt + n) -ℤ pos q.sgain))

  -- only where the range starts at band 0, and below band 22
  unfoldable pub lowcomp : ℕ → ℕ
  lowcomp zero = 0
  lowcomp (suc n) =
      cond (eqb bndstrt 0 && ltb (bndstrt + n) 22)
      (cond (lfe_last bndend (bndstrt + n)) (lowcomp n) (calc_lowcomp (lowcomp n) (p (bndstrt + n)) (p (bndstrt + n + 1)) (bndstrt + n)))
      0

  -- excite[bndstrt + n]
  unfoldable pub excite : ℕ → ℤ
  excite n =
      cond (ltb (bndstrt + n) begin)
      (fastleak (suc n) -ℤ pos (lowcomp (suc n)))
      (max_z (fastleak (suc n) -ℤ pos (lowcomp (suc n))) (slowleak (suc n)))

-- 7.2.2.5: if (bndpsd < dbknee) excite += (dbknee - bndpsd) >> 2; mask = max(excite, hth[fscod][band])
abbrev pub masked : ℤ → ℤ → Params → ℕ → ℤ
masked e p q b = max_z (e +ℤ pos (floored (pos q.dbknee -ℤ p) / 4)) (pos (get_or hth (50 * q.fscod + b) 0))

-- 7.2.2.6: (deltba - 4) << 7 below 4, (deltba - 3) << 7 from 4 on
abbrev pub delta : ℕ → ℤ
delta ba = cond (ltb ba 4) (neg_ℤ (pos ((4 - ba) * 128))) (pos ((ba - 3) * 128))

-- the band counter when i segments are passed: offsets and lengths add up from one segment to the next
unfoldable pub counter : Deltas → ℕ → ℕ
counter d zero = 0
counter d (suc i) = counter d i + get_or d.offset i 0 + get_or d.len i 0

-- segment i covers the bands from the counter plus its offset to the next counter; those from 50 on do not exist
abbrev pub covers : Deltas → ℕ → ℕ → Bool
covers d i b = leb (counter d i + get_or d.offset i 0) b && ltb b (counter d (suc i))

-- the mask m of band b when i segments are passed
unfoldable pub deltaed : Deltas → ℕ → ℤ → ℕ → ℤ
deltaed d b m zero = m
deltaed d b m (suc i) = cond (covers d i b) (deltaed d b m i +ℤ delta (get_or d.ba i 0)) (deltaed d b m i)

-- 7.2.2.7: mask -= snroffset; mask -= floor; if (mask < 0) mask = 0; mask &= 0x1fe0; mask += floor
abbrev pub stepped : ℤ → ℤ → ℤ → ℤ
stepped mask snroff floor = pos (floored (mask -ℤ snroff -ℤ floor) / 32 % 256 * 32) +ℤ floor

-- address = (psd - mask) >> 5, from 0 to 63
abbrev pub address : ℤ → ℤ → ℕ
address psd mask = min (floored (psd -ℤ mask) / 32) 63

-- bap by baptab, hebap by hebaptab (A/52 E3.4.3.1, TS 102 366 E.2.4.3.1)
abbrev pub table_of : Pointers → List ℕ
table_of Bap = baptab
table_of Hebap = hebaptab

abbrev pub fast_of : Option Leak → ℕ
fast_of None = 0
fast_of (Some leak) = leak.fast

abbrev pub slow_of : Option Leak → ℕ
slow_of None = 0
slow_of (Some leak) = leak.slow

-- the whole, of the bins start .. end - 1 of the exponents exp
module _ (kind : Pointers) (exp : List ℕ) (c : Channel) (q : Params) (l : Option Leak) (d : Deltas) where
  abbrev pub mask : ℕ → ℤ
  mask b =
      stepped
      (deltaed d b
      (masked
      (excite (range_to exp c.start c.end).sums c.fgain q (pos (fast_of l)) (pos (slow_of l))
      (band_of c.start) (band_of (c.end - 1) + 1) (b - band_of c.start))
      ((range_to exp c.start c.end).sums b) q b)
      d.n)
      (snroffset c.csnroffst c.fsnroffst) q.floor

  abbrev pub pointer : ℕ → ℕ
  pointer bin = get_or (table_of kind) (address ((range_to exp c.start c.end).powers bin) (mask (band_of bin))) 0

  -- the pointers of 256 bins: 0 outside start .. end - 1, so all 0 where end ≤ start
  unfoldable pub allocation : List ℕ
  allocation = tab (λ bin. cond (leb c.start bin && ltb bin c.end) (pointer bin) 0) 0 256
