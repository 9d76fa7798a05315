-- The formulas on levels are those of `Allocation` on the numbers that the levels stand for.
-- Assumes nothing.
use mathlib.Core.Path.{◌≡◌, refl, ap, ap₂, ◌∙◌, sym}
use mathlib.Core.Bool.{Bool, true, false, ◌&&◌, not, cond}
use mathlib.Core.List.{List, ◌++◌}
use Prim.Native.Nat.{ℕ, zero, suc, ◌+◌, ◌-◌, ◌*◌, ◌/◌, ◌%◌, ◌<◌, ◌≤◌, min, max}
use native.Mathlib.Decide.{dec_lt}
use native.Mathlib.Nat.{zero-add, add_assoc}
use native.Mathlib.Omega.{arith}
use borrow.Author.Tests.{lt-ltb, le-ltb}
use lib.Dec.{ltb, leb, eqb}
use lib.ListN.{length, get_or, get_or-append}
use lib.Seq.{get_or-append-add}
use lib.IntN.{ℤ, pos, neg_ℤ, sub_ℕ, nat_abs, ◌+ℤ◌, ◌-ℤ◌, +ℤ_comm}
use lib.Signed.{lt_z}
use Rattle.tables.specs.BitAllocation.{latab, hth, baptab, hebaptab}
use Rattle.tables.specs.Bands.{band_of}
use Rattle.tables.specs.Steps.{steps}
use Rattle.tables.proofs.Bins.{own-band, bands-rise}
use Rattle.tables.proofs.Stepped.{length-steps, steps-at}
use Rattle.alloc.specs.Allocation.{max_z, floored, first_in, last_in, psd, logadd, sum, bndpsd, calc_lowcomp, lfe_last, decay_from, begin, fastleak, slowleak, lowcomp, excite, masked, covers, deltaed, stepped, address, table_of, snroffset, mask, pointer, allocation, fast_of, slow_of}
use Rattle.alloc.specs.Levels.{value, psd_l, logadd_l, apart, sum_l, bndpsd_l, bndpsds_l, steps_below, psds_l, range_l, lowcomp_l, next_low_l, decay_from_l, begin_l, fast_l, slow_l, low_l, excite_l, masked_l, hear_l, deltaed_l, place_l, mask_l, places_l, places_of, pointer_l, allocation_l, base_of, gains_of, leaks_of, level_of, levels_of}
use Rattle.alloc.specs.Premises.{Exponents, Tuned, Channelled}
use Rattle.alloc.specs.declared.Channel.{Channel}
use Rattle.alloc.specs.declared.Deltas.{Deltas}
use Rattle.alloc.specs.declared.Gains.{Gains}
use Rattle.std.specs.Prelude.{Option}
use Rattle.alloc.specs.declared.Leak.{Leak}
use Rattle.alloc.specs.declared.Leaks.{Leaks}
use Rattle.alloc.specs.declared.Levels.{Levels}
use Rattle.alloc.specs.declared.Params.{Params}
use Rattle.alloc.specs.declared.Pointers.{Pointers}
use Rattle.alloc.specs.declared.Pointers.TheVariants.{Bap, Hebap}
use Rattle.alloc.proofs.Lists.{get_d-tab, tab-same, within, ranged}
use Rattle.alloc.proofs.LogSums.{logadd-bound}
use Rattle.alloc.proofs.Signs.{value-minus, value-plus, value-apart, value-max, value-ltb, value-eqb, value-cond, value_pos, value-level, not-ltb, abs-sub, leak-reads, floored-sub, step-reads, address-reads, offset-is, level-is}

-- 7.2.2.2
value-psd : (e : ℕ) → e ≤ 24 → value (psd_l e) ≡ psd e
value-psd e h = value-minus 11264 (128 * e) (omega arith)

-- 7.2.2.3
value-logadd : (a b : ℕ) → value (logadd_l a b) ≡ logadd (value a) (value b)
unfolding logadd_l
value-logadd a b =
    value-plus (max a b) (get_or latab (min (apart a b / 2) 255) 0)
    ∙ ap₂ (λ x y. x +ℤ pos (get_or latab (min (y / 2) 255) 0)) (value-max a b) (sym (ap nat_abs (value-apart a b) ∙ abs-sub a b))

value-sum : (exp : List ℕ) (lo n : ℕ) → ((j : ℕ) → lo ≤ j → j ≤ lo + n → get_or exp j 0 ≤ 24) → value (sum_l exp lo n) ≡ sum exp lo n
unfolding sum
value-sum exp lo zero low = value-psd (get_or exp lo 0) (low lo (omega arith) (omega arith))
value-sum exp lo (suc n) low =
    value-logadd (sum_l exp lo n) (psd_l (get_or exp (suc (lo + n)) 0))
    ∙ ap₂ logadd (value-sum exp lo n (λ j a b. low j a (omega arith)))
    (value-psd (get_or exp (suc (lo + n)) 0) (low (suc (lo + n)) (omega arith) (omega arith)))

sum_low : (exp : List ℕ) (lo n : ℕ) → ((j : ℕ) → lo ≤ j → j ≤ lo + n → get_or exp j 0 ≤ 24) → 8192 ≤ sum_l exp lo n
sum_low exp lo zero low = omega (arith, low lo (omega arith) (omega arith))
sum_low exp lo (suc n) low =
    let r = sum_low exp lo n (λ j a b. low j a (omega arith)) in
    let b = logadd-bound (sum_l exp lo n) (psd_l (get_or exp (suc (lo + n)) 0)) in
    omega (arith, b.low)

module _ (exp : List ℕ) (start end : ℕ) (ready : Exponents exp start end) (k : ℕ) where
  in-band : first_in start k < last_in end k → (j : ℕ) → first_in start k ≤ j → j ≤ first_in start k + (last_in end k - first_in start k - 1) → get_or exp j 0 ≤ 24
  in-band h j a b = ready.low j (omega arith) (omega arith)

  value-band : Dec (first_in start k < last_in end k) → value (bndpsd_l exp start end k) ≡ bndpsd exp start end k
  unfolding bndpsd
  value-band (yes h) = rw (lt-ltb (first_in start k) (last_in end k) h) (value-sum exp (first_in start k) _ (in-band h))
  value-band (no n) = rw (le-ltb (first_in start k) (last_in end k) (let z : last_in end k ≤ first_in start k = omega arith in z))

  band-high : Dec (first_in start k < last_in end k) → 8192 ≤ bndpsd_l exp start end k
  band-high (yes h) = rw (lt-ltb (first_in start k) (last_in end k) h) (sum_low exp (first_in start k) _ (in-band h))
  band-high (no n) = rw (le-ltb (first_in start k) (last_in end k) (let z : last_in end k ≤ first_in start k = omega arith in z)) (omega arith)

-- 7.2.2.4
cond-high : (t : Bool) (a b n : ℕ) → n ≤ a → n ≤ b → n ≤ cond t a b
cond-high true a b n ha hb = ha
cond-high false a b n ha hb = hb

value-leak : (t : Bool) (leak decay p gain : ℕ) → decay ≤ leak → gain ≤ p
    → value (cond t (p - gain) (max (leak - decay) (p - gain)))
    ≡ cond t (value p -ℤ pos gain) (max_z (value leak -ℤ pos decay) (value p -ℤ pos gain))
value-leak true leak decay p gain h k = value-minus p gain k
value-leak false leak decay p gain h k = leak-reads leak decay p gain h k

low-comp : (a b0 b1 bin : ℕ) → lowcomp_l a b0 b1 bin ≡ calc_lowcomp a (value b0) (value b1) bin
low-comp a b0 b1 bin = sym (rw (← value-plus b0 256, value-eqb (b0 + 256) b1, value-ltb b1 b0))

low-comp-high : (a b0 b1 bin : ℕ) → a ≤ 384 → lowcomp_l a b0 b1 bin ≤ 384
low-comp-high a b0 b1 bin h =
    low (ltb bin 20) _ _ (low (eqb (b0 + 256) b1) _ _ (low (ltb bin 7) 384 320 (omega arith) (omega arith)) (low (ltb b1 b0) (a - 64) a (omega arith) h)) (omega arith)
  where
    low : (t : Bool) (x y : ℕ) → x ≤ 384 → y ≤ 384 → cond t x y ≤ 384
    low true x y hx hy = hx
    low false x y hx hy = hy

-- the ranges that keep the leaks above 0
record Ranges (fgain : ℕ) (q : Params) (l : Leaks) : Type 0 where
  pub fgain≤ : fgain ≤ 1344
  pub sgain≤ : q.sgain ≤ 1344
  pub fdecay≤ : q.fdecay ≤ 123
  pub sdecay≤ : q.sdecay ≤ 123
  pub fast≥ : 8192 ≤ l.fast
  pub slow≥ : 8192 ≤ l.slow

module _ (bnd : List ℕ) (p : ℕ → ℤ) (fgain : ℕ) (q : Params) (l : Leaks) (first last : ℕ)
    (reads : (k : ℕ) → k < 50 → value (get_or bnd k 0) ≡ p k)
    (high : (k : ℕ) → k < 50 → 8192 ≤ get_or bnd k 0)
    (ranges : Ranges fgain q l) where
  decay-from : (n b : ℕ) → b + n < 49 → decay_from_l bnd last n b ≡ decay_from p fgain q (value l.fast) (value l.slow) first last n b
  unfolding decay_from_l decay_from
  decay-from zero b h = refl
  decay-from (suc n) b h =
      let r = decay-from n (b + 1) (omega arith) in
      let t : leb (get_or bnd b 0) (get_or bnd (b + 1) 0) ≡ not (lt_z (p (b + 1)) (p b)) =
      rw (← reads b (omega arith), ← reads (b + 1) (omega arith), value-ltb (get_or bnd (b + 1) 0) (get_or bnd b 0))
      (sym (not-ltb (get_or bnd b 0) (get_or bnd (b + 1) 0)))
      in
      ap (cond (lfe_last last b) (b + 1)) (ap₂ (λ t x. cond t (b + 1) x) t r)

  begin-is : begin_l bnd first last ≡ begin p fgain q (value l.fast) (value l.slow) first last
  begin-is = ap (λ x. cond (eqb first 0) x first) (decay-from 5 2 (omega arith))

  fast-high : (n : ℕ) → first + n ≤ 50 → 6848 ≤ fast_l bnd (gains_of fgain q) l first last n
  unfolding fast_l
  fast-high zero h = omega (arith, ranges.fast≥)
  fast-high (suc n) h =
      let r = high (first + n) (omega arith) in
      cond-high (ltb (first + n) (begin_l bnd first last)) _ _ 6848 (omega (arith, ranges.fgain≤)) (omega (arith, ranges.fgain≤))

  slow-high : (n : ℕ) → first + n ≤ 50 → 6848 ≤ slow_l bnd (gains_of fgain q) l first last n
  unfolding slow_l
  slow-high zero h = omega (arith, ranges.slow≥)
  slow-high (suc n) h =
      let r = high (first + n) (omega arith) in
      cond-high (ltb (first + n) (begin_l bnd first last)) _ _ 6848 (omega (arith, ranges.sgain≤)) (omega (arith, ranges.sgain≤))

  value-fast : (n : ℕ) → first + n ≤ 50
      → value (fast_l bnd (gains_of fgain q) l first last n) ≡ fastleak p fgain q (value l.fast) (value l.slow) first last n
  unfolding fast_l fastleak
  value-fast zero h = refl
  value-fast (suc n) h =
      let w = high (first + n) (omega arith) in
      let f = fast-high n (omega arith) in
      let r = value-fast n (omega arith) in
      value-leak (ltb (first + n) (begin_l bnd first last)) (fast_l bnd (gains_of fgain q) l first last n) q.fdecay (get_or bnd (first + n) 0) fgain
      (omega (arith, ranges.fdecay≤)) (omega (arith, ranges.fgain≤))
      ∙ rw (← begin-is, ← r, ← reads (first + n) (omega arith))

  value-slow : (n : ℕ) → first + n ≤ 50
      → value (slow_l bnd (gains_of fgain q) l first last n) ≡ slowleak p fgain q (value l.fast) (value l.slow) first last n
  unfolding slow_l slowleak
  value-slow zero h = refl
  value-slow (suc n) h =
      let w = high (first + n) (omega arith) in
      let f = slow-high n (omega arith) in
      let r = value-slow n (omega arith) in
      value-leak (ltb (first + n) (begin_l bnd first last)) (slow_l bnd (gains_of fgain q) l first last n) q.sdecay (get_or bnd (first + n) 0) q.sgain
      (omega (arith, ranges.sdecay≤)) (omega (arith, ranges.sgain≤))
      ∙ rw (← begin-is, ← r, ← reads (first + n) (omega arith))

  low-high : (n : ℕ) → low_l bnd (gains_of fgain q) l first last n ≤ 384
  unfolding low_l
  low-high zero = omega arith
  low-high (suc n) =
      by (eqb first 0 && ltb (first + n) 22) (lfe_last last (first + n)) _ _ (low-high n)
      (low-comp-high _ (get_or bnd (first + n) 0) (get_or bnd (first + n + 1) 0) (first + n) (low-high n))
    where
      by : (s t : Bool) (x y : ℕ) → x ≤ 384 → y ≤ 384 → cond s (cond t x y) 0 ≤ 384
      by true true x y hx hy = hx
      by true false x y hx hy = hy
      by false t x y hx hy = omega arith

  step-low : (b low : ℕ) → Dec (b < 22)
      → next_low_l bnd first last low b
      ≡ cond (eqb first 0 && ltb b 22) (cond (lfe_last last b) low (calc_lowcomp low (p b) (p (b + 1)) b)) 0
  step-low b low (yes h) =
      rw (← reads b (omega arith), ← reads (b + 1) (omega arith), ← low-comp low (get_or bnd b 0) (get_or bnd (b + 1) 0) b)
  step-low b low (no n) = rw (le-ltb b 22 (let z : 22 ≤ b = omega arith in z)) (by (eqb first 0))
    where
      by : (t : Bool) → cond (t && false) (cond (lfe_last last b) low (lowcomp_l low (get_or bnd b 0) (get_or bnd (b + 1) 0) b)) 0
          ≡ cond (t && false) (cond (lfe_last last b) low (calc_lowcomp low (p b) (p (b + 1)) b)) 0
      by true = refl
      by false = refl

  read_low : (n : ℕ) → low_l bnd (gains_of fgain q) l first last n ≡ lowcomp p fgain q (value l.fast) (value l.slow) first last n
  unfolding low_l lowcomp
  read_low zero = refl
  read_low (suc n) = rw (← read_low n) (step-low (first + n) (low_l bnd (gains_of fgain q) l first last n) (dec_lt (first + n) 22))

  value-excite : (n : ℕ) → first + n < 50
      → value (excite_l bnd (gains_of fgain q) l first last n) ≡ excite p fgain q (value l.fast) (value l.slow) first last n
  unfolding excite_l excite
  value-excite n h =
      let fastₙ = fast_l bnd (gains_of fgain q) l first last (suc n) in
      let lowₙ = low_l bnd (gains_of fgain q) l first last (suc n) in
      let f = fast-high (suc n) (omega arith) in
      let k = low-high (suc n) in
      let m = value-minus fastₙ lowₙ (omega arith) ∙ ap₂ (λ x y. x -ℤ pos y) (value-fast (suc n) (omega arith)) (read_low (suc n)) in
      value-cond (ltb (first + n) (begin_l bnd first last)) _ _
      ∙ ap₂ (cond (ltb (first + n) (begin_l bnd first last))) m
      (value-max (fastₙ - lowₙ) (slow_l bnd (gains_of fgain q) l first last (suc n)) ∙ ap₂ max_z m (value-slow (suc n) (omega arith)))
      ∙ rw begin-is

-- 7.2.2.5
value-mask : (e p : ℕ) (q : Params) (c f b : ℕ) → value (masked_l e p (levels_of q c f) b) ≡ masked (value e) (value p) q b
value-mask e p q c f b =
    value-max (e + (8192 + q.dbknee - p) / 4) (hear_l q.fscod b)
    ∙ ap₂ max_z
    (value-plus e ((8192 + q.dbknee - p) / 4)
    ∙ ap (λ x. value e +ℤ pos (x / 4))
    (sym (ap floored (ap (λ x. x -ℤ value p) (sym (value_pos q.dbknee)) ∙ value-apart (8192 + q.dbknee) p) ∙ floored-sub (8192 + q.dbknee) p)))
    (value_pos (get_or hth (50 * q.fscod + b) 0))

-- 7.2.2.6
module _ (d : Deltas) (b m : ℕ) (high : 8192 ≤ m) where
  delta-high : (i : ℕ) → 8192 ≤ deltaed_l d b m i + 512 * i
  unfolding deltaed_l
  delta-high zero = omega arith
  delta-high (suc i) =
      let r = delta-high i in
      by (covers d i b) (ltb (get_or d.ba i 0) 4) (omega arith) (omega arith) (omega arith)
    where
      by : (s t : Bool)
          → 8192 ≤ deltaed_l d b m i - (4 - get_or d.ba i 0) * 128 + 512 * suc i
          → 8192 ≤ deltaed_l d b m i + (get_or d.ba i 0 - 3) * 128 + 512 * suc i
          → 8192 ≤ deltaed_l d b m i + 512 * suc i
          → 8192 ≤ cond s (cond t (deltaed_l d b m i - (4 - get_or d.ba i 0) * 128) (deltaed_l d b m i + (get_or d.ba i 0 - 3) * 128)) (deltaed_l d b m i) + 512 * suc i
      by true true x y z = x
      by true false x y z = y
      by false t x y z = z

  value-move : (t : Bool) (x y z : ℕ) → y ≤ x → value (cond t (x - y) (x + z)) ≡ value x +ℤ cond t (neg_ℤ (pos y)) (pos z)
  value-move true x y z h = value-minus x y h
  value-move false x y z h = value-plus x z

  value-delta : (i : ℕ) → i ≤ 8 → value (deltaed_l d b m i) ≡ deltaed d b (value m) i
  unfolding deltaed_l deltaed
  value-delta zero h = refl
  value-delta (suc i) h =
      let r = value-delta i (omega arith) in
      let w = delta-high i in
      value-cond (covers d i b) _ _
      ∙ ap (λ x. cond (covers d i b) x (value (deltaed_l d b m i)))
      (value-move (ltb (get_or d.ba i 0) 4) (deltaed_l d b m i) ((4 - get_or d.ba i 0) * 128) ((get_or d.ba i 0 - 3) * 128) (omega arith))
      ∙ rw r

-- 7.2.2.7: the mask less the offset, in steps of 32 above the floor, and the address, on levels
abbrev stepped_l : ℕ → ℕ → ℕ → ℕ
stepped_l mask snr floor = (mask + 960 - snr - floor) / 32 % 256 * 32 + floor

abbrev address_l : ℕ → ℕ → ℕ
address_l psd mask = min ((psd - mask) / 32) 63

value-step : (m snr floor : ℕ) → value (stepped_l m snr floor) ≡ stepped (value m) (sub_ℕ snr 960) (value floor)
value-step m snr floor =
    ap value (let z : stepped_l m snr floor ≡ floor + (m + 960 - snr - floor) / 32 % 256 * 32 = omega arith in z)
    ∙ value-plus floor ((m + 960 - snr - floor) / 32 % 256 * 32)
    ∙ +ℤ_comm (value floor) (pos ((m + 960 - snr - floor) / 32 % 256 * 32))
    ∙ ap (λ x. pos (x / 32 % 256 * 32) +ℤ value floor) (step-reads m snr floor)

read-address : (a m : ℕ) → address_l a m ≡ address (value a) (value m)
read-address a m = ap (λ x. min x 63) (address-reads a m)

-- where a mask stands s steps above a floor, the address of an exponent by steps
by-steps : (e s floor : ℕ) → e ≤ 24 → 6144 ≤ floor → floor ≤ 11264
    → 160 - (s + (160 - (11264 - floor) / 32) + 4 * e) ≡ (psd_l e - (s * 32 + floor)) / 32
by-steps e s floor h lo hi = omega arith

place-address : (e m snr floor : ℕ) → e ≤ 24 → 6144 ≤ floor → floor ≤ 11264
    → min (160 - (place_l m snr floor + 4 * e)) 63 ≡ address_l (psd_l e) (stepped_l m snr floor)
place-address e m snr floor h lo hi =
    let z : m + 960 - snr - floor ≡ m + 960 - (snr + floor) = omega arith in
    rw z (ap (λ x. min x 63) (by-steps e ((m + 960 - (snr + floor)) / 32 % 256) floor h lo hi))

-- an entry of one of the two tables, which lie one after the other
table_at : (kind : Pointers) (t : ℕ) → t < 512
    → get_or (steps baptab 0 512 ++ steps hebaptab 0 512) (base_of kind + t) 0 ≡ get_or (table_of kind) (min (160 - t) 63) 0
table_at Bap t h =
    let n : t < length (steps baptab 0 512) = rw (length-steps baptab 0 512) h in
    ap (λ x. get_or (steps baptab 0 512 ++ steps hebaptab 0 512) x 0) (zero-add t)
    ∙ get_or-append (steps baptab 0 512) (steps hebaptab 0 512) 0 t n
    ∙ steps-at baptab 512 t h
table_at Hebap t h =
    ap (λ n. get_or (steps baptab 0 512 ++ steps hebaptab 0 512) (n + t) 0) (sym (length-steps baptab 0 512))
    ∙ get_or-append-add (steps baptab 0 512) (steps hebaptab 0 512) t 0
    ∙ steps-at hebaptab 512 t h

places-at : (g : Gains) (l : Leaks) (q : Levels) (d : Deltas) (bnd : List ℕ) (first last b : ℕ) → first ≤ b → b < last → b < 50
    → get_or (places_l g l q d bnd first last) b 0 ≡ place_l (mask_l g l q d bnd first last b) q.snr q.floor
unfolding places_l
places-at g l q d bnd first last b lo hi h =
    get_d-tab (λ i. cond (leb first i && ltb i last) (place_l (mask_l g l q d bnd first last i) q.snr q.floor) 0) 50 b h
    ∙ within first last b (place_l (mask_l g l q d bnd first last b) q.snr q.floor) 0 lo hi

-- the whole
module _ (kind : Pointers) (exp : List ℕ) (c : Channel) (q : Params) (l : Option Leak) (d : Deltas)
    (some : c.start < c.end) (ready : Exponents exp c.start c.end) (channel : Channelled c l d) (tuned : Tuned q) where
  bnd-at : (k : ℕ) → k < 50 → get_or (bndpsds_l exp c.start c.end) k 0 ≡ bndpsd_l exp c.start c.end k
  unfolding bndpsds_l
  bnd-at k h = get_d-tab (bndpsd_l exp c.start c.end) 50 k h

  bnd-reads : (k : ℕ) → k < 50 → value (get_or (bndpsds_l exp c.start c.end) k 0) ≡ bndpsd exp c.start c.end k
  bnd-reads k h = ap value (bnd-at k h) ∙ value-band exp c.start c.end ready k (dec_lt _ _)

  bnd-high : (k : ℕ) → k < 50 → 8192 ≤ get_or (bndpsds_l exp c.start c.end) k 0
  bnd-high k h = rw (bnd-at k h) (band-high exp c.start c.end ready k (dec_lt _ _))

  ranges : Ranges c.fgain q (leaks_of l)
  ranges =
      record {
        fgain≤ = omega (arith, channel.fgain);
        sgain≤ = tuned.sgain;
        fdecay≤ = tuned.fdecay;
        sdecay≤ = omega (arith, tuned.sdecay);
        fast≥ = omega arith;
        slow≥ = omega arith;
      }

  mask-reads : (b : ℕ) → band_of c.start ≤ b → b < 50
      → value (stepped_l (mask_l (gains_of c.fgain q) (leaks_of l) (levels_of q c.csnroffst c.fsnroffst) d (bndpsds_l exp c.start c.end) (band_of c.start) (band_of (c.end - 1) + 1) b) (64 * c.csnroffst + 4 * c.fsnroffst) (level_of q.floor))
      ≡ mask kind exp c q l d b
  mask-reads b h k =
      let first = band_of c.start in
      let last = band_of (c.end - 1) + 1 in
      let bnd = bndpsds_l exp c.start c.end in
      let s = levels_of q c.csnroffst c.fsnroffst in
      let e = excite_l bnd (gains_of c.fgain q) (leaks_of l) first last (b - first) in
      let m = masked_l e (get_or bnd b 0) s b in
      let x = value-excite bnd (bndpsd exp c.start c.end) c.fgain q (leaks_of l) first last bnd-reads bnd-high ranges (b - first) (omega arith)
      ∙ ap₂ (λ y z. excite (bndpsd exp c.start c.end) c.fgain q y z first last (b - first)) (value_pos (fast_of l)) (value_pos (slow_of l))
      in
      value-step (deltaed_l d b m d.n) s.snr s.floor
      ∙ ap₂ (stepped (value (deltaed_l d b m d.n))) (sym (offset-is c.csnroffst c.fsnroffst)) (value-level q.floor tuned.least tuned.most)
      ∙ ap (λ y. stepped y (snroffset c.csnroffst c.fsnroffst) q.floor)
      (value-delta d b m (omega arith) d.n channel.segs
      ∙ ap (λ y. deltaed d b y d.n)
      (value-mask e (get_or bnd b 0) q c.csnroffst c.fsnroffst b ∙ ap₂ (λ y z. masked y z q b) x (bnd-reads b k)))

  power_at : (j : ℕ) → c.start ≤ j → j < c.end → get_or (psds_l exp c.start c.end) j 0 ≡ 4 * get_or exp j 0
  unfolding psds_l
  power_at j h k =
      let e = ready.low j h k in
      get_d-tab (λ i. cond (leb c.start i && ltb i c.end) (steps_below (psd_l (get_or exp i 0))) 0) 256 j (omega (arith, channel.within))
      ∙ within c.start c.end j _ 0 h k
      ∙ (let z : steps_below (psd_l (get_or exp j 0)) ≡ 4 * get_or exp j 0 = omega arith in z)

  pointer-reads : (j : ℕ) → c.start ≤ j → j < c.end
      → pointer_l (steps baptab 0 512 ++ steps hebaptab 0 512) (base_of kind) (range_l exp c.start c.end).powers (places_of exp c.start c.end (gains_of c.fgain q) (leaks_of l) (levels_of q c.csnroffst c.fsnroffst) d) j
      ≡ pointer kind exp c q l d j
  unfolding places_of
  pointer-reads j h k =
      let first = band_of c.start in
      let last = band_of (c.end - 1) + 1 in
      let bnd = bndpsds_l exp c.start c.end in
      let s = levels_of q c.csnroffst c.fsnroffst in
      let w : j < 253 = omega (arith, channel.within) in
      let b = own-band j w in
      let lo = bands-rise c.start j first (band_of j) h (own-band c.start (omega arith)) b in
      let hi = bands-rise j (c.end - 1) (band_of j) (band_of (c.end - 1)) (omega arith) b (own-band (c.end - 1) (omega (arith, channel.within))) in
      let m = mask_l (gains_of c.fgain q) (leaks_of l) s d bnd first last (band_of j) in
      let at = places-at (gains_of c.fgain q) (leaks_of l) s d bnd first last (band_of j) lo (omega arith) b.is in
      let e = ready.low j h k in
      let f = level-is q.floor tuned.least tuned.most in
      ap₂ (λ p x. get_or (steps baptab 0 512 ++ steps hebaptab 0 512) (base_of kind + p + x) 0) at (power_at j h k)
      ∙ ap (λ t. get_or (steps baptab 0 512 ++ steps hebaptab 0 512) t 0) (add_assoc (base_of kind) (place_l m s.snr s.floor) (4 * get_or exp j 0))
      ∙ table_at kind (place_l m s.snr s.floor + 4 * get_or exp j 0) (omega arith)
      ∙ ap (λ x. get_or (table_of kind) x 0)
      (place-address (get_or exp j 0) m s.snr s.floor e f.1 f.2
      ∙ read-address (psd_l (get_or exp j 0)) (stepped_l m s.snr s.floor)
      ∙ ap₂ address (value-psd (get_or exp j 0) e) (mask-reads (band_of j) lo b.is))

  pub levels-are : allocation_l (steps baptab 0 512 ++ steps hebaptab 0 512) (base_of kind) exp c.start c.end (gains_of c.fgain q) (leaks_of l) (levels_of q c.csnroffst c.fsnroffst) d
      ≡ allocation kind exp c q l d
  unfolding allocation_l allocation
  levels-are = tab-same _ _ 256 (λ j h. ranged c.start c.end j _ _ 0 (λ a b. pointer-reads j a b))
