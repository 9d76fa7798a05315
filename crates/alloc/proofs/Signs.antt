-- Whole numbers as differences of natural ones, and what the operations on levels are on the numbers they stand for.
-- Assumes nothing.
use mathlib.Core.Path.{◌≡◌, refl, ap, ◌∙◌, sym}
use mathlib.Core.Bool.{Bool, true, false, not, ◌&&◌, cond}
use Prim.Native.Nat.{ℕ, zero, suc, ◌+◌, ◌-◌, ◌*◌, ◌/◌, ◌<◌, ◌≤◌, max}
use native.Mathlib.Decide.{dec_lt}
use native.Mathlib.Nat.{zero-add, mul-add}
use native.Mathlib.Omega.{arith}
use lib.Dec.{ltb, leb, eqb, leb→le}
use lib.IntN.{ℤ, pos, negsuc, sub_ℕ, neg_ℤ, nat_abs, ◌+ℤ◌, ◌-ℤ◌, ◌*ℤ◌}
use lib.Signed.{lt_z, ◌≤ℤ◌}
use Rattle.alloc.specs.Allocation.{max_z, eq_z, floored, snroffset}
use Rattle.alloc.specs.Levels.{value, level_of, apart}
use borrow.Author.Tests.{lt-ltb, le-ltb, le-leb, lt-leb, eq-eqb, ne_eqb}

-- a - b is below 0, or not
pub less : (a b : ℕ) → a < b → sub_ℕ a b ≡ negsuc (b - suc a)
less a b h = simp (lt-ltb a b h)

pub more : (a b : ℕ) → b ≤ a → sub_ℕ a b ≡ pos (a - b)
more a b h = simp (le-ltb a b h)

-- a - b is c - d where a + d is c + b
pub same : (a b c d : ℕ) → a + d ≡ c + b → sub_ℕ a b ≡ sub_ℕ c d
same a b c d e = by (dec_lt a b)
  where
    by : Dec (a < b) → sub_ℕ a b ≡ sub_ℕ c d
    by (yes h) = less a b h ∙ ap negsuc (let q : b - suc a ≡ d - suc c = omega arith in q) ∙ sym (less c d (omega arith))
    by (no n) = more a b (omega arith) ∙ ap pos (let q : a - b ≡ c - d = omega arith in q) ∙ sym (more c d (omega arith))

-- (a - b) + (c - d) is (a + c) - (b + d)
pub plus : (a b c d : ℕ) → sub_ℕ a b +ℤ sub_ℕ c d ≡ sub_ℕ (a + c) (b + d)
plus a b c d = by (dec_lt a b) (dec_lt c d)
  where
    by : Dec (a < b) → Dec (c < d) → sub_ℕ a b +ℤ sub_ℕ c d ≡ sub_ℕ (a + c) (b + d)
    by (yes h) (yes k) = rw (less a b h, less c d k) (ap negsuc (let q : suc (b - suc a + (d - suc c)) ≡ b + d - suc (a + c) = omega arith in q) ∙ sym (less (a + c) (b + d) (omega arith)))
    by (yes h) (no k) = rw (less a b h, more c d (let z : d ≤ c = omega arith in z)) (same (c - d) (suc (b - suc a)) (a + c) (b + d) (omega arith))
    by (no h) (yes k) = rw (more a b (let z : b ≤ a = omega arith in z), less c d k) (same (a - b) (suc (d - suc c)) (a + c) (b + d) (omega arith))
    by (no h) (no k) = rw (more a b (let z : b ≤ a = omega arith in z), more c d (let z : d ≤ c = omega arith in z)) (ap pos (let q : a - b + (c - d) ≡ a + c - (b + d) = omega arith in q) ∙ sym (more (a + c) (b + d) (omega arith)))

neg-pos : (d : ℕ) → neg_ℤ (pos d) ≡ sub_ℕ 0 d
neg-pos zero = refl
neg-pos (suc d) = sym (less 0 (suc d) (omega arith) ∙ ap negsuc (let q : suc d - 1 ≡ d = omega arith in q))

-- fastleak - fdecay, bndpsd - fgain, fastleak - lowcomp: a level less a difference
pub value-minus : (n d : ℕ) → d ≤ n → value (n - d) ≡ value n -ℤ pos d
value-minus n d h = rw (neg-pos d, plus n 8192 0 d) (same (n - d) 8192 (n + 0) (8192 + d) (omega arith))

-- excite + (dbknee - bndpsd) / 4: a level plus a difference
pub value-plus : (n d : ℕ) → value (n + d) ≡ value n +ℤ pos d
value-plus n d = sym (ap (λ x. value n +ℤ x) (sym (more d 0 (omega arith) ∙ ap pos (let q : d - 0 ≡ d = omega arith in q))) ∙ plus n 8192 d 0 ∙ same (n + d) (8192 + 0) (n + d) 8192 (omega arith))

pub neg-sub : (a b : ℕ) → neg_ℤ (sub_ℕ a b) ≡ sub_ℕ b a
neg-sub a b = by (dec_lt a b)
  where
    by : Dec (a < b) → neg_ℤ (sub_ℕ a b) ≡ sub_ℕ b a
    by (yes h) = rw (less a b h) (ap pos (let q : suc (b - suc a) ≡ b - a = omega arith in q) ∙ sym (more b a (omega arith)))
    by (no n) = rw (more a b (let z : b ≤ a = omega arith in z)) (neg-pos (a - b) ∙ same 0 (a - b) b a (omega arith))

-- dbknee - bndpsd, psd - mask: the difference of two levels
pub value-apart : (a b : ℕ) → value a -ℤ value b ≡ sub_ℕ a b
value-apart a b = rw (neg-sub b 8192) (plus a 8192 8192 b ∙ same (a + 8192) (8192 + b) a b (omega arith))

-- the order of two levels is the order of their numbers
pub value-less : (a b : ℕ) → a < b → lt_z (value a) (value b) ≡ true
value-less a b h = by (dec_lt a 8192) (dec_lt b 8192)
  where
    by : Dec (a < 8192) → Dec (b < 8192) → lt_z (value a) (value b) ≡ true
    by (yes p) (yes q) = rw (less a 8192 p, less b 8192 q) (lt-ltb (8192 - suc b) (8192 - suc a) (omega arith))
    by (yes p) (no q) = rw (less a 8192 p, more b 8192 (let z : 8192 ≤ b = omega arith in z))
    by (no p) (yes q) = absurd (omega arith)
    by (no p) (no q) = rw (more a 8192 (let z : 8192 ≤ a = omega arith in z), more b 8192 (let z : 8192 ≤ b = omega arith in z)) (lt-ltb (a - 8192) (b - 8192) (omega arith))

pub value-not-less : (a b : ℕ) → b ≤ a → lt_z (value a) (value b) ≡ false
value-not-less a b h = by (dec_lt a 8192) (dec_lt b 8192)
  where
    by : Dec (a < 8192) → Dec (b < 8192) → lt_z (value a) (value b) ≡ false
    by (yes p) (yes q) = rw (less a 8192 p, less b 8192 q) (le-ltb (8192 - suc b) (8192 - suc a) (omega arith))
    by (yes p) (no q) = absurd (omega arith)
    by (no p) (yes q) = rw (more a 8192 (let z : 8192 ≤ a = omega arith in z), less b 8192 q)
    by (no p) (no q) = rw (more a 8192 (let z : 8192 ≤ a = omega arith in z), more b 8192 (let z : 8192 ≤ b = omega arith in z)) (le-ltb (a - 8192) (b - 8192) (omega arith))

pub value-max : (a b : ℕ) → value (max a b) ≡ max_z (value a) (value b)
value-max a b = by (dec_lt a b)
  where
    by : Dec (a < b) → value (max a b) ≡ max_z (value a) (value b)
    by (yes h) = rw (value-less a b h) (ap value (let q : max a b ≡ b = omega arith in q))
    by (no n) = rw (value-not-less a b (let z : b ≤ a = omega arith in z)) (ap value (let q : max a b ≡ a = omega arith in q))

-- fastleak = max(fastleak - fdecay, bndpsd - fgain), as the text has it
pub leak-reads : (leak decay p gain : ℕ) → decay ≤ leak → gain ≤ p
    → value (max (leak - decay) (p - gain)) ≡ max_z (value leak -ℤ pos decay) (value p -ℤ pos gain)
leak-reads leak decay p gain h k = value-max (leak - decay) (p - gain) ∙ rw (value-minus leak decay h, value-minus p gain k)

pub floored-sub : (a b : ℕ) → floored (sub_ℕ a b) ≡ a - b
floored-sub a b = by (dec_lt a b)
  where
    by : Dec (a < b) → floored (sub_ℕ a b) ≡ a - b
    by (yes h) = rw (less a b h) (let q : 0 ≡ a - b = omega arith in q)
    by (no n) = rw (more a b (let z : b ≤ a = omega arith in z))

-- mask - snroffset - floor, not below 0; snroffset is snr - 960
pub step-reads : (mask snr floor : ℕ) → mask + 960 - snr - floor ≡ floored (value mask -ℤ sub_ℕ snr 960 -ℤ value floor)
step-reads mask snr floor =
    sym
    (ap floored
    (ap (λ x. value mask +ℤ x -ℤ value floor) (neg-sub snr 960)
    ∙ ap (λ x. x -ℤ value floor) (plus mask 8192 960 snr)
    ∙ ap (λ x. sub_ℕ (mask + 960) (8192 + snr) +ℤ x) (neg-sub floor 8192)
    ∙ plus (mask + 960) (8192 + snr) 8192 floor
    ∙ same (mask + 960 + 8192) (8192 + snr + floor) (mask + 960) (snr + floor) (omega arith))
    ∙ floored-sub (mask + 960) (snr + floor)
    ∙ (let q : mask + 960 - (snr + floor) ≡ mask + 960 - snr - floor = omega arith in q))

-- (psd - mask) >> 5, not below 0
pub address-reads : (psd mask : ℕ) → (psd - mask) / 32 ≡ floored (value psd -ℤ value mask) / 32
address-reads psd mask = ap (λ x. x / 32) (sym (ap floored (value-apart psd mask) ∙ floored-sub psd mask))

pub value-ltb : (a b : ℕ) → lt_z (value a) (value b) ≡ ltb a b
value-ltb a b = by (dec_lt a b)
  where
    by : Dec (a < b) → lt_z (value a) (value b) ≡ ltb a b
    by (yes h) = value-less a b h ∙ sym (lt-ltb a b h)
    by (no n) = let z : b ≤ a = omega arith in value-not-less a b z ∙ sym (le-ltb a b z)

pub not-ltb : (a b : ℕ) → not (ltb b a) ≡ leb a b
not-ltb a b = by (dec_lt b a)
  where
    by : Dec (b < a) → not (ltb b a) ≡ leb a b
    by (yes h) = rw (lt-ltb b a h, lt-leb a b h)
    by (no n) = let z : a ≤ b = omega arith in rw (le-ltb b a z, le-leb a b z)

pub value-eqb : (a b : ℕ) → eq_z (value a) (value b) ≡ eqb a b
value-eqb a b = rw (value-ltb a b, value-ltb b a) (by (dec_lt a b) (dec_lt b a))
  where
    by : Dec (a < b) → Dec (b < a) → not (ltb a b) && not (ltb b a) ≡ eqb a b
    by (yes h) d = rw (lt-ltb a b h, ne_eqb a b (let z : a ≡ b → ⊥ = omega arith in z))
    by (no n) (yes h) = rw (le-ltb a b (let z : b ≤ a = omega arith in z), lt-ltb b a h, ne_eqb a b (let z : a ≡ b → ⊥ = omega arith in z))
    by (no n) (no m) = rw (le-ltb a b (let z : b ≤ a = omega arith in z), le-ltb b a (let z : a ≤ b = omega arith in z), eq-eqb a b (let z : a ≡ b = omega arith in z))

pub value-cond : (t : Bool) (a b : ℕ) → value (cond t a b) ≡ cond t (value a) (value b)
value-cond true a b = refl
value-cond false a b = refl

-- |a - b|
pub abs-sub : (a b : ℕ) → nat_abs (sub_ℕ a b) ≡ apart a b
abs-sub a b = by (dec_lt a b)
  where
    by : Dec (a < b) → nat_abs (sub_ℕ a b) ≡ apart a b
    by (yes h) = rw (less a b h) (let z : suc (b - suc a) ≡ a - b + (b - a) = omega arith in z)
    by (no n) = rw (more a b (let z : b ≤ a = omega arith in z)) (let z : a - b ≡ a - b + (b - a) = omega arith in z)

-- the level of a natural number
pub value_pos : (n : ℕ) → value (8192 + n) ≡ pos n
value_pos n = value-plus 8192 n ∙ ap pos (zero-add n)

-- the level of a floor
pub level-is : (z : ℤ) → negsuc 2047 ≤ℤ z → z ≤ℤ pos 752 → (z +ℤ pos 8192 ≡ pos (level_of z)) × (6144 ≤ level_of z) × (level_of z ≤ 11264)
level-is (pos n) lo hi = let h = leb→le n 752 hi.le in (refl, omega arith, omega arith)
level-is (negsuc n) lo hi =
    let h = leb→le n 2047 lo.le in
    let e = more 8192 (suc n) (omega arith) in
    (e ∙ ap pos (sym (ap floored e)), rw e (omega arith), rw e (omega arith))

pub value-level : (z : ℤ) → negsuc 2047 ≤ℤ z → z ≤ℤ pos 752 → value (level_of z) ≡ z
value-level (pos n) lo hi = more (n + 8192) 8192 (omega arith) ∙ ap pos (let q : n + 8192 - 8192 ≡ n = omega arith in q)
value-level (negsuc n) lo hi =
    let h = leb→le n 2047 lo.le in
    rw (more 8192 (suc n) (let q : suc n ≤ 8192 = omega arith in q))
    (less (8192 - suc n) 8192 (omega arith) ∙ ap negsuc (let q : 8192 - suc (8192 - suc n) ≡ n = omega arith in q))

-- a multiple of a difference
times : (k a b : ℕ) → pos k *ℤ sub_ℕ a b ≡ sub_ℕ (k * a) (k * b)
times k a b = by (dec_lt a b)
  where
    by : Dec (a < b) → pos k *ℤ sub_ℕ a b ≡ sub_ℕ (k * a) (k * b)
    by (yes h) =
        let e : k * b ≡ k * a + k * suc (b - suc a) = ap (λ x. k * x) (let q : b ≡ a + suc (b - suc a) = omega arith in q) ∙ mul-add k a (suc (b - suc a)) in
        rw (less a b h) (neg-pos (k * suc (b - suc a)) ∙ same 0 (k * suc (b - suc a)) (k * a) (k * b) (omega arith))
    by (no n) =
        let e : k * a ≡ k * b + k * (a - b) = ap (λ x. k * x) (let q : a ≡ b + (a - b) = omega arith in q) ∙ mul-add k b (a - b) in
        rw (more a b (let z : b ≤ a = omega arith in z))
        (sym (more (k * a) (k * b) (omega arith) ∙ ap pos (let q : k * a - k * b ≡ k * (a - b) = omega arith in q)))

pos-sub : (n : ℕ) → pos n ≡ sub_ℕ n 0
pos-sub n = sym (more n 0 (omega arith) ∙ ap pos (let q : n - 0 ≡ n = omega arith in q))

-- the offset is 960 below what the code holds
pub offset-is : (c f : ℕ) → snroffset c f ≡ sub_ℕ (64 * c + 4 * f) 960
unfolding snroffset
offset-is c f =
    ap (λ x. pos 4 *ℤ (pos 16 *ℤ x +ℤ pos f)) (ap (λ x. x -ℤ pos 15) (pos-sub c) ∙ plus c 0 0 15)
    ∙ ap (λ x. pos 4 *ℤ (x +ℤ pos f)) (times 16 (c + 0) (0 + 15))
    ∙ ap (λ x. pos 4 *ℤ x) (ap (λ x. sub_ℕ (16 * (c + 0)) (16 * (0 + 15)) +ℤ x) (pos-sub f) ∙ plus (16 * (c + 0)) (16 * (0 + 15)) f 0)
    ∙ times 4 (16 * (c + 0) + f) (16 * (0 + 15) + 0)
    ∙ same (4 * (16 * (c + 0) + f)) (4 * (16 * (0 + 15) + 0)) (64 * c + 4 * f) 960 (omega arith)
