-- Laws of the sum over records, and of the comparison.
use Rattle.std.proofs.Common.{◌≡◌, ℕ, suc, ◌+◌, ◌*◌, ◌<◌, ◌≤◌, min, Bool, true, false, ◌&&◌, eqb, List, get_or, ℤ, pos, negsuc, nat_abs, sym, refl, ap, ◌∙◌, ap₂, true≢false, arith, to_z-of_z, w8, w16, Fits, SFits, to_z, of_z}
use lib.Signed.{lt_z, mag, nat_abs-le}
use mir.Facts.{Fits-below}
use Rattle.print.proofs.Signs.{not-below}
use Rattle.reading.specs.Room.{Room}
use Rattle.answer.specs.declared.Frame.{Frame}
use Rattle.answer.specs.declared.Verdict.{Verdict}
use Rattle.replay.specs.Sums.{raised_of, added_of, sum_of}
use Rattle.replay.specs.Cases.{kept_of, agrees_of, ends_of}
use Rattle.replay.specs.declared.sums.Sum.{Sum}

pub below : (z : ℤ) → lt_z z (pos 0) ≡ true → 0 ≡ raised_of z
below (pos n) e = not-below n e
below (negsuc n) e = refl

pub above : (z : ℤ) → lt_z z (pos 0) ≡ false → nat_abs z + 1 ≡ raised_of z
above (pos n) e = refl
above (negsuc n) e = absurd (true≢false e)

pub fits_more : {z : ℤ} → SFits w16 z → Fits w16 (nat_abs z + 1)
fits_more {z} s = let h : nat_abs z ≤ 32768 = nat_abs-le z s.sfits in Fits-below {w = w16} {n = 32769} tt (omega (arith, h))

-- one more record
pub next : (m : Room) (i : ℕ) {s t : Sum} → s ≡ sum_of m i → mag (get_or m.blocks i (pos 0)) < 128 → mag (get_or m.indexes i (pos 0)) < 32768 → t ≡ added_of s (get_or m.names i 0) (to_z w8 (of_z w8 (get_or m.blocks i (pos 0)))) (to_z w16 (of_z w16 (get_or m.indexes i (pos 0)))) (get_or m.firsts i 0) (get_or m.widths i 0) (get_or m.values i 0) → t ≡ sum_of m (i + 1)
unfolding sum_of
next m i {s} {t} e f g h =
    let z : i + 1 ≡ suc i = omega arith in
    rw (to_z-of_z {w = w8} {z = get_or m.blocks i (pos 0)} (record { sfits = f })) at (rw (to_z-of_z {w = w16} {z = get_or m.indexes i (pos 0)} (record { sfits = g })) at h) ∙ ap (λ x. added_of x (get_or m.names i 0) (get_or m.blocks i (pos 0)) (get_or m.indexes i (pos 0)) (get_or m.firsts i 0) (get_or m.widths i 0) (get_or m.values i 0)) e ∙ ap (λ k. sum_of m k) (sym z)

-- one more number
pub more : (ours theirs : List ℕ) (k : ℕ) {a h b : Bool} → a ≡ agrees_of ours theirs k → h ≡ eqb (get_or ours k 0) (256 * get_or theirs (2 * k + 1) 0 + get_or theirs (2 * k + 2) 0) → b ≡ (a && h) → b ≡ agrees_of ours theirs (k + 1)
unfolding agrees_of
more ours theirs k e f g = let z : k + 1 ≡ suc k = omega arith in g ∙ ap₂ ◌&&◌ e f ∙ ap (λ n. agrees_of ours theirs n) (sym z)

-- three tests, one after the other: all hold as far as the last; the second fails; the first fails
pub third : {a b c : Bool} → a ≡ true → b ≡ true → c ≡ (a && (b && c))
third e f = rw (e, f) refl

pub not_second : {a b v : Bool} (c : Bool) → v ≡ false → a ≡ true → b ≡ false → v ≡ (a && (b && c))
not_second c g e f = rw (g, e, f) refl

pub not_first : {a v : Bool} (c : Bool) → v ≡ false → a ≡ false → v ≡ (a && c)
not_first c g e = rw (g, e) refl

-- the end of a case, by its parts
pub ends-are : (v : Verdict) (f : Frame) (m : Room) (theirs : List ℕ) {n l : ℕ} {k s : Sum} {e : Bool} → e ≡ ends_of n k theirs → n ≡ min f.fields 65535 → k ≡ kept_of v s → s ≡ sum_of m l
    → l ≡ min f.fields 2048 → e ≡ ends_of (min f.fields 65535) (kept_of v (sum_of m (min f.fields 2048))) theirs
ends-are v f m theirs a b c d e = rw a (rw b (rw c (rw d (rw e refl))))
