use mathlib.Core.Path.{◌≡◌, refl, ◌∙◌, sym}
use native.Mathlib.Decide.{dec_lt}
use native.Mathlib.Omega.{arith}
use Prim.Native.Nat.{ℕ, ◌-◌, ◌<◌, ◌≤◌, max, min}
use Rattle.tables.specs.Bands.{band_of}
use Rattle.tables.proofs.Bins.{own-band, bands-rise, single-band}
use Rattle.pointers.proofs.Pointing.{pointed-join, pointed-most}
use Rattle.pointers.proofs.Lookup.point_all.Goals as goal

-- the band of the first bin that is not below 28, of the bins start .. end - 1
band-past : (start end : ℕ) → end ≤ 253 → max start (min end 28) < end → max (band_of start) (min end 28) ≡ band_of (max start (min end 28))
band-past start end most h = by (dec_lt start 28)
  where
    by : Dec (start < 28) → max (band_of start) (min end 28) ≡ band_of (max start (min end 28))
    by (yes b) =
        let e : max start (min end 28) ≡ 28 = omega arith in
        let s = single-band start (omega arith) in
        rw e (let z : max (band_of start) (min end 28) ≡ 28 = omega arith in z ∙ sym (single-band 28 (omega arith)))
    by (no b) =
        let e : max start (min end 28) ≡ start = omega arith in
        let s = single-band 28 (omega arith) in
        let r = bands-rise 28 start (band_of 28) (band_of start) (omega arith) (own-band 28 (omega arith)) (own-band start (omega arith)) in
        rw e (let z : max (band_of start) (min end 28) ≡ band_of start = omega arith in z)

pub point_bands-high-requires-clause-some : goal.point_bands-high-requires-clause-some
point_bands-high-requires-clause-some c h =
    let a = c.args in
    let s = c.min-single.ensures in
    let m = c.max-mid.ensures in
    (rw (c.max.ensures, m, s, c.requires.bands.0) (band-past a.start a.end c.requires.within.1 (rw (m, s) at h)), c.requires.bands.1)

pub point_bands-high-requires-clause-none : goal.point_bands-high-requires-clause-none
point_bands-high-requires-clause-none c h =
    let e = c.args.end in
    let s = c.min-single.ensures in
    let m = c.max-mid.ensures in
    omega (arith, single-band (e - 1) (omega (arith, c.requires.within.0)), c.requires.within.0, c.requires.bands.1, c.max.ensures)

pub overflow_add-result : goal.overflow_add-result
overflow_add-result c =
    let a = c.args in
    let s = a.self.now.tables.now.share_most in
    let one = pointed-most _ _ 281474976710656 a.start c.max-mid.result _ _ _ s c.point_singles-low.ensures in
    let two = pointed-most _ _ 281474976710656 c.max-mid.result a.end _ _ _ s c.point_bands-high.ensures in
    record { fits = omega (arith, c.max-mid.ensures, c.min-single.ensures, c.requires.within.0, c.requires.within.1) }

pub returns : goal.returns
returns c =
    pointed-join _ _ _ c.args.start c.max-mid.result c.args.end _ _ _ _ _
    (omega (arith, c.max-mid.ensures)) (omega (arith, c.max-mid.ensures, c.min-single.ensures, c.requires.within.0)) c.point_singles-low.ensures c.point_bands-high.ensures (λ k x y. refl)
