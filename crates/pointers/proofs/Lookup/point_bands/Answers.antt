use mathlib.Core.Path.{◌≡◌, ap}
use native.Mathlib.Omega.{arith}
use lib.ListN.{get_or}
use native.Mathlib.Decide.{dec_lt}
use Prim.Native.Nat.{ℕ, ◌<◌, ◌≤◌, ◌+◌, ◌-◌}
use Rattle.tables.specs.Bands.{BinBand, band_of, end_of}
use Rattle.tables.proofs.Bins.{own-band, next-band, same-band, apart-bands, bands-rise}
use Rattle.alloc.specs.Levels.{point_l, pointer_l}
use Rattle.pointers.proofs.Pointing.{pointed-none, pointed-join, pointed-most}
use Rattle.pointers.proofs.Lookup.point_bands.Goals as goal

-- past the last band there is no bin
at-end : (start j end last k : ℕ) → end ≤ 253 → start ≤ j → j ≤ end → (start < end → last ≡ band_of (end - 1) + 1) → last ≤ k → (j < end → BinBand j k)
    → j ≡ end
at-end start j end last k most from to is past band = by (dec_lt j end)
  where
    by : Dec (j < end) → j ≡ end
    by (yes h) =
        let r = bands-rise j (end - 1) k (band_of (end - 1)) (omega arith) (band h) (own-band (end - 1) (omega arith)) in
        absurd (omega (arith, is (omega arith)))
    by (no n) = omega arith

-- where there is a band there is a bin
some-bin : (start end first last : ℕ) → (end ≤ start → last ≤ first) → first < last → start < end
some-bin start end first last none h = by (dec_lt start end)
  where
    by : Dec (start < end) → start < end
    by (yes s) = s
    by (no n) = absurd (omega (arith, none (omega arith)))

pub loop-k-init : goal.loop-k-init
loop-k-init c =
    let p = c.requires in
    record {
      from = omega arith;
      to = p.within.0;
      band = λ h. rw (p.some h).0 (own-band c.args.start (omega (arith, p.within.1)));
      more = some-bin _ _ _ _ p.none;
      pointed = pointed-none _ _ c.args.start c.args.out.now;
    }

pub overflow_add-sum : goal.overflow_add-sum
overflow_add-sum c =
    let s = c.args.self.now.tables.now.share_most in
    let i = c.loop-k.invariant in
    let h = i.more c.loop-k-test.true in
    let b = i.band h in
    let one = pointed-most _ _ 281474976710656 c.args.start c.loop-k.j _ _ _ s i.pointed in
    let two = pointed-most _ _ 281474976710656 c.loop-k.j c.min-hi.result _ _ _ s c.point-sum.ensures in
    record { fits = omega (arith, b.to, c.min-hi.ensures, c.end_of.ensures, c.requires.within.1) }

pub loop-k-preserved : goal.loop-k-preserved
loop-k-preserved c =
    let a = c.args in
    let v = a.self.now in
    let k = c.loop-k.k in
    let i = c.loop-k.invariant in
    let h : c.loop-k.j < a.end = i.more c.loop-k-test.true in
    let b = i.band h in
    let most = c.requires.within.1 in
    let hi = c.min-hi.ensures in
    let e = c.end_of.ensures in
    let last = (c.requires.some (omega (arith, i.from))).1 in
    let past = own-band (a.end - 1) (omega arith) in
    record {
      from = omega (arith, b.to, hi, e, i.from);
      to = omega (arith, hi);
      band = λ h. let z : c.min-hi.result ≡ end_of k = omega (arith, hi, e) in rw z (next-band k b.is (omega (arith, most)));
      more = λ h. omega (arith, apart-bands k _ (omega (arith, last)) past.is, past.from, hi, e);
      pointed =
          pointed-join _ (pointer_l v.tables.now.points.now v.base v.powers.now v.places.now) _ a.start c.loop-k.j c.min-hi.result _ _ _ _ _
          i.from (omega (arith, b.to, hi, e)) i.pointed c.point-sum.ensures
          (λ x y z. ap (λ n. point_l v.tables.now.points.now v.powers.now (v.base + get_or v.places.now n 0) x)
          (same-band x k (omega (arith, hi, e, most)) b.is (omega (arith, b.from)) (omega (arith, hi, e))));
    }

pub returns : goal.returns
returns c =
    let a = c.args in
    let i = c.loop-k.invariant in
    let e = at-end a.start c.loop-k.j a.end a.last c.loop-k.k c.requires.within.1 i.from i.to (λ h. (c.requires.some h).1) c.loop-k-test.false i.band in
    rw e at i.pointed
