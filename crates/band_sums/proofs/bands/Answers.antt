use mathlib.Core.Path.{◌≡◌, ap, ◌∙◌}
use native.Mathlib.Omega.{arith}
use Prim.Native.Nat.{◌<◌, ◌+◌, ◌-◌}
use lib.ListN.{set}
use Rattle.tables.specs.Bands.{band_of}
use Rattle.tables.proofs.Bins.{own-band}
use Rattle.band_sums.proofs.Sums.{band-high, band-opens, sums_none, sums-more, powers-none, powers-more, next-bin, opened-sum, opened-sums, same_bin, added-sum, added-sums}
use Rattle.band_sums.proofs.bands.Goals as goal
use Rattle.band_sums.proofs.bands.Goals.{then-j-to, else-j-to}

pub end_of-to-requires : goal.end_of-to-requires
end_of-to-requires c =
    (c.requires.latab_value.1, omega (arith, c.requires.first_band, (own-band c.args.bins.now.start (omega (arith, c.args.bins.now.some, c.args.bins.now.within))).is))

pub loop-j-init : goal.loop-j-init
loop-j-init c =
    let v = c.args.bins.now in
    let p = c.requires in
    let z : v.start + 1 - 1 ≡ v.start = omega arith in
    let b = own-band v.start (omega (arith, v.some, v.within)) in
    let f = p.first_band in
    let s = c.power-s.ensures ∙ band-opens v.exps.now v.start v.start _ b (omega (arith, b.from)) in
    record {
      band = rw (z, f) b;
      ends = c.end_of-to.ensures;
      sum = rw f s;
      powers = ap (λ l. set l v.start c.below.result) (p.latab_value.2 ∙ powers-none v.exps.now v.start)
          ∙ powers-more v.exps.now v.start v.start c.below.result (omega arith) (omega (arith, v.some, v.within)) c.below.ensures;
      sums = rw f (ap (λ l. set l (band_of v.start) c.power-s.result) (p.latab_value.3 ∙ sums_none v.exps.now v.start)
          ∙ sums-more v.exps.now v.start v.start _ c.power-s.result b s);
    }

pub end_of-to-requires-then-j-to : goal.end_of-to-requires-then-j-to
end_of-to-requires-then-j-to c =
    let i = c.loop-j.invariant in
    (c.requires.latab_value.1, (next-bin c.args.bins.now.exps.now c.args.bins.now.start c.loop-j.j c.loop-j.k c.loop-j.to c.loop-j.s c.loop-j.bnd (omega arith) (omega (arith, c.args.bins.now.within)) i.band i.ends i.sum i.sums (omega (arith, c.if-j-to.true))).is)

pub logadd-s-requires : goal.logadd-s-requires
logadd-s-requires c =
    let i = c.loop-j.invariant in
    (c.requires.latab_value.0, omega (arith, i.sum, band-high c.args.bins.now.exps.now c.args.bins.now.start c.loop-j.j c.loop-j.k (omega (arith, c.args.bins.now.within))), omega (arith, c.power-p.ensures))

pub loop-j-preserved : goal.loop-j-preserved
loop-j-preserved c =
    let v = c.args.bins.now in
    let i = c.loop-j.invariant in
    let j = c.loop-j.j in
    let up : v.start < j = omega arith in
    let low : j < 253 = omega (arith, c.args.bins.now.within) in
    let z : j + 1 - 1 ≡ j = omega arith in
    let powers =
    ap (λ l. set l j c.below-in-loop-j.result) i.powers
    ∙ powers-more v.exps.now v.start j c.below-in-loop-j.result (omega arith) (omega arith) c.below-in-loop-j.ensures in
    let p = c.power-p.ensures in
    elim c.if-j-to.branch [
      | then-j-to w ↦
          let b = next-bin v.exps.now v.start j c.loop-j.k c.loop-j.to c.loop-j.s c.loop-j.bnd up low i.band i.ends i.sum i.sums (omega (arith, w.if-j-to.true)) in
          let s = opened-sum v.exps.now v.start j c.loop-j.k c.loop-j.to c.loop-j.s c.loop-j.bnd up low i.band i.ends i.sum i.sums (omega (arith, w.if-j-to.true)) in
          let l = opened-sums v.exps.now v.start j c.loop-j.k c.loop-j.to c.loop-j.s c.loop-j.bnd up low i.band i.ends i.sum i.sums (omega (arith, w.if-j-to.true)) in
          record { band = rw (z, w.k-is) b; ends = rw (w.to-is, w.k-is) w.end_of-to-then-j-to.ensures; sum = rw (w.s-is, w.k-is, p) s; powers = powers; sums = rw (w.bnd-is, w.s-is, w.k-is, p) l }
      | else-j-to w ↦
          let inside : j ≡ c.loop-j.to → ⊥ = omega (arith, w.if-j-to.false) in
          let b = same_bin v.exps.now v.start j c.loop-j.k c.loop-j.to c.loop-j.s c.loop-j.bnd up low i.band i.ends i.sum i.sums inside in
          let s = added-sum v.exps.now v.start j c.loop-j.k c.loop-j.to c.loop-j.s c.loop-j.bnd up low i.band i.ends i.sum i.sums inside in
          let l = added-sums v.exps.now v.start j c.loop-j.k c.loop-j.to c.loop-j.s c.loop-j.bnd up low i.band i.ends i.sum i.sums inside in
          record { band = rw (z, w.k-is) b; ends = rw (w.to-is, w.k-is) i.ends; sum = rw (w.s-is, w.k-is, w.logadd-s.ensures.sum, p) s; powers = powers; sums = rw (w.bnd-is, w.s-is, w.k-is, w.logadd-s.ensures.sum, p) l }
    ]

pub returns : goal.returns
returns c =
    let i = c.loop-j.invariant in
    let e : c.loop-j.j ≡ c.args.bins.now.end = omega (arith, c.args.bins.now.some) in
    (rw e at i.powers, rw e at i.sums)
