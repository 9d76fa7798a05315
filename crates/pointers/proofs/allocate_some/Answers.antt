use native.Mathlib.Omega.{arith}
use Prim.Native.Nat.{◌-◌}
use Rattle.tables.proofs.Bins.{bands-rise}
use Rattle.band_sums.proofs.Sums.{bands-low, bands-least, powers-low}
use Rattle.pointers.proofs.Whole.{places-most, allocated}
use Rattle.pointers.proofs.allocate_some.Goals as goal

pub invariant_of-bands : goal.invariant_of-bands
invariant_of-bands c =
    let v = c.args.bins.now in
    let one = c.band_of-first.ensures in
    let two = c.band_of-last.ensures in
    let r = bands-rise v.start (v.end - 1) c.band_of-first.result c.band_of-last.result (omega (arith, v.some)) one two in
    record {
      ordered = omega arith;
      within = omega (arith, two.is);
      most = λ k. rw c.bands.ensures.1 (bands-low v.exps.now v.start v.end v.within k);
      least = λ k h. rw c.bands.ensures.1 (bands-least v.exps.now v.start v.end v.ready k h);
    }

pub invariant_of-lookup : goal.invariant_of-lookup
invariant_of-lookup c =
    let v = c.args.bins.now in
    record {
      base_most = c.requires.0;
      power_most = λ j. rw c.bands.ensures.0 ((powers-low v.exps.now v.start v.end v.ready).low j);
      place_most = λ k. rw c.places.ensures (places-most _ _ _ _ _ _ _ k);
    }

pub returns : goal.returns
returns c =
    let v = c.args.bins.now in
    let w =
    allocated _ _ _ _ _ _ _ _ _ _ _ _ _ _ _ _ _ _ _ _ v.some v.within c.requires.1
    c.band_of-first.ensures.band c.band_of-last.ensures.band c.bands.ensures.0 c.bands.ensures.1 c.places.ensures
    c.clear.ensures c.clear-2.ensures c.point_all.ensures in
    record { out_after = w.0; value = w.1 }
