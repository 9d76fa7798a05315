use mathlib.Core.Path.{◌≡◌, refl}
use native.Mathlib.Numerals.{add-one}
use native.Mathlib.Omega.{arith}
use Prim.Native.Nat.{◌+◌}
use lib.ListN.{get_or}
use Rattle.alloc.specs.Allocation.{counter}
use Rattle.alloc.specs.Levels.{deltaed_l}
use Rattle.alloc.proofs.Lists.{written-already}
use Rattle.segments.proofs.Shifts.{shift-more}
use Rattle.segments.proofs.shift.Goals as goal

pub loop-i-init : goal.loop-i-init
unfolding counter deltaed_l
loop-i-init c =
    (omega arith, refl, written-already _ c.args.first c.args.last c.args.out.now (λ k. refl), λ k. omega (arith, c.requires.2 k))

pub loop-i-preserved : goal.loop-i-preserved
unfolding counter deltaed_l
loop-i-preserved c =
    let a = c.args in
    let d = a.d in
    let i = c.loop-i.i in
    let o = c.from.ensures in
    let n = c.from-in-loop-i.ensures in
    let w = c.move_bands.ensures in
    let e : c.loop-i.band + c.from.result + c.from-in-loop-i.result ≡ counter d (i + 1) = rw add-one (omega (arith, c.loop-i.invariant.1, o, n)) in (
      omega arith,
      e,
      rw add-one
          (shift-more (λ b. deltaed_l d b (get_or a.out.now b 0) i) (get_or d.ba i 0) (counter d i + get_or d.offset i 0) (counter d i + get_or d.offset i 0 + get_or d.len i 0)
          a.first a.last a.out.now c.loop-i.out _ c.loop-i.invariant.2
          (rw (c.max.ensures, c.min.ensures, o, n, c.loop-i.invariant.1) at w.0)),
      λ k. omega (arith, w.1 k, c.loop-i.invariant.3 k),
    )
