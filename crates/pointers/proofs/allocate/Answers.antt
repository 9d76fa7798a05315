use mathlib.Core.Path.{◌≡◌, refl, ◌∙◌}
use native.Mathlib.Omega.{arith}
use Prim.Native.Nat.{◌-◌}
use Rattle.alloc.proofs.Carry.{levels-are}
use Rattle.alloc.proofs.Edges.{none-allocated}
use Rattle.pointers.proofs.allocate.Goals as goal

pub returns-then-c : goal.returns-then-c
returns-then-c c =
    let a = c.args in
    let z : a.c.end - a.c.start ≡ 0 = omega (arith, c.if-c.true) in
    record { out_after = c.no_bins.ensures ∙ none-allocated a.kind a.exps.now a.c a.p a.l a.d c.if-c.true; value = rw z refl }

pub returns : goal.returns
returns c =
    let a = c.args in
    let p = c.requires in
    let k = c.curve_of-curve.ensures in
    let is = levels-are a.kind a.exps.now a.c a.p a.l a.d c.if-c.false p.exponents.0 p.channelled.0 p.channelled.1 in
    rw (k.gains, k.leaks, k.levels, k.deltas, c.base_of.ensures.0, a.tables.now.pointed, is) at c.allocate_some.ensures
