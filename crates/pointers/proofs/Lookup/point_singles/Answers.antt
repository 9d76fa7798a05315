use mathlib.Core.Path.{ap, ◌∙◌, sym}
use native.Mathlib.Omega.{arith}
use Prim.Native.Nat.{◌+◌}
use lib.ListN.{get_or}
use Rattle.tables.proofs.Bins.{single-band}
use Rattle.pointers.proofs.Pointing.{pointed-more, pointed-most}
use Rattle.pointers.proofs.Lookup.point_singles.Goals as goal

pub overflow_add-sum : goal.overflow_add-sum
overflow_add-sum c =
    let t = c.args.self.now.tables.now in
    record { fits = omega (arith, pointed-most _ _ 281474976710656 c.args.from c.loop-j.j _ _ _ t.share_most c.loop-j.invariant, t.share_most c.from.result) }

pub loop-j-preserved : goal.loop-j-preserved
loop-j-preserved c =
    let v = c.args.self.now in
    let j = c.loop-j.j in
    let k = ap (λ k. get_or v.places.now k 0) (sym (single-band j (omega arith))) in
    rw c.from.ensures
    (pointed-more _ _ c.args.from j _ _ c.pointer-b.result c.loop-j.sum (omega arith) (omega arith) c.loop-j.invariant
    (c.pointer-b.ensures ∙ ap (λ x. get_or v.tables.now.points.now (v.base + x + get_or v.powers.now j 0) 0) k))
