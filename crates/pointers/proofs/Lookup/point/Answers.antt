use native.Mathlib.Omega.{arith}
use Rattle.pointers.proofs.Pointing.{pointed-more, pointed-most}
use Rattle.pointers.proofs.Lookup.point.Goals as goal

pub overflow_add-sum : goal.overflow_add-sum
overflow_add-sum c =
    let t = c.args.self.now.tables.now in
    record { fits = omega (arith, pointed-most _ _ 281474976710656 c.args.lo c.loop-j.j _ _ _ t.share_most c.loop-j.invariant, t.share_most c.from.result) }

pub loop-j-preserved : goal.loop-j-preserved
loop-j-preserved c =
    rw c.from.ensures (pointed-more _ _ c.args.lo c.loop-j.j _ _ c.pointer-b.result c.loop-j.sum (omega arith) (omega arith) c.loop-j.invariant c.pointer-b.ensures)
