use native.Mathlib.Omega.{arith}
use Rattle.alloc.proofs.Lists.{written-end}
use Rattle.segments.proofs.move_bands.Goals as goal

pub returns : goal.returns
returns c =
    let i = c.loop-b.invariant in
    (written-end _ c.args.from c.loop-b.b c.args.to c.args.out.now c.loop-b.out i.1 (omega arith) i.0 (omega arith), i.2)
