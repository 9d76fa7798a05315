use native.Mathlib.Omega.{arith}
use borrow.Author.Tests.{lt-ltb}
use Prim.Native.Nat.{◌<◌, ◌-◌}
use Rattle.alloc.specs.Levels.{begin_l}
use Rattle.masking.proofs.Excitation.{excites-more}
use Rattle.masking.proofs.Bands.rise.Goals as goal

pub loop-b-preserved : goal.loop-b-preserved
loop-b-preserved c =
    let b = c.loop-b.b in
    let s = c.pass_rising-s in
    let h : b < begin_l c.args.self.now.powers.now 0 c.args.self.now.last = omega (arith, c.requires.0) in
    excites-more _ _ 0 _ 0 b _ _ s.result _ _ (s.result.fast - s.result.low) c.loop-b.invariant (s.ensures _ h) (omega arith) (simp (lt-ltb b _ h))
