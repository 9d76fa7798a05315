use native.Mathlib.Omega.{arith}
use borrow.Author.Tests.{le-ltb}
use Prim.Native.Nat.{◌≤◌}
use Rattle.alloc.specs.Levels.{begin_l}
use Rattle.masking.proofs.Excitation.{excites-more}
use Rattle.masking.proofs.Bands.middle.Goals as goal

pub loop-b-preserved : goal.loop-b-preserved
loop-b-preserved c =
    let b = c.loop-b.b in
    let s = c.pass_falling-s in
    let h : begin_l c.args.self.now.powers.now 0 c.args.self.now.last ≤ b = omega (arith, c.requires.1 (omega arith)) in
    excites-more _ _ 0 _ _ b _ _ s.result _ _ _ c.loop-b.invariant (s.ensures 0 _ _ h c.next_low.ensures.0) (omega arith)
    (simp (le-ltb b _ h) c.max.ensures)
