use mathlib.Core.Path.{◌≡◌, ◌∙◌, sym}
use native.Mathlib.Omega.{arith}
use borrow.Author.Tests.{le-ltb}
use Prim.Native.Nat.{◌≤◌, ◌-◌, max}
use Rattle.alloc.specs.Levels.{begin_l}
use Rattle.masking.proofs.Excitation.{excites-more, low-none}
use Rattle.masking.proofs.Bands.high.Goals as goal

pub loop-b-preserved : goal.loop-b-preserved
loop-b-preserved c =
    let v = c.args.self.now in
    let b = c.loop-b.b in
    let s = c.pass_falling-s.result in
    let h : begin_l v.powers.now v.first v.last ≤ b = omega (arith, c.requires.falling (omega arith)) in
    let n = low-none v.powers.now v.first v.last c.loop-b.s.low b (λ z. omega (arith, c.requires.no_low (omega arith) z)) in
    let next = c.pass_falling-s.ensures v.first v.last (begin_l v.powers.now v.first v.last) h (sym n) in
    let m : max s.fast s.slow ≡ max (s.fast - s.low) s.slow = omega (arith, next.low ∙ n) in
    excites-more _ _ _ _ _ b _ _ s _ _ _ c.loop-b.invariant next (omega arith) (simp (le-ltb b _ h) (c.max.ensures ∙ m))
