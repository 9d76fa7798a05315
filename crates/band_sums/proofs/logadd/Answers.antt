use mathlib.Core.Path.{◌≡◌}
use Prim.Native.Nat.{ℕ, ◌-◌, ◌≤◌, ◌<◌, max}
use native.Mathlib.Omega.{arith}
use Rattle.alloc.specs.Levels.{logadd_l, LogSum, apart}
use Rattle.alloc.proofs.LogSums.{logadd-bound}
use Rattle.band_sums.proofs.logadd.Goals as goal

-- the result is the definition's sum, whose bound the table's rule gives
bounded : (a b r : ℕ) → r ≡ logadd_l a b → LogSum a b r
bounded a b r e = rw e (logadd-bound a b)

pub returns-then-a-b : goal.returns-then-a-b
unfolding logadd_l
returns-then-a-b c =
    let a = c.args.a in
    let b = c.args.b in
    let h : a < b = c.if-a-b.true in
    let m : max a b ≡ b = omega arith in
    let d : apart a b ≡ b - a = omega arith in
    bounded a b _ (rw (m, d) c.raised.ensures)

pub returns-else-a-b : goal.returns-else-a-b
unfolding logadd_l
returns-else-a-b c =
    let a = c.args.a in
    let b = c.args.b in
    let h : b ≤ a = c.if-a-b.false in
    let m : max a b ≡ a = omega arith in
    let d : apart a b ≡ a - b = omega arith in
    bounded a b _ (rw (m, d) c.raised-else-a-b.ensures)
