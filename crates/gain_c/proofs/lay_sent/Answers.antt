-- Two places, one after the other.
use mathlib.Core.Path.{ap}
use Prim.Native.Nat.{ℕ, ◌+◌}
use native.Mathlib.Omega.{arith}
use lib.ListN.{set, length-set}
use Rattle.gain_c.proofs.lay_sent.Goals as goal

pub bounds-out-at-2 : goal.bounds-out-at-2
bounds-out-at-2 c = omega (arith, c.requires, length-set c.args.out.now c.args.at c.present.result)

pub returns : goal.returns
returns c = ap (λ (x : ℕ). set (set c.args.out.now c.args.at x) (c.args.at + 1) c.args.r.range.words) c.present.ensures
