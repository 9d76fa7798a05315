-- Three places, one after the other.
use native.Mathlib.Omega.{arith}
use lib.ListN.{set, length-set}
use Rattle.gain_c.proofs.lay_first.Goals as goal

pub bounds-out-1 : goal.bounds-out-1
bounds-out-1 c = omega (arith, c.requires, length-set c.args.out.now 0 c.args.number)

pub bounds-out-2 : goal.bounds-out-2
bounds-out-2 c = omega (arith, c.requires, length-set c.args.out.now 0 c.args.number, length-set (set c.args.out.now 0 c.args.number) 1 c.args.place)
