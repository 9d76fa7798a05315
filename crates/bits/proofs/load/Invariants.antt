-- The bytes so far are loaded, by the law of one byte more.
use Prim.Native.Nat.{◌*◌}
use mathlib.Core.Path.{◌≡◌}
use Rattle.bits.specs.Bits.{bits_at}
use Rattle.bits.proofs.load.Given as goal

abbrev pub invariant-loop-b : goal.invariant-loop-b
invariant-loop-b l = l.v ≡ bits_at l.src (8 * l.first) (8 * l.b-index)
