use mathlib.Core.Path.{◌≡◌}
use mathlib.Core.Bool.{◌&&◌}
use Prim.Native.Nat.{◌-◌}
use Rattle.silence.specs.Silence.{silent_by, offsets_zero}
use Rattle.silence.proofs.silent.Given as goal

abbrev pub invariant-loop-slot : goal.invariant-loop-slot
invariant-loop-slot l = silent_by l.csnroffst l.fsnroffst l.shape ≡ l.all && offsets_zero l.fsnroffst l.shape l.slot (7 - l.slot)
