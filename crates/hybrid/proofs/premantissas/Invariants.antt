use mathlib.Core.Path.{◌≡◌}
use Prim.Native.Nat.{◌-◌, ◌≤◌}
use Rattle.reading.specs.Run.{skim}
use Rattle.hybrid.specs.Hybrid.{premantissas_of}
use Rattle.hybrid.proofs.premantissas.Given as goal

abbrev pub invariant-loop-i : goal.invariant-loop-i
invariant-loop-i l = (l.tags ≤ l.i) × (skim (premantissas_of l.m l.gain 6 0) l.src l.initial.place.0 l.limit.0 ≡ skim (premantissas_of l.m l.gain (6 - l.i) l.tags) l.src l.place.0 l.limit.0)
