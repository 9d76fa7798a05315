use mathlib.Core.List.{List}
use mathlib.Core.Path.{◌≡◌}
use Prim.Native.Nat.{ℕ, ◌-◌}
use Rattle.reading.specs.Run.{skim}
use Rattle.mantissas.specs.Mantissas.{conventional_of}
use Rattle.mantissas.proofs.one_by_one.Given as goal

abbrev pub invariant-loop-i : goal.invariant-loop-i
invariant-loop-i l = (s : List ℕ) → skim (conventional_of l.baps l.slot l.start (l.end - l.start) l.initial.groups) s l.initial.place.0 l.limit.0 ≡ skim (conventional_of l.baps l.slot l.i (l.end - l.i) l.groups) s l.place.0 l.limit.0
