use mathlib.Core.Path.{◌≡◌}
use mathlib.Core.List.{List}
use Prim.Native.Nat.{ℕ, ◌+◌, ◌-◌, ◌*◌, ◌≤◌}
use Rattle.reading.specs.Run.{skim}
use Rattle.hybrid.specs.Outcomes.{Gained}
use Rattle.hybrid.specs.Hybrid.{bins_of}
use Rattle.hybrid.proofs.read_bins.Given as goal

abbrev pub invariant-loop-i : goal.invariant-loop-i
invariant-loop-i l = (l.k + l.start ≤ l.i) × (l.tags + 6 * l.start ≤ 6 * l.i) × (l.tags ≤ 1536) × ((gains : List ℕ) → Gained l.gain gains → skim (bins_of l.mode gains l.baps l.slot l.start (l.end - l.start) 0 0) l.src l.initial.place.0 l.limit.0 ≡ skim (bins_of l.mode gains l.baps l.slot l.i (l.end - l.i) l.k l.tags) l.src l.place.0 l.limit.0)
