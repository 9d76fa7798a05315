use mathlib.Core.Bool.{false}
use mathlib.Core.Path.{◌≡◌}
use Prim.Native.Nat.{◌-◌, ◌*◌, ◌≤◌}
use Rattle.reading.specs.Run.{skim}
use Rattle.plan.specs.Plan.{slots_of}
use Rattle.plan.specs.Taken.{along_of}
use Rattle.plan.proofs.mantissas.Given as goal

abbrev pub invariant-loop-ch : goal.invariant-loop-ch
invariant-loop-ch l = (l.t.tags ≤ 3072 * l.ch) × (skim (slots_of l.baps l.shape 0 l.n false (along_of l.initial.t)) l.src l.initial.t.place.0 l.limit.0 ≡ skim (slots_of l.baps l.shape l.ch (l.n - l.ch) l.got (along_of l.t)) l.src l.t.place.0 l.limit.0)
