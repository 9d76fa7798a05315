use mathlib.Core.Path.{◌≡◌}
use Rattle.rows.specs.Syntax.{filled}
use Rattle.rows.proofs.steps.fill.Given as goal

abbrev pub invariant-loop-i : goal.invariant-loop-i
invariant-loop-i l = l.cells ≡ filled l.i l.k l.v l.initial.cells
