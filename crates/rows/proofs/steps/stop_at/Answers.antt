use mathlib.Core.Path.{ap, ◌∙◌}
use Rattle.cells.specs.Cells.{cell_of}
use Rattle.rows.proofs.StepLaws.{stop-none, stop-at, only-comparison}
use Rattle.rows.proofs.steps.stop_at.Goals as goal

pub returns-in-Comparison : goal.returns-in-Comparison
returns-in-Comparison c = c.max.ensures ∙ stop-at _ _ _ _ (c.cell_of.ensures ∙ ap (cell_of c.args.cells.now) c.field.ensures) c.in-Comparison.ensures

pub returns-in_default : goal.returns-in_default
returns-in_default c = stop-none _ _ _ (only-comparison _ _ c.of.ensures c.in_default.not-Comparison)
