use Rattle.std.proofs.Common.{rules}
use Rattle.rows.specs.Rows.{loop_to}
use Rattle.rows.proofs.steps.count_of.Goals as goal

pub returns-then-field-eq0 : goal.returns-then-field-eq0
unfolding loop_to
returns-then-field-eq0 c = search rules

pub returns-else-field-eq0 : goal.returns-else-field-eq0
unfolding loop_to
returns-else-field-eq0 c = search rules
