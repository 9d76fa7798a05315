use Rattle.std.proofs.Common.{rules}
use Rattle.rows.specs.Rows.{with_in}
use Rattle.rows.proofs.steps.other.Goals as goal

pub returns-then-field-eq0 : goal.returns-then-field-eq0
unfolding with_in
returns-then-field-eq0 c = search rules

pub returns-else-field-eq0 : goal.returns-else-field-eq0
unfolding with_in
returns-else-field-eq0 c = search rules
