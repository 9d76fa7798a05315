use Rattle.word_items.proofs.Folds.{behind-none, value_none, value_on, value_stops}
use Rattle.word_items.proofs.digits.Goals as goal

pub loop-c-init : goal.loop-c-init
loop-c-init c = value_none _ _

pub returns-in_err-digit : goal.returns-in_err-digit
returns-in_err-digit c = rw c.from_residual.ensures (value_stops _ _ _ _ c.loop-c-test.true c.loop-c.invariant c.in_err-digit.ensures (behind-none _ _))

pub returns-in_err-value : goal.returns-in_err-value
returns-in_err-value c = rw c.from_residual-in_err-value.ensures (value_stops _ _ _ _ c.loop-c-test.true c.loop-c.invariant c.in_ok-digit.ensures c.in_err-value.ensures)

pub loop-c-preserved : goal.loop-c-preserved
loop-c-preserved c = value_on _ _ _ c.loop-c.invariant c.in_ok-digit.ensures c.in_ok-value.ensures
