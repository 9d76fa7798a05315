use mathlib.Core.Path.{sym, ◌∙◌}
use Rattle.mantissas.proofs.MantissaLaws.{conv-end, conv-past, conv-on}
use Rattle.mantissas.proofs.one_by_one.Goals as goal

pub returns-then-past : goal.returns-then-past
returns-then-past c = (λ s. sym (c.loop-i.invariant s ∙ conv-past s _ _ _ _ _ _ _ c.loop-i-test.true _ _ (rw (c.from-base.ensures, c.from.ensures)) c.width-width.ensures (sym c.past.ensures.0 ∙ c.if-past.true)), tt)

pub loop-i-preserved : goal.loop-i-preserved
loop-i-preserved c = λ s. c.loop-i.invariant s ∙ conv-on s _ _ _ _ _ _ _ c.loop-i-test.true _ _ (rw (c.from-base.ensures, c.from.ensures)) c.width-width.ensures (sym c.past.ensures.0 ∙ c.if-past.false) _ c.counted.ensures

pub returns : goal.returns
returns c = (λ s. sym (c.loop-i.invariant s ∙ conv-end s _ _ _ _ _ _ _ c.loop-i-test.false), c.saturating_sub.ensures)
