use Rattle.inputs.proofs.Takes.{span-past, span-found}
use Rattle.inputs.proofs.span.Goals as goal

pub returns-then-past : goal.returns-then-past
returns-then-past c = span-past _ _ _ _ c.past.ensures.0 c.if-past.true

pub overflow_add-result : goal.overflow_add-result
overflow_add-result c = record { fits = c.past.ensures.1 c.if-past.false }

pub returns : goal.returns
returns c = span-found _ _ _ _ c.past.ensures.0 c.if-past.false
