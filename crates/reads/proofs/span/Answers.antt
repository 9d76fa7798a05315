-- The limit comes before the record.
use mathlib.Core.Path.{◌∙◌}
use Rattle.reads.proofs.Limits.{span-past, span-in}
use Rattle.reads.proofs.span.Goals as goal

pub returns-then-past-clause-span : goal.returns-then-past-clause-span
returns-then-past-clause-span c = λ s. rw c.stop.ensures (span-past s _ _ _ _ c.past.ensures.0 c.if-past.true _ _ _)

pub returns-clause-span : goal.returns-clause-span
returns-clause-span c = λ s. c.keep.ensures.kept ∙ span-in s _ _ _ _ c.past.ensures.0 c.if-past.false _ _ _
