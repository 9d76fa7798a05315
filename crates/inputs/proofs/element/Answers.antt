use native.Mathlib.Omega.{arith}
use Rattle.inputs.proofs.Takes.{ends, bits-past, bits-found}
use Rattle.inputs.proofs.element.Goals as goal

pub returns-then-past : goal.returns-then-past
returns-then-past c = bits-past _ _ _ _ c.past.ensures.0 _ c.if-past.true

pub bits_at-value-requires : goal.bits_at-value-requires
bits_at-value-requires c = (c.requires.0, omega (arith, ends c.args.limit.0 c.args.at.0 c.args.width _ c.past.ensures.0 c.if-past.false, c.requires.1))

pub overflow_add-result : goal.overflow_add-result
overflow_add-result c = record { fits = c.past.ensures.1 c.if-past.false }

pub returns : goal.returns
returns c = bits-found _ _ _ _ c.past.ensures.0 _ c.if-past.false _ c.bits_at-value.ensures
