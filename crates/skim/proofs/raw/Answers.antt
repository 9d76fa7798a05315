use native.Mathlib.Omega.{arith}
use mathlib.Core.Path.{sym, ◌∙◌}
use borrow.Author.Tests.{ltb-false}
use Rattle.bits.proofs.BitLaws.{get_in}
use Rattle.skim.specs.Outcomes.{look_of}
use Rattle.skim.proofs.raw.Goals as goal

pub returns-then-past : goal.returns-then-past
unfolding look_of
returns-then-past c = rw (sym c.past.ensures.0 ∙ c.if-past.true)

pub overflow_add-result : goal.overflow_add-result
overflow_add-result c = record { fits = c.past.ensures.1 c.if-past.false }

pub returns : goal.returns
unfolding look_of
returns c = let h = sym c.past.ensures.0 ∙ c.if-past.false in let a = c.args in let k = ltb-false a.limit.0 _ h in rw (h, c.get.ensures, get_in a.src.now a.at.0 a.width (omega arith) (omega arith))
