-- By the callees.
use Rattle.std.proofs.Common.{◌∙◌}
use Rattle.answer_c.proofs.Laying.{laid-are, laid_none}
use Rattle.answer_c.proofs.tell.Goals as goal

pub returns-then-number-eq0 : goal.returns-then-number-eq0
returns-then-number-eq0 c =
    (c.number_of-number.ensures, laid-are _ _ _ _ _ _ _ c.args.a c.lay_bits.ensures c.lay.ensures (c.from.ensures ∙ c.number_of-number.ensures) (c.from-place.ensures ∙ c.place_of.ensures) c.count_of-count.ensures c.numbers.ensures)

pub returns-else-number-eq0 : goal.returns-else-number-eq0
returns-else-number-eq0 c =
    (c.number_of-number.ensures, laid_none _ _ _ _ _ c.args.a (c.requires.0 (λ e. absurd (c.if-number-eq0.false (c.number_of-number.ensures ∙ e)))) c.lay_refusal.ensures (c.from-else-number-eq0.ensures ∙ c.number_of-number.ensures) (c.from-place.ensures ∙ c.place_of.ensures) c.count_of-count.ensures)
