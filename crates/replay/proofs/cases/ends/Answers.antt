-- By the callees.
use Rattle.std.proofs.Common.{sym, ◌∙◌, true≢false}
use Rattle.replay.proofs.SumLaws.{third, not_second, not_first}
use Rattle.replay.proofs.cases.ends.Goals as goal
use Rattle.replay.proofs.cases.ends.Goals.{then-is_pair, else-is_pair}

pub returns-then-is_pair-2 : goal.returns-then-is_pair-2
returns-then-is_pair-2 c =
    elim c.if-is_pair.branch [
      | then-is_pair w ↦ c.is_pair-then-is_pair-2.ensures ∙ third (sym c.is_pair.ensures ∙ w.if-is_pair.true) (sym w.is_pair-then-is_pair.ensures ∙ sym w.value-is ∙ c.if-is_pair-2.true)
      | else-is_pair w ↦ absurd (true≢false (sym c.if-is_pair-2.true ∙ w.value-is ∙ w.if-is_pair.false))
    ]

pub returns-else-is_pair-2 : goal.returns-else-is_pair-2
returns-else-is_pair-2 c =
    elim c.if-is_pair.branch [
      | then-is_pair w ↦ not_second _ c.if-is_pair-2.false (sym c.is_pair.ensures ∙ w.if-is_pair.true) (sym w.is_pair-then-is_pair.ensures ∙ sym w.value-is ∙ c.if-is_pair-2.false)
      | else-is_pair w ↦ not_first _ c.if-is_pair-2.false (sym c.is_pair.ensures ∙ w.if-is_pair.false)
    ]
