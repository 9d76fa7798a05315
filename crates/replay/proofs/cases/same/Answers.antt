-- By the callees.
use Rattle.std.proofs.Common.{sym, ap, ◌∙◌, true≢false, eq-eqb, ne_eqb}
use Rattle.replay.specs.Sums.{room_of}
use Rattle.replay.specs.Cases.{agrees_of}
use Rattle.replay.proofs.SumLaws.{third, not_second, not_first, ends-are}
use Rattle.replay.proofs.cases.same.Goals as goal
use Rattle.replay.proofs.cases.same.Goals.{then-number-theirs, else-number-theirs}

pub returns-then-agrees : goal.returns-then-agrees
returns-then-agrees c =
    elim c.if-number-theirs.branch [
      | then-number-theirs w ↦
          ends-are c.args.r.now.answer.verdict c.args.r.now.answer.frame (room_of c.args.r.now) c.args.theirs.now c.ends.ensures c.min-then-agrees.ensures c.kept.ensures c.of_records-sum.ensures c.min.ensures
          ∙ third (eq-eqb _ _ (sym (c.number.ensures ∙ c.from.ensures) ∙ w.if-number-theirs.true)) (sym (w.agrees.ensures ∙ ap (λ ns. agrees_of ns c.args.theirs.now 31) w.numbers.ensures) ∙ sym w.value-is ∙ c.if-agrees.true)
      | else-number-theirs w ↦ absurd (true≢false (sym c.if-agrees.true ∙ w.value-is ∙ ne_eqb _ _ w.if-number-theirs.false))
    ]

pub returns-else-agrees : goal.returns-else-agrees
returns-else-agrees c =
    elim c.if-number-theirs.branch [
      | then-number-theirs w ↦
          not_second _ c.if-agrees.false (eq-eqb _ _ (sym (c.number.ensures ∙ c.from.ensures) ∙ w.if-number-theirs.true)) (sym (w.agrees.ensures ∙ ap (λ ns. agrees_of ns c.args.theirs.now 31) w.numbers.ensures) ∙ sym w.value-is ∙ c.if-agrees.false)
      | else-number-theirs w ↦ not_first _ c.if-agrees.false (ne_eqb _ _ (λ e. w.if-number-theirs.false (c.number.ensures ∙ c.from.ensures ∙ e)))
    ]
