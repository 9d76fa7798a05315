use Rattle.std.proofs.Common.{◌∙◌, refl, sym, ap, add-one}
use Rattle.strategy_table.specs.Strategies.{coupled_of, in_use}
use Rattle.strategy_table.proofs.grid.coupled.Goals as goal
use Rattle.strategy_table.proofs.grid.coupled.Goals.{in-Some, in_default}

pub loop-b-init : goal.loop-b-init
unfolding coupled_of
loop-b-init c = refl

pub loop-b-preserved : goal.loop-b-preserved
unfolding coupled_of in_use
loop-b-preserved c =
    let before = coupled_of c.args.r.now c.args.count c.loop-b.b in
    let next = ap (coupled_of c.args.r.now c.args.count) (add-one c.loop-b.b) in
    elim c.match-at.branch [
      | in-Some w ↦ w.used-is ∙ sym (ap (λ v. in_use v before) (sym c.at.ensures ∙ w.in-Some.is)) ∙ sym next
      | in_default w ↦ w.used-is ∙ c.loop-b.invariant ∙ sym (ap (λ v. in_use v before) (sym c.at.ensures ∙ w.in_default.is)) ∙ sym next
    ]
