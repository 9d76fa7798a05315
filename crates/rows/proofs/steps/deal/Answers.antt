use mathlib.Core.Path.{◌≡◌}
use Prim.Native.Nat.{◌%◌}
use Rattle.rows.proofs.StepLaws.{deal-put, deal-fill, deal-refuse, deal-compare, compared-kind}
use Rattle.rows.proofs.steps.deal.Goals as goal

pub returns-in-Some-clause-dealt : goal.returns-in-Some-clause-dealt
returns-in-Some-clause-dealt c = λ b. deal-put _ _ _ b c.in-Assignment.ensures c.in-Some.ensures.0 _ c.in-Some.ensures.1 _ c.set.ensures

pub returns-in-None-clause-dealt : goal.returns-in-None-clause-dealt
returns-in-None-clause-dealt c = λ b. deal-fill _ _ _ b c.in-Assignment.ensures c.in-None.ensures _ c.fill.ensures

pub returns-in-Refusal-clause-dealt : goal.returns-in-Refusal-clause-dealt
returns-in-Refusal-clause-dealt c = λ b. deal-refuse _ _ _ b _ _ _ c.in-Refusal.ensures c.holds.ensures c.field.ensures c.refused.ensures.is

pub returns-in_default : goal.returns-in_default
returns-in_default c =
    let k : c.args.w % 16 ≡ 13 = compared-kind _ _ c.of.ensures c.in_default.not-Assignment c.in_default.not-Refusal c.requires.0 c.requires.1 c.requires.2 in
    record { dealt = λ b. deal-compare _ _ _ b _ _ _ k c.compared.ensures c.field-in_default.ensures c.refused-in_default.ensures.is; refused = c.refused-in_default.ensures.refused }
