-- By the callees.
use mathlib.Core.Path.{ap, sym, subst, ◌∙◌}
use native.Mathlib.Omega.{arith}
use Rattle.answer.specs.Answer.{number_of}
use Rattle.answer.specs.declared.Answer.{Answer}
use Rattle.answer_c.specs.Numbers.{laid_of}
use Rattle.answer_c.specs.Parts.{Bare}
use Rattle.answer_c.proofs.Laying.{bare-answer}
use Rattle.eac3_c.proofs.eac3_parse.Goals as goal

pub tell-requires : goal.tell-requires
tell-requires c = (subst Bare (sym c.parse-a.ensures.answer) (bare-answer _), omega arith)

pub returns : goal.returns
returns c = record {
  number = c.tell.ensures.0 ∙ ap (λ (a : Answer). number_of a) c.parse-a.ensures.answer;
  left = c.parse-a.ensures.left;
  answer = c.tell.ensures.1 ∙ ap (λ (a : Answer). laid_of c.args.answer.now a) c.parse-a.ensures.answer;
}
