-- By the callees.
use mathlib.Core.Path.{ap, ◌∙◌}
use native.Mathlib.Omega.{arith}
use Rattle.answer.specs.Answer.{number_of}
use Rattle.answer.specs.declared.Answer.{Answer}
use Rattle.answer_c.specs.Numbers.{laid_of}
use Rattle.mastering_c.proofs.Bare.{bare-words}
use Rattle.mastering_c.proofs.eac3_set_words.Goals as goal

pub tell-requires : goal.tell-requires
tell-requires c = (bare-words c.set_words-a.ensures, omega (arith, c.tell-arg-1.given.0.1))

pub returns : goal.returns
returns c = record {
  number = c.tell.ensures.0 ∙ ap (λ (a : Answer). number_of a) c.set_words-a.ensures.answer;
  bytes = c.set_words-a.ensures.bytes;
  left = c.set_words-a.ensures.left;
  answer = c.tell.ensures.1 ∙ ap (λ (a : Answer). laid_of c.args.answer.now a) c.set_words-a.ensures.answer;
}
