-- The answer of a reading.
use Rattle.std.specs.Prelude.{List, ℕ, Ok, Err}
use Rattle.refusals.specs.Refusals.{number_of}
use Rattle.syntax.specs.Cursors.{Progress}
use Rattle.syntax.specs.declared.Stopped.{Stopped}
use Rattle.answer.specs.Answer.{frame_of, nothing}
use Rattle.answer.specs.declared.Answer.{Answer}
use Rattle.answer.specs.declared.Verdict.TheVariants.{Accepted, Refused}

-- a reading that was stopped, which needs no cells; any reading
abbrev pub refusal_from : Stopped → Answer
refusal_from e = record { verdict = Refused (number_of e.refusal) e.at e.count; frame = nothing }

abbrev pub answer_from : Progress → List ℕ → Answer
answer_from (Ok c) m = record { verdict = Accepted; frame = frame_of m c.at.0 c.count }
answer_from (Err e) m = refusal_from e
