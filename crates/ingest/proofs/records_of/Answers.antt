-- The entry's answer and room.
use Rattle.ingest.proofs.records_of.Goals as goal

pub returns : goal.returns
returns c = record { answer = c.parse-answer.ensures.answer; left = c.parse-answer.ensures.left }
