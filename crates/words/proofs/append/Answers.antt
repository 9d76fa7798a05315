use Rattle.words.proofs.Writing.{append-is, append-fits}
use Rattle.words.proofs.append.Goals as goal

pub overflow_add-result : goal.overflow_add-result
overflow_add-result c = record { fits = append-fits _ _ _ c.requires.0 c.requires.1 c.requires.2 }

pub returns : goal.returns
returns c = append-is _ _ _ c.requires.0 c.requires.1 c.requires.2
