-- One item.
use Rattle.mastering.proofs.Entry.{one_word}
use Rattle.mastering.proofs.set_word.Goals as goal

pub returns : goal.returns
returns c = one_word c.set_words.ensures
