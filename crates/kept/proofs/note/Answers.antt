use Rattle.kept.proofs.Laws.{noted-by}
use Rattle.kept.proofs.note.Goals as goal

pub returns : goal.returns
returns c = noted-by _ _ _ _ c.requires.0 c.requires.1 _ c.copy_from_slice.ensures.after
