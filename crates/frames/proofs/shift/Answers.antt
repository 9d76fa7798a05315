use Rattle.frames.proofs.Shifts.{all_moved}
use Rattle.frames.proofs.shift.Goals as goal

pub returns : goal.returns
returns c = all_moved _ _ _ _ _ _ c.min-end.ensures c.min-from.ensures c.copy_within.ensures.after c.copy_within.ensures.len
