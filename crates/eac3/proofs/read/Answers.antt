use Rattle.std.proofs.Common.{rules}
use Rattle.frame.proofs.Parts.{opened-answer, begun-answer}
use Rattle.eac3.proofs.read.Goals as goal

pub begun-requires : goal.begun-requires
begun-requires c = (c.begin.ensures.opened.goes _ c.in-Ok.is).begun

pub returns-in-Err : goal.returns-in-Err
returns-in-Err c = let h = opened-answer c.args.greatest.0 _ _ _ _ c.begin.ensures.opened _ c.in-Err.is _ c.refusal.ensures in search rules
