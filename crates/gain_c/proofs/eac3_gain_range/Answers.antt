-- By the callees.
use Rattle.gain_c.proofs.Laying.{given}
use Rattle.gain_c.proofs.eac3_gain_range.Goals as goal

pub returns : goal.returns
returns c = given c.args.frame.now _ c.args.factors.now c.args.answer.now c.gain_range-told.ensures c.lay_factors.ensures c.tell.ensures.0 c.tell.ensures.1
