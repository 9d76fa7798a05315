-- By the callee.
use Rattle.gain_c.proofs.Laying.{factors-are}
use Rattle.gain_c.proofs.lay_factors.Goals as goal

pub returns : goal.returns
returns c = factors-are c.args.out.now c.args.g c.lay_pair.ensures c.lay_pair-2.ensures c.lay_pair-3.ensures c.lay_pair-4.ensures
