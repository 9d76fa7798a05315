use Rattle.inputs.proofs.Takes.{takes}
use Rattle.inputs.proofs.take.Goals as goal

pub seek-found-requires : goal.seek-found-requires
seek-found-requires c = (c.requires.0, c.requires.1)

pub returns-clause-taken : goal.returns-clause-taken
returns-clause-taken c = takes c.seek-found.ensures c.keep.ensures.kept
