use Rattle.std.proofs.Common.{rules}
use Rattle.sideinfo.specs.Blocks.{nrematbd_by}
use Rattle.sideinfo.proofs.blocks.nrematbd.Goals as goal

pub returns : goal.returns
unfolding nrematbd_by
returns c = search rules
