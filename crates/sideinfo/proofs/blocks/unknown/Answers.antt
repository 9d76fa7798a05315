use Rattle.std.proofs.Common.{rules}
use Rattle.sideinfo.specs.Blocks.{unknown_of}
use Rattle.sideinfo.proofs.blocks.unknown.Goals as goal

pub returns-then-not-extended : goal.returns-then-not-extended
unfolding unknown_of
returns-then-not-extended c = search rules

pub returns-else-not-extended : goal.returns-else-not-extended
unfolding unknown_of
returns-else-not-extended c = search rules
