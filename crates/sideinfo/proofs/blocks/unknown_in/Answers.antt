use mathlib.Core.Path.{◌∙◌}
use native.Mathlib.Omega.{arith}
use Rattle.std.proofs.Common.{rules, tests}
use Rattle.std.proofs.lemmas.Iterator.{YieldsList-from_range}
use Rattle.std.proofs.lemmas.Iterator.Search.{any_from_yields_List}
use Rattle.sideinfo.specs.Blocks.{unknown_of, channels_of}
use Rattle.sideinfo.proofs.BlockLaws.{unknown-any}
use Rattle.sideinfo.proofs.blocks.unknown_in.Goals as goal

pub returns : goal.returns
returns c =
    any_from_yields_List (unknown_of c.args.cells.now) _ _ _ c.any.ensures.ran (YieldsList-from_range 0 (channels_of c.args.cells.now) (channels_of c.args.cells.now) (cc) (omega arith)) (λ x b q k. search (rules, tests))
    ∙ unknown-any c.args.cells.now (channels_of c.args.cells.now)
