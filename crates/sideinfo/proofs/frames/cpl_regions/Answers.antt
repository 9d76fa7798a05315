use Prim.Native.Nat.{◌+◌}
use lib.Dec.{eqb}
use mathlib.Core.Bool.{not, ◌||◌}
use native.Mathlib.Omega.{arith}
use Rattle.std.proofs.Common.{rules, tests}
use Rattle.std.proofs.lemmas.Iterator.{YieldsList-from_range}
use Rattle.std.proofs.lemmas.Iterator.Consumers.{YieldsList-from_filter, count_from_yields_List}
use Rattle.cells.specs.Cells.{cell_of}
use Rattle.cells.specs.Names.{CPLSTRE, CPLEXPSTR}
use Rattle.sideinfo.proofs.StepLaws.{counted}
use Rattle.sideinfo.proofs.frames.cpl_regions.Goals as goal

pub returns : goal.returns
returns c =
    counted _ _ _ (count_from_yields_List c.filter.result _ c.count.ensures.ran
    (YieldsList-from_filter _ (λ i. eqb (cell_of c.args.cells.now (CPLSTRE + i)) 1 || not (eqb (cell_of c.args.cells.now (CPLEXPSTR + i)) 0)) (YieldsList-from_range 0 6 6 (cc) (omega arith)) c.filter.ensures.closure (λ x r q k. search (rules, tests))))
