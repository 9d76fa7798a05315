use Prim.Native.Nat.{◌+◌, ◌*◌}
use lib.Dec.{eqb}
use mathlib.Core.Bool.{not}
use mathlib.Core.Path.{sym, ◌∙◌}
use native.Mathlib.Omega.{arith}
use Rattle.std.proofs.Common.{rules, tests}
use Rattle.std.proofs.lemmas.Iterator.{YieldsList-from_range}
use Rattle.std.proofs.lemmas.Iterator.Consumers.{YieldsList-from_filter, count_from_yields_List}
use Rattle.cells.specs.Cells.{cell_of}
use Rattle.sideinfo.proofs.StepLaws.{counted, same_sum}
use Rattle.sideinfo.proofs.FrameLaws.{swapped}
use Rattle.sideinfo.proofs.frames.regions_from.Goals as goal

pub returns : goal.returns
returns c =
    counted _ _ _ (count_from_yields_List c.filter.result _ c.count.ensures.ran
    (YieldsList-from_filter _ (λ i. not (eqb (cell_of c.args.cells.now (c.args.k + c.args.d * i)) 0)) (YieldsList-from_range 0 6 6 (cc) (omega arith)) c.filter.ensures.closure (λ x r q k. search (rules, tests))))
    ∙ same_sum _ _ 6 (λ i l. sym (swapped _))
