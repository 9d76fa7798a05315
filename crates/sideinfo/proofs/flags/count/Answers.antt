use Prim.Native.Nat.{◌+◌}
use lib.Dec.{eqb}
use mathlib.Core.Bool.{cond}
use mathlib.Core.Path.{◌≡◌}
use native.Mathlib.Omega.{arith}
use Rattle.std.proofs.Common.{rules, tests}
use Rattle.std.proofs.lemmas.Iterator.{YieldsList-from_range}
use Rattle.std.proofs.lemmas.Iterator.Consumers.{YieldsList-from_filter, count_from_yields_List}
use Rattle.cells.specs.Cells.{cell_of}
use Rattle.sideinfo.specs.Frames.{holding}
use Rattle.sideinfo.proofs.StepLaws.{counted, sum-most, bit-le}
use Rattle.sideinfo.proofs.flags.count.Goals as goal

pub returns : goal.returns
returns c =
    let e : c.count.result ≡ holding c.args.cells.now c.args.k c.args.v c.args.n =
    counted _ _ _ (count_from_yields_List c.filter.result _ c.count.ensures.ran
    (YieldsList-from_filter _ (λ i. eqb (cell_of c.args.cells.now (c.args.k + i)) c.args.v) (YieldsList-from_range 0 c.args.n c.args.n (cc) (omega arith)) c.filter.ensures.closure (λ x r q k. search (rules, tests)))) in
    (e, omega (arith, sum-most (λ i. cond (eqb (cell_of c.args.cells.now (c.args.k + i)) c.args.v) 1 0) c.args.n (λ i. bit-le _)))
