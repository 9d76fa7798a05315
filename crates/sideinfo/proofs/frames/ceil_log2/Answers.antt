use Prim.Native.Nat.{◌^◌}
use lib.Dec.{ltb}
use mathlib.Core.Bool.{cond}
use mathlib.Core.Path.{◌≡◌, ap, ◌∙◌}
use native.Mathlib.Omega.{arith}
use Rattle.std.proofs.Common.{rules, tests, ◌*◌, ◌%◌}
use Rattle.std.proofs.lemmas.Iterator.{YieldsList-from_range}
use Rattle.std.proofs.lemmas.Iterator.Consumers.{YieldsList-from_filter, count_from_yields_List}
use Rattle.sideinfo.specs.Frames.{powers_below}
use Rattle.sideinfo.proofs.StepLaws.{counted, same_sum, sum-most, bit-le}
use Rattle.sideinfo.proofs.FrameLaws.{power}
use Rattle.sideinfo.proofs.frames.ceil_log2.Goals as goal

pub returns : goal.returns
returns c =
    let e : c.count.result ≡ powers_below c.args.n 17 =
    counted _ _ _ (count_from_yields_List c.filter.result _ c.count.ensures.ran
    (YieldsList-from_filter _ (λ k. ltb (1 * 2 ^ k % 4294967296) c.args.n) (YieldsList-from_range 0 17 17 (cc) (omega arith)) c.filter.ensures.closure (λ x r q k. search (rules, tests))))
    ∙ same_sum _ _ 17 (λ k l. ap (λ x. cond (ltb x c.args.n) 1 0) (power k l)) in
    (e, omega (arith, sum-most (λ k. cond (ltb (2 ^ k) c.args.n) 1 0) 17 (λ k. bit-le _)))
