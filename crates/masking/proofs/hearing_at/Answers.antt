use mathlib.Core.Path.{ap, ◌∙◌}
use native.Mathlib.Omega.{arith}
use lib.ListN.{get_or}
use Prim.Native.Nat.{◌+◌, ◌*◌}
use Rattle.tables.proofs.Limits.{hth-high}
use Rattle.masking.proofs.hearing_at.Goals as goal

pub returns : goal.returns
returns c =
    let a = c.args in
    let h = hth-high (50 * a.fscod + a.b) in
    let e = c.from.ensures ∙ ap (λ t. get_or t (50 * a.fscod + a.b) 0) c.requires.0 in
    (omega arith, omega arith)
