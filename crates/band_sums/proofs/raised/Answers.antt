use mathlib.Core.Path.{sym}
use native.Mathlib.Omega.{arith}
use Prim.Native.Nat.{◌/◌, ◌≤◌}
use native.Mathlib.Nat.{add-zero, min-eq_right}
use Rattle.tables.specs.BitAllocation.{latab}
use Rattle.band_sums.proofs.raised.Goals as goal

pub returns-else-d-lt510 : goal.returns-else-d-lt510
unfolding latab
returns-else-d-lt510 c =
    let h : 255 ≤ c.args.d / 2 = omega arith in
    rw (min-eq_right h) (sym (add-zero c.args.top))
