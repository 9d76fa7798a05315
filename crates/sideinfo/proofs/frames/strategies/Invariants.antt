use Prim.Native.Nat.{◌*◌, ◌+◌}
use Rattle.cells.specs.Cells.{put_in}
use Rattle.sideinfo.specs.Steps.{each_of}
use Rattle.tables.specs.Small.{frmexpstr}
use lib.ListN.{get_or}
use mathlib.Core.Path.{◌≡◌}
use Rattle.sideinfo.proofs.frames.strategies.Given as goal

abbrev pub invariant-loop-i : goal.invariant-loop-i
invariant-loop-i l = l.cells ≡ each_of (λ i x. put_in x (l.k + l.d * i) (get_or frmexpstr (6 * l.code + i) 0)) l.i l.initial.cells
