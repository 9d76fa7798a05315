use Prim.Native.Nat.{◌+◌}
use Rattle.cells.specs.Cells.{put_in}
use Rattle.cells.specs.Names.{CHEXPSTR, NCHREGS}
use Rattle.sideinfo.specs.Frames.{regions_from}
use Rattle.sideinfo.specs.Steps.{each_of}
use mathlib.Core.Path.{◌≡◌}
use Rattle.sideinfo.proofs.frames.regions.Given as goal

abbrev pub invariant-loop-ch : goal.invariant-loop-ch
invariant-loop-ch l = l.cells ≡ each_of (λ ch x. put_in x (NCHREGS + ch) (regions_from x (CHEXPSTR + ch) 8)) l.ch l.initial.cells
