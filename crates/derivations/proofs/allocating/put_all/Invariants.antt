use Rattle.std.proofs.Common.{◌≡◌, ◌+◌, get_or}
use Rattle.cells.specs.Cells.{put_in}
use Rattle.sideinfo.specs.Steps.{each_of}
use Rattle.derivations.proofs.allocating.put_all.Given as goal

abbrev pub invariant-loop-i : goal.invariant-loop-i
invariant-loop-i l = l.cells ≡ each_of (λ i x. put_in x (l.k + i) (get_or l.vs i 0)) l.i l.initial.cells
