use Rattle.sideinfo.specs.Blocks.{endmants_of}
use mathlib.Core.Path.{◌≡◌}
use Rattle.sideinfo.proofs.blocks.endmants.Given as goal

abbrev pub invariant-loop-ch : goal.invariant-loop-ch
invariant-loop-ch l = l.cells ≡ endmants_of l.ch l.initial.cells
