use Rattle.sideinfo.specs.Blocks.{read_of, slot_bits_of}
use Rattle.sideinfo.specs.Steps.{each_of}
use mathlib.Core.Path.{◌≡◌}
use Rattle.sideinfo.proofs.blocks.aht_read.Given as goal

abbrev pub invariant-loop-slot : goal.invariant-loop-slot
invariant-loop-slot l = l.cells ≡ each_of slot_bits_of l.slot l.initial.cells

abbrev pub invariant-loop-ch : goal.invariant-loop-ch
invariant-loop-ch l = l.cells ≡ each_of read_of l.ch l.initial.cells
