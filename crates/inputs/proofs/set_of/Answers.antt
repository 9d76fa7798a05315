use native.Mathlib.Omega.{arith}
use Rattle.inputs.proofs.Takes.{set_is}
use Rattle.inputs.proofs.set_of.Goals as goal

pub returns : goal.returns
returns c = (set_is _ _ _ c.label_of.ensures _ c.slot_of-slot.ensures _ c.strategy_of.ensures _ c.start_of.ensures _ c.end_of.ensures _ c.cell_of.ensures, omega arith)
