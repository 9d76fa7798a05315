-- The numbers from i on are still to be put.
use Rattle.std.proofs.Common.{◌≡◌, ◌+◌, drop}
use Rattle.cells.specs.Cells.{puts_in}
use Rattle.inputs.proofs.tell.Given as goal

abbrev pub invariant-loop-i : goal.invariant-loop-i
invariant-loop-i l = puts_in l.initial.cells l.k l.fn.numbers ≡ puts_in l.cells (l.k + l.i) (drop l.i l.fn.numbers)
