-- The blocks before b are passed.
use Rattle.std.proofs.Common.{◌≡◌}
use Rattle.strategy_table.specs.Strategies.{coupled_of}
use Rattle.strategy_table.proofs.grid.coupled.Given as goal

abbrev pub invariant-loop-b : goal.invariant-loop-b
invariant-loop-b l = l.used ≡ coupled_of l.r l.count l.b
