-- What is still to be searched gives what the whole gives.
use Rattle.std.proofs.Common.{◌≡◌, ◌-◌, min}
use Rattle.strategy_table.specs.Strategies.{found}
use Rattle.strategy_table.proofs.found.find.Given as goal

abbrev pub invariant-loop-i : goal.invariant-loop-i
invariant-loop-i l =
    let n = min l.count 2048 in
    found l.r l.name l.index (n - l.i) l.i l.left ≡ found l.r l.name l.index n 0 l.after
