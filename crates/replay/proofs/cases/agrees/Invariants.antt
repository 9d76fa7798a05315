-- The numbers before k are compared.
use Rattle.std.proofs.Common.{◌≡◌}
use Rattle.replay.specs.Cases.{agrees_of}
use Rattle.replay.proofs.cases.agrees.Given as goal

abbrev pub invariant-loop-k : goal.invariant-loop-k
invariant-loop-k l = l.all ≡ agrees_of l.ours l.theirs l.k
