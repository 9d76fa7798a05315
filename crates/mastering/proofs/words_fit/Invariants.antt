-- The items before this one have no number.
use mathlib.Core.Path.{◌≡◌}
use Rattle.mastering.specs.SetWords.{number_to}
use Rattle.mastering.proofs.words_fit.Given as goal

abbrev pub invariant-loop-item : goal.invariant-loop-item
invariant-loop-item l = 0 ≡ number_to l.names l.count l.places l.words l.item
