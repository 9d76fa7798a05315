-- The records before t are looked at; before the one that is meant there is none.
use mathlib.Core.Path.{◌≡◌}
use Rattle.std.specs.Prelude.{None, MatchOption, ⊤}
use Rattle.word_items.specs.Items.{meant_to}
use Rattle.word_items.proofs.place_of.Given as goal

abbrev pub invariant-loop-t : goal.invariant-loop-t
invariant-loop-t l = (l.place ≡ meant_to l.names l.blocks l.name l.block l.t) × MatchOption l.place ⊤ (λ p. None ≡ meant_to l.names l.blocks l.name l.block p)
