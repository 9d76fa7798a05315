-- The items so far are set.
use mathlib.Core.Path.{◌≡◌}
use lib.ListN.{length}
use Rattle.mastering.specs.SetWords.{worded_to, values_to}
use Rattle.mastering.proofs.write_words.Given as goal

abbrev pub invariant-loop-place : goal.invariant-loop-place
invariant-loop-place l =
    (l.frame ≡ worded_to l.initial.frame l.names l.firsts l.places l.words (length l.yielded)) × (l.values ≡ values_to l.initial.values l.places l.words (length l.yielded)) × (length l.frame ≡ length l.initial.frame) × (length l.values ≡ length l.initial.values)
