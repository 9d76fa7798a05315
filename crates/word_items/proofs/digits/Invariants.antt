-- The letters before this one are read.
use mathlib.Core.Path.{◌≡◌}
use Rattle.std.specs.Prelude.{Some}
use Rattle.word_items.specs.Items.{value_to}
use Rattle.word_items.proofs.digits.Given as goal

abbrev pub invariant-loop-c : goal.invariant-loop-c
invariant-loop-c l = Some l.value ≡ value_to l.text l.base 0 l.c-index
