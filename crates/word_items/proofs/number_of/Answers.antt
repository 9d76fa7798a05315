use mathlib.Core.Path.{sym, ap, ◌∙◌}
use mathlib.Core.List.{List}
use Prim.Native.Nat.{ℕ}
use native.Mathlib.Omega.{arith}
use lib.ListN.{length}
use borrow.Author.Rules.{part_to_end}
use borrow.Author.Tests.{eqb-true, eqb-false}
use Rattle.word_items.specs.Items.{value_to}
use Rattle.word_items.proofs.Folds.{number-none, number_short, number-hex, number-ten}
use Rattle.word_items.proofs.number_of.Goals as goal

pub returns-then-is_empty : goal.returns-then-is_empty
returns-then-is_empty c = number-none _ (eqb-true _ _ (sym c.is_empty.ensures ∙ c.if-is_empty.true))

pub returns-then-text-le2 : goal.returns-then-text-le2
returns-then-text-le2 c = let h = eqb-false _ _ (sym c.is_empty.ensures ∙ c.if-is_empty.false) in number_short _ (omega (arith, h)) c.if-text-le2.true c.digits.ensures

pub returns-then-marks_hex : goal.returns-then-marks_hex
returns-then-marks_hex c =
    number-hex _ c.if-text-le2.false (sym c.marks_hex.ensures ∙ c.if-marks_hex.true)
    (c.digits-then-marks_hex.ensures ∙ ap (λ (l : List ℕ). value_to l 16 0 (length l)) (part_to_end c.args.text.now 2))

pub returns : goal.returns
returns c = number-ten _ c.if-text-le2.false (sym c.marks_hex.ensures ∙ c.if-marks_hex.false) c.digits-2.ensures
