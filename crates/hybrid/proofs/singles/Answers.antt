use borrow.Author.Tests.{eq-eqb, ne_eqb}
use mathlib.Core.Path.{◌≡◌}
use mathlib.Core.Bool.{cond}
use lib.Dec.{eqb}
use Rattle.std.proofs.lemmas.Result.{err_from_is_err_and}
use Rattle.hybrid.proofs.HybridLaws.{singled-none, singled-end, singled-past, singled-on}
use Rattle.hybrid.proofs.singles.Goals as goal
use Rattle.hybrid.proofs.singles.Goals.{then-word-eq1, else-word-eq1}

pub loop-i-init : goal.loop-i-init
loop-i-init c = singled-none _ _ _ _ c.told-gain c.requires.2 _ _

pub returns-in_err-word : goal.returns-in_err-word
returns-in_err-word c = let p = err_from_is_err_and c.from_residual.result c.from_residual.ensures.1 in rw (p.1, p.2) (singled-past _ _ _ _ _ _ _ _ c.loop-i.invariant c.loop-i-test.true _ c.in_err-word.ensures)

pub loop-i-preserved : goal.loop-i-preserved
loop-i-preserved c =
    let g : c.if-word-eq1.gain ≡ cond (eqb c.in_ok-word.word.value 1) c.args.large 1 = elim c.if-word-eq1.branch [ then-word-eq1 w ↦ rw (eq-eqb _ _ w.if-word-eq1.true) w.gain-is | else-word-eq1 w ↦ rw (ne_eqb _ _ w.if-word-eq1.false) w.gain-is ] in
    singled-on _ _ _ _ _ _ _ _ c.loop-i.invariant c.loop-i-test.true _ c.in_ok-word.ensures c.requires.0 _ g

pub returns : goal.returns
returns c = singled-end _ _ _ _ _ _ _ _ c.loop-i.invariant c.loop-i-test.false
