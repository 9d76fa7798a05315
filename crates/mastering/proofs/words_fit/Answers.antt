use mathlib.Core.Path.{sym}
use native.Mathlib.Omega.{arith}
use Rattle.std.proofs.lemmas.Result.{err_from_is_err_and}
use Rattle.mastering.proofs.Rewriting.{number-none, number_on, too_many, number-all, stopped}
use Rattle.mastering.proofs.words_fit.Goals as goal

pub returns-then-items-gt16 : goal.returns-then-items-gt16
returns-then-items-gt16 c = let b = too_many _ _ _ _ c.min-items.ensures c.if-items-gt16.true in (b, omega (arith, b))

pub loop-item-init : goal.loop-item-init
loop-item-init c = number-none _ _ _ _

pub loop-item-preserved : goal.loop-item-preserved
loop-item-preserved c = number_on _ _ _ _ _ c.loop-item.invariant (sym c.in_ok-item_fits.ensures)

pub returns-in_err-item_fits : goal.returns-in_err-item_fits
returns-in_err-item_fits c =
    let p = err_from_is_err_and c.from_residual.result c.from_residual.ensures.1 in
    let e = c.in_err-item_fits.ensures in
    let b = stopped _ _ _ _ c.min-items.ensures (omega arith) (omega arith) c.loop-item.invariant e.0 (omega (arith, e.0, e.1)) in
    rw (p.1, p.2) (b, omega (arith, b, e.0, e.1))

pub returns : goal.returns
returns c = sym (number-all _ _ _ _ c.min-items.ensures (omega arith) (omega arith) (omega arith) c.loop-item.invariant)
