use native.Mathlib.Omega.{arith}
use Rattle.std.proofs.lemmas.Result.{err_from_is_err_and}
use Rattle.hybrid.proofs.HybridLaws.{tripled-none, tripled-end, tripled-past, tripled-high, tripled-on, third-is}
use Rattle.hybrid.proofs.triples.Goals as goal

pub loop-i-init : goal.loop-i-init
loop-i-init c = tripled-none _ _ _ _ _ c.told-gain c.requires.2

pub returns-in_err-word : goal.returns-in_err-word
returns-in_err-word c = let p = err_from_is_err_and c.from_residual.result c.from_residual.ensures.1 in rw (p.1, p.2) (tripled-past _ _ _ _ _ _ _ c.loop-i.invariant c.loop-i-test.true _ c.in_err-word.ensures)

pub returns-then-word-gt26 : goal.returns-then-word-gt26
returns-then-word-gt26 c = tripled-high _ _ _ _ _ _ _ c.loop-i.invariant c.loop-i-test.true _ c.in_ok-word.ensures c.if-word-gt26.true

pub loop-i-preserved : goal.loop-i-preserved
loop-i-preserved c = tripled-on _ _ _ _ _ _ _ c.loop-i.invariant c.loop-i-test.true _ c.in_ok-word.ensures c.if-word-gt26.false c.requires.0 _ _ _ (third-is _ (omega arith)) (third-is _ (omega arith)) (third-is _ (omega arith))

pub returns : goal.returns
returns c = tripled-end _ _ _ _ _ _ _ c.loop-i.invariant c.loop-i-test.false
