use native.Mathlib.Omega.{arith}
use mathlib.Core.Path.{refl}
use Rattle.annex.specs.Frame.{eac3}
use Rattle.syntax.proofs.Returned.{returned}
use Rattle.opening.proofs.Openings.{good-bsid, other-bsid, word-refused, bsid-refused, refuses-one, opened-short, opened-on, opened-full, opened-refused}
use Rattle.opening.proofs.begin.Goals as goal

pub returns-then-src-lt6-clause-opened : goal.returns-then-src-lt6-clause-opened
returns-then-src-lt6-clause-opened c = opened-short _ _ _ (omega arith) c.stop.ensures

pub returns-then-begins-clause-opened : goal.returns-then-begins-clause-opened
unfolding eac3
returns-then-begins-clause-opened c = opened-on _ _ _ (record { long = omega (arith, c.if-src-lt6.false); good = good-bsid _ c.bits_at-word.result _ c.begins.ensures c.if-begins.true })

pub returns-in_err-cur-clause-opened : goal.returns-in_err-cur-clause-opened
unfolding eac3
returns-in_err-cur-clause-opened c = rw (returned _ _ c.from_residual.ensures.1) (opened-full _ _ _ c.bits_at-word.ensures _ (omega (arith, c.if-src-lt6.false)) _ c.keep.ensures.kept (refuses-one _ _ _ c.bits_at-word.ensures _ refl _ c.begins.ensures c.if-begins.false) _ c.in_err-cur.was)

pub returns-then-word-eq-SYNC-clause-opened : goal.returns-then-word-eq-SYNC-clause-opened
unfolding eac3
returns-then-word-eq-SYNC-clause-opened c = opened-refused _ _ _ c.bits_at-word.ensures _ (omega (arith, c.if-src-lt6.false)) _ c.keep.ensures.kept _ 45 (bsid-refused _ _ _ c.bits_at-word.ensures c.if-word-eq-SYNC.true (other-bsid _ _ _ c.begins.ensures c.if-begins.false c.if-word-eq-SYNC.true)) _ c.in_ok-cur.was

pub returns-clause-opened : goal.returns-clause-opened
unfolding eac3
returns-clause-opened c = opened-refused _ _ _ c.bits_at-word.ensures _ (omega (arith, c.if-src-lt6.false)) _ c.keep.ensures.kept _ 16 (word-refused _ _ _ c.bits_at-word.ensures c.if-word-eq-SYNC.false) _ c.in_ok-cur.was
