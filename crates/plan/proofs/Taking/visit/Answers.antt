use native.Mathlib.Omega.{arith}
use Rattle.skim.proofs.SkimLaws.{handed_on}
use Rattle.plan.proofs.VisitLaws.{visit-read, aht-on, aht-off, conventional-on, conventional-off}
use Rattle.plan.proofs.Taking.visit.Goals as goal

pub returns-then-read : goal.returns-then-read
returns-then-read c = (visit-read _ _ _ _ _ _ _ _ c.read.ensures c.if-read.true, omega arith)

pub returns-in_err-t : goal.returns-in_err-t
returns-in_err-t c = handed_on _ _ _ c.in_err-t.field-0.0 _ c.from_residual.ensures.1 (aht-off _ _ _ _ _ _ _ _ c.read.ensures c.if-read.false _ c.range_at-range.ensures.0 _ c.hybrid.ensures 0 c.if-hybrid.true c.in_err-t.field-0.0 c.in_err-t.ensures.0)

pub returns-then-hybrid : goal.returns-then-hybrid
returns-then-hybrid c = rw c.from.ensures (aht-on _ _ _ _ _ _ _ _ c.read.ensures c.if-read.false _ c.range_at-range.ensures.0 _ c.hybrid.ensures _ c.if-hybrid.true _ _ c.in_ok-t.ensures.0 c.in_ok-t.ensures.1.1, omega (arith, c.in_ok-t.ensures.1.0))

pub returns-in_err-p : goal.returns-in_err-p
returns-in_err-p c = handed_on _ _ _ c.in_err-p.field-0.0 _ c.from_residual-in_err-p.ensures.1 (conventional-off _ _ _ _ _ _ _ _ c.read.ensures c.if-read.false _ c.range_at-range.ensures.0 _ c.hybrid.ensures 0 c.if-hybrid.false c.in_err-p.field-0.0 (c.in_err-p.ensures.0 _))

pub returns : goal.returns
returns c = rw c.from-2.ensures (conventional-on _ _ _ _ _ _ _ _ c.read.ensures c.if-read.false _ c.range_at-range.ensures.0 _ c.hybrid.ensures _ c.if-hybrid.false _ _ (c.in_ok-p.ensures.0 _) c.in_ok-p.ensures.1, omega arith)
