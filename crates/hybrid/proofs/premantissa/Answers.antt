use native.Mathlib.Omega.{arith}
use Rattle.skim.proofs.SkimLaws.{handed_on}
use Rattle.hybrid.proofs.HybridLaws.{plain-past, plain-on, small-past, small-on, large-past, large-on}
use Rattle.hybrid.proofs.premantissa.Goals as goal

pub returns-in_err-seen : goal.returns-in_err-seen
returns-in_err-seen c = handed_on _ _ _ c.in_err-seen.field-0.0 _ c.from_residual.ensures.1 (plain-past _ _ _ _ _ c.if-gain-eq1.true _ c.in_err-seen.ensures)

pub returns-then-gain-eq1 : goal.returns-then-gain-eq1
returns-then-gain-eq1 c = (plain-on _ _ _ _ _ c.if-gain-eq1.true _ c.in_ok-seen.ensures, omega arith)

pub returns-in_err-first : goal.returns-in_err-first
returns-in_err-first c = handed_on _ _ _ c.in_err-first.field-0.0 _ c.from_residual-in_err-first.ensures.1 (small-past _ _ _ _ _ c.if-gain-eq1.false _ c.small-bits.ensures.0 _ c.in_err-first.ensures)

pub returns-then-first-tag : goal.returns-then-first-tag
returns-then-first-tag c = (small-on _ _ _ _ _ c.if-gain-eq1.false _ c.small-bits.ensures.0 _ c.in_ok-first.ensures _ c.tag.ensures c.if-first-tag.true, omega arith)

pub returns-in_err-second : goal.returns-in_err-second
returns-in_err-second c = handed_on _ _ _ c.in_err-second.field-0.0 _ c.from_residual-in_err-second.ensures.1 (large-past _ _ _ _ _ c.if-gain-eq1.false _ c.small-bits.ensures.0 _ c.in_ok-first.ensures _ c.tag.ensures c.if-first-tag.false _ c.large.ensures.0 _ c.in_err-second.ensures)

pub returns : goal.returns
returns c = (large-on _ _ _ _ _ c.if-gain-eq1.false _ c.small-bits.ensures.0 _ c.in_ok-first.ensures _ c.tag.ensures c.if-first-tag.false _ c.large.ensures.0 _ c.in_ok-second.ensures, omega arith)
