use native.Mathlib.Omega.{arith}
use Rattle.skim.proofs.SkimLaws.{handed_on}
use Rattle.hybrid.proofs.HybridLaws.{vector-past, vector_on, scalar}
use Rattle.hybrid.proofs.bin.Goals as goal

pub returns-in_err-seen : goal.returns-in_err-seen
returns-in_err-seen c = handed_on _ _ _ c.in_err-seen.field-0.0 _ c.from_residual.ensures.1 (vector-past _ _ _ _ _ c.if-hebap-lt8.true _ c.vq_bits.ensures.0 _ c.in_err-seen.ensures)

pub returns-then-hebap-lt8 : goal.returns-then-hebap-lt8
returns-then-hebap-lt8 c = (vector_on _ _ _ _ _ c.if-hebap-lt8.true _ c.vq_bits.ensures.0 _ c.in_ok-seen.ensures, omega arith)

pub returns : goal.returns
returns c = (scalar _ _ _ _ _ c.if-hebap-lt8.false _ c.gaq_bits.ensures.0 _ c.premantissas.ensures.0, c.premantissas.ensures.1)
