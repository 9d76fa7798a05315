use Rattle.std.proofs.Common.{sym, arith}
use Rattle.exponents.proofs.ExpLaws.{decode-low}
use Rattle.blocks_c.proofs.blocks_decode.Goals as goal

pub overflow_mul-result-in-Ok : goal.overflow_mul-result-in-Ok
overflow_mul-result-in-Ok c = omega (arith, decode-low _ _ _ _ _ (sym c.in-Ok.ensures))

pub overflow_add-result : goal.overflow_add-result
overflow_add-result c = omega (arith, decode-low _ _ _ _ _ (sym c.in-Ok.ensures))

pub overflow_mul-result-in-Ok-2 : goal.overflow_mul-result-in-Ok-2
overflow_mul-result-in-Ok-2 c = omega (arith, decode-low _ _ _ _ _ (sym c.in-Ok.ensures))

pub overflow_add-result-in-Ok : goal.overflow_add-result-in-Ok
overflow_add-result-in-Ok c = omega (arith, decode-low _ _ _ _ _ (sym c.in-Ok.ensures))
