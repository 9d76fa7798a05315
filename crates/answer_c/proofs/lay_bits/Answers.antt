use Rattle.std.proofs.Common.{refl, ◌∙◌, arith}
use Rattle.answer_c.specs.Numbers.{bits_laid}
use Rattle.answer_c.proofs.Laying.{bits-more}
use Rattle.answer_c.proofs.lay_bits.Goals as goal

pub loop-block-init : goal.loop-block-init
unfolding bits_laid
loop-block-init c = (refl, refl)

pub loop-block-preserved : goal.loop-block-preserved
loop-block-preserved c = (bits-more _ _ _ _ _ _ c.loop-block.invariant.0 c.lay_from.ensures (omega arith), c.lay_from.auto.out ∙ c.loop-block.invariant.1)
