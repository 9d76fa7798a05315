use Rattle.std.proofs.Common.{refl, ◌∙◌, length-set}
use Rattle.answer_c.specs.Numbers.{written}
use Rattle.answer_c.proofs.Laying.{written-more}
use Rattle.answer_c.proofs.lay_from.Goals as goal

pub loop-i-init : goal.loop-i-init
unfolding written
loop-i-init c = (refl, refl)

pub loop-i-preserved : goal.loop-i-preserved
loop-i-preserved c = (written-more _ _ _ _ _ _ c.loop-i.invariant.0 c.from.ensures, length-set _ _ _ ∙ c.loop-i.invariant.1)
