use Rattle.std.proofs.Common.{ap, ◌∙◌}
use Rattle.answer_c.specs.Numbers.{written, laid}
use Rattle.answer_c.proofs.lay.Goals as goal

pub returns : goal.returns
unfolding laid
returns c = c.lay_from.ensures ∙ ap (written _ 3 _) c.told-frame
