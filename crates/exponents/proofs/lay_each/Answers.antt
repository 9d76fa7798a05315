use Rattle.exponents.proofs.ExpLaws.{laid_by}
use Rattle.exponents.proofs.lay_each.Goals as goal

pub returns : goal.returns
returns g c = laid_by _ _ _ _ _ _ _ _ _ _ c.spread.ensures c.spread-2.ensures c.spread-3.ensures
