use Rattle.exponents.proofs.ExpLaws.{laid_by}
use Rattle.exponents.proofs.lay_in.Goals as goal

pub returns : goal.returns
returns g c = laid_by _ _ _ _ _ _ _ _ _ _ c.spread_in.ensures c.spread_in-2.ensures c.spread_in-3.ensures
