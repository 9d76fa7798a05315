use native.Mathlib.Omega.{arith}
use lib.ListN.{length-set}
use mathlib.Core.Path.{◌∙◌}
use Rattle.exponents.proofs.ExpLaws.{spread-next, spread-end, put_in}
use Rattle.exponents.proofs.spread_in.Goals as goal

pub loop-k-preserved : goal.loop-k-preserved
loop-k-preserved g c = record {
  left = spread-next _ _ _ _ _ _ _ _ _ c.loop-k.invariant.left (put_in _ _ _ _ _ c.requires.1 (omega arith) (omega arith)) (omega arith) (omega arith);
  size = length-set _ _ _ ∙ c.loop-k.invariant.size;
}

pub returns : goal.returns
returns g c = spread-end _ _ _ _ _ _ c.loop-k.invariant.left (omega arith)
