use native.Mathlib.Omega.{arith}
use Rattle.exponents.proofs.ExpLaws.{spread-next, spread-end, put-length}
use mathlib.Core.Path.{ap, ◌∙◌}
use lib.ListN.{length}
use Rattle.exponents.proofs.spread.Goals as goal

pub loop-k-preserved : goal.loop-k-preserved
loop-k-preserved g c = record {
  left = spread-next _ _ _ _ _ _ _ _ _ c.loop-k.invariant.left c.put.ensures (omega arith) (omega arith);
  size = ap length c.put.ensures ∙ put-length _ _ _ _ ∙ c.loop-k.invariant.size;
}

pub returns : goal.returns
returns g c = spread-end _ _ _ _ _ _ c.loop-k.invariant.left (omega arith)
