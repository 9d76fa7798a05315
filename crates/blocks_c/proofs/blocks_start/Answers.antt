use native.Mathlib.Omega.{arith}
use Rattle.exponents.proofs.ExpLaws.{start-low}
use Rattle.blocks_c.proofs.blocks_start.Goals as goal

pub overflow_cast-result : goal.overflow_cast-result
overflow_cast-result c = omega (arith, c.start_of.ensures, start-low c.args.slot c.args.absexp c.requires)
