use native.Mathlib.Omega.{arith}
use Rattle.eac3.proofs.Calls.{full-called}
use Rattle.eac3.proofs.parse.Goals as goal

pub returns : goal.returns
returns c = full-called _ _ _ _ _ c.read.ensures (omega arith)
