-- `gain::turned` meets its contract. The file is here so that a wrong turn is refused at this fact, and not at its callers. Assumes nothing.
use Rattle.std.proofs.Common.{arith}
use Rattle.gain.proofs.turned.Goals as goal

pub returns : goal.returns
returns c = omega arith
