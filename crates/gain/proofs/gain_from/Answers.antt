-- `gain::gain_from` meets its contract: each arm is what `cond` picks. Assumes nothing.
use Rattle.std.proofs.Common.{ne_eqb}
use Rattle.gain.proofs.gain_from.Goals as goal

pub returns-then-r-eq0 : goal.returns-then-r-eq0
returns-then-r-eq0 c = rw c.if-r-eq0.true

pub returns : goal.returns
returns c = rw (ne_eqb _ _ c.if-r-eq0.false)
