use native.Mathlib.Omega.{arith}
use Rattle.mantissas.specs.Tally.{spent_of}
use Rattle.mantissas.proofs.Groups.spent.Goals as goal

pub returns : goal.returns
unfolding spent_of
returns c = (rw (c.from.ensures, ← c.opened.ensures.0, ← c.opened-2.ensures.0, ← c.opened-3.ensures.0), omega arith)
