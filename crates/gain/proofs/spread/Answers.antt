-- `gain::spread` meets its contract: 1.0 is the f64 of 1, and each factor is that of its word. Assumes nothing.
use lib.Ieee.{of_bits, round}
use Rattle.std.proofs.Common.{ne_eqb}
use Rattle.gain.specs.Factor.{to_f64}
use Rattle.gain.proofs.spread.Goals as goal

pub returns-then-e-eq0 : goal.returns-then-e-eq0
unfolding of_bits to_f64 round
returns-then-e-eq0 c = rw c.if-e-eq0.true

pub returns : goal.returns
returns c =
    let low = c.factor.ensures.nearest in
    let high = c.factor-2.ensures.nearest in
    rw (ne_eqb _ _ c.if-e-eq0.false) (cc (low, high, c.turned.ensures, c.turned-2.ensures))
