use mathlib.Core.Bool.{cond}
use mathlib.Core.Path.{◌≡◌}
use Prim.Native.Nat.{◌+◌, ◌-◌, ◌%◌}
use native.Mathlib.Omega.{arith}
use borrow.Author.Tests.{eq-eqb, ne_eqb}
use lib.Dec.{eqb}
use Rattle.mantissas.proofs.TallyLaws.{opened-is, opened-low}
use Rattle.mantissas.proofs.tally.opened.Goals as goal
use Rattle.mantissas.proofs.tally.opened.Goals.{then-count-eq0, else-count-eq0}

pub returns : goal.returns
returns g c =
    let a = c.args in
    let size = g.row.SIZE in
    let e : c.if-count-eq0.ahead ≡ cond (eqb a.count 0) a.n (a.n + a.count % size - size) = elim c.if-count-eq0.branch [
      | then-count-eq0 w ↦ rw (w.ahead-is, eq-eqb _ _ w.if-count-eq0.true) w.from-ahead.ensures
      | else-count-eq0 w ↦ rw (w.ahead-is, ne_eqb _ _ w.if-count-eq0.false, w.saturating_sub-ahead.ensures, w.from.ensures, w.from-else-count-eq0.ensures, c.from-size.ensures)
    ] in
    rw c.from-size.ensures (opened-is _ _ _ _ c.requires.0 c.requires.1 e, opened-low _ a.count a.n _ c.requires.0 c.requires.1 e (omega arith))
