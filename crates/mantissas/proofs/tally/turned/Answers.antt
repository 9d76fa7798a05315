use borrow.Author.Tests.{eq-eqb, ne_eqb}
use Rattle.mantissas.proofs.TallyLaws.{turned-is}
use Rattle.mantissas.proofs.tally.turned.Goals as goal

pub returns-then-n-eq0 : goal.returns-then-n-eq0
returns-then-n-eq0 g c = rw (turned-is _ _ _, eq-eqb _ _ c.if-n-eq0.true)

pub returns : goal.returns
returns g c = rw (turned-is _ _ _, ne_eqb _ _ c.if-n-eq0.false, c.from.ensures, c.from-2.ensures, c.from-3.ensures)
