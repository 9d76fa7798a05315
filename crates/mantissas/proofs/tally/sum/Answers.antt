use Rattle.mantissas.proofs.TallyLaws.{sum-end, sum-on, sum_fits}
use Rattle.mantissas.proofs.tally.sum.Goals as goal

pub overflow_add-x : goal.overflow_add-x
overflow_add-x c = record { fits = sum_fits _ _ c.args.shares.now c.requires.0 _ _ _ _ c.requires.3 c.loop-i.invariant c.loop-i-test.true _ (rw (c.from-in-loop-i.ensures, c.from-base.ensures, c.from.ensures)) (rw c.from-in-loop-i.ensures (c.type_inv.baps _).fits) }

pub loop-i-preserved : goal.loop-i-preserved
loop-i-preserved c = sum-on _ _ c.args.shares.now c.requires.0 _ _ _ _ c.requires.3 c.loop-i.invariant c.loop-i-test.true _ (rw (c.from-in-loop-i.ensures, c.from-base.ensures, c.from.ensures)) (rw c.from-in-loop-i.ensures (c.type_inv.baps _).fits)

pub returns : goal.returns
returns c = sum-end _ _ _ _ _ _ c.loop-i.invariant c.loop-i-test.false
