use mathlib.Core.Path.{refl, ap, ◌∙◌}
use native.Mathlib.Omega.{arith}
use Rattle.syntax.proofs.Returned.{returned}
use Rattle.syntax.proofs.Slices.{same-trans}
use Rattle.rows.proofs.StepLaws.{skip_by, stop-none, deal-derive}
use Rattle.walk.proofs.Walks.{stand-end, stand-ready, stand-opens, turns-on, turns-off, turns-end, rows_none, rows-one, one-off, rows-gather, gather-off, rows-when, rows-deal, deal-off, loop-within, loop-stand, rows-each, each-off, weigh-next, weigh-skip, weigh-past, weigh-more, shorter}
use Rattle.walk.proofs.+each.Goals as goal

pub loop-pc-smaller-then-holds : goal.loop-pc-smaller-then-holds
loop-pc-smaller-then-holds t c = weigh-next _ _ _ c.loop-pc-test.true

pub loop-pc-preserved-then-holds : goal.loop-pc-preserved-then-holds
loop-pc-preserved-then-holds t c = (
  rows-when _ _ _ _ _ _ _ _ _ _ _ _ _ _ _ _ _ c.loop-pc.invariant.0 c.loop-pc-test.true _ refl (omega (arith, c.if-kind-eq4.true)) c.if-kind-eq4.true 0 ((skip_by _ _ _ c.holds.ensures).0 c.if-holds.true) _ c.requires.stands,
  c.loop-pc.invariant.1,
)

pub loop-pc-smaller-else-holds : goal.loop-pc-smaller-else-holds
loop-pc-smaller-else-holds t c = weigh-skip _ _ _ c.loop-pc-test.true _

pub loop-pc-preserved-else-holds : goal.loop-pc-preserved-else-holds
loop-pc-preserved-else-holds t c = (
  rows-when _ _ _ _ _ _ _ _ _ _ _ _ _ _ _ _ _ c.loop-pc.invariant.0 c.loop-pc-test.true _ refl (omega (arith, c.if-kind-eq4.true)) c.if-kind-eq4.true _ (c.rows_of.ensures.0 ∙ (skip_by _ _ _ c.holds.ensures).1 c.if-holds.false) _ c.requires.stands,
  c.loop-pc.invariant.1,
)

pub loop-pc-smaller-then-more-eq0 : goal.loop-pc-smaller-then-more-eq0
loop-pc-smaller-then-more-eq0 t c = weigh-next _ _ _ c.loop-pc-test.true

pub loop-pc-preserved-then-more-eq0 : goal.loop-pc-preserved-then-more-eq0
loop-pc-preserved-then-more-eq0 t c = (
  rows_none _ _ _ _ _ _ _ _ _ _ _ _ _ _ _ _ _ c.loop-pc.invariant.0 c.loop-pc-test.true _ refl c.if-kind-lt4.true _ _ c.last_of-last.ensures c.more_of-more.ensures c.if-more-eq0.true,
  c.loop-pc.invariant.1,
)

pub take-requires : goal.take-requires
take-requires t c = (stand-ready c.requires _ c.loop-pc-test.true _ refl, c.if-kind-lt4.true)

pub returns-in_err-cur-clause-turned : goal.returns-in_err-cur-clause-turned
returns-in_err-cur-clause-turned t c = rw (returned _ _ c.from_residual.ensures.1) (turns-off _ _ _ _ _ _ _ _ _ _ _ _ _ _ _ _ _ _ c.loop-j.invariant.0 c.loop-j-test.true _ c.put.ensures _ _ _ _ c.loop-pc.invariant.0.right (one-off _ _ _ _ _ _ _ _ _ _ _ _ _ _ _ _ _ c.loop-pc.invariant.0 c.loop-pc-test.true _ refl c.if-kind-lt4.true _ _ c.last_of-last.ensures c.more_of-more.ensures c.if-more-eq0.false _ c.mark.ensures _ _ _ c.take.ensures.taken _ c.in_err-cur.was))

pub loop-pc-smaller-else-more-eq0 : goal.loop-pc-smaller-else-more-eq0
loop-pc-smaller-else-more-eq0 t c = weigh-more _ _ _ c.more_of-more.result _ _ _ c.loop-pc-test.true c.if-more-eq0.false c.more_of-more.ensures refl c.onward-pc.ensures (omega arith)

pub loop-pc-preserved-else-more-eq0 : goal.loop-pc-preserved-else-more-eq0
loop-pc-preserved-else-more-eq0 t c = (
  rows-one _ _ _ _ _ _ _ _ _ _ _ _ _ _ _ _ _ c.loop-pc.invariant.0 c.loop-pc-test.true _ refl c.if-kind-lt4.true _ _ c.last_of-last.ensures c.more_of-more.ensures c.if-more-eq0.false _ c.mark.ensures _ _ _ c.take.ensures.taken _ c.in_ok-cur.was _ refl _ c.onward-pc.ensures,
  same-trans c.loop-pc.invariant.1 c.take.ensures.same,
)

pub gather-requires : goal.gather-requires
gather-requires t c = stand-opens c.requires _ _ c.loop-pc.invariant.0.right _ c.if-kind-lt4.false

pub returns-in_err-cur-2-clause-turned : goal.returns-in_err-cur-2-clause-turned
returns-in_err-cur-2-clause-turned t c = rw (returned _ _ c.from_residual-in_err-cur-2.ensures.1) (turns-off _ _ _ _ _ _ _ _ _ _ _ _ _ _ _ _ _ _ c.loop-j.invariant.0 c.loop-j-test.true _ c.put.ensures _ _ _ _ c.gather.ensures.gathered.right (gather-off _ _ _ _ _ _ _ _ _ _ _ _ _ _ _ _ _ c.loop-pc.invariant.0 c.loop-pc-test.true _ refl c.if-kind-lt4.false c.if-kind-lt8.true _ _ _ _ c.gather.ensures.gathered _ c.in_err-cur-2.was))

pub loop-pc-smaller-then-kind-lt8 : goal.loop-pc-smaller-then-kind-lt8
loop-pc-smaller-then-kind-lt8 t c = weigh-next _ _ _ c.loop-pc-test.true

pub loop-pc-preserved-then-kind-lt8 : goal.loop-pc-preserved-then-kind-lt8
loop-pc-preserved-then-kind-lt8 t c = (
  rows-gather _ _ _ _ _ _ _ _ _ _ _ _ _ _ _ _ _ c.loop-pc.invariant.0 c.loop-pc-test.true _ refl c.if-kind-lt4.false c.if-kind-lt8.true _ _ _ _ c.gather.ensures.gathered _ c.in_ok-cur-2.was,
  same-trans c.loop-pc.invariant.1 c.gather.ensures.same,
)

pub derive-requires : goal.derive-requires
derive-requires t c = (c.loop-pc.invariant.0.right.held, c.loop-pc.invariant.0.right.memo)

pub returns-in-Err-clause-turned : goal.returns-in-Err-clause-turned
returns-in-Err-clause-turned t c = turns-off _ _ _ _ _ _ _ _ _ _ _ _ _ _ _ _ _ _ c.loop-j.invariant.0 c.loop-j-test.true _ c.put.ensures _ _ _ _ (record { held = c.loop-pc.invariant.0.right.held; memo = c.in-Err.ensures.right }) (rw c.stop.ensures (deal-off _ _ _ _ _ _ _ _ _ _ _ _ _ _ _ _ _ c.loop-pc.invariant.0 c.loop-pc-test.true _ refl c.if-kind-lt4.false _ _ _ (deal-derive _ _ _ _ c.if-kind-eq12.true _ _ c.in-Err.ensures.is) (record { held = c.loop-pc.invariant.0.right.held; memo = c.in-Err.ensures.right }) (λ e. omega (arith, e, c.in-Err.ensures.numbered)) _ (stop-none _ _ _ (λ e. omega (arith, c.if-kind-eq12.true)))))

pub loop-pc-smaller-then-kind-eq12 : goal.loop-pc-smaller-then-kind-eq12
loop-pc-smaller-then-kind-eq12 t c = weigh-next _ _ _ c.loop-pc-test.true

pub loop-pc-preserved-then-kind-eq12 : goal.loop-pc-preserved-then-kind-eq12
loop-pc-preserved-then-kind-eq12 t c = (
  rows-deal _ _ _ _ _ _ _ _ _ _ _ _ _ _ _ _ _ c.loop-pc.invariant.0 c.loop-pc-test.true _ refl c.if-kind-lt4.false _ _ _ (deal-derive _ _ _ _ c.if-kind-eq12.true _ _ c.in_default.ensures.is) (record { held = c.loop-pc.invariant.0.right.held; memo = c.in_default.ensures.right }) refl,
  c.loop-pc.invariant.1,
)

pub deal-requires : goal.deal-requires
deal-requires t c = (omega (arith, c.if-kind-eq4.false, c.if-kind-lt8.false, c.if-kind-lt14.true), c.if-kind-lt14.true, c.if-kind-eq12.false)

pub returns-in-Err-deal-clause-turned : goal.returns-in-Err-deal-clause-turned
returns-in-Err-deal-clause-turned t c = turns-off _ _ _ _ _ _ _ _ _ _ _ _ _ _ _ _ _ _ c.loop-j.invariant.0 c.loop-j-test.true _ c.put.ensures _ _ _ _ c.loop-pc.invariant.0.right (deal-off _ _ _ _ _ _ _ _ _ _ _ _ _ _ _ _ _ c.loop-pc.invariant.0 c.loop-pc-test.true _ refl c.if-kind-lt4.false _ _ _ (c.in-Err-deal.ensures.dealt _) c.loop-pc.invariant.0.right c.in-Err-deal.ensures.refused _ c.stop_at.ensures)

pub loop-pc-smaller-then-kind-lt14 : goal.loop-pc-smaller-then-kind-lt14
loop-pc-smaller-then-kind-lt14 t c = weigh-next _ _ _ c.loop-pc-test.true

pub loop-pc-preserved-then-kind-lt14 : goal.loop-pc-preserved-then-kind-lt14
loop-pc-preserved-then-kind-lt14 t c = (
  rows-deal _ _ _ _ _ _ _ _ _ _ _ _ _ _ _ _ _ c.loop-pc.invariant.0 c.loop-pc-test.true _ refl c.if-kind-lt4.false _ _ _ (c.in_default-deal.ensures.dealt _) c.loop-pc.invariant.0.right refl,
  c.loop-pc.invariant.1,
)

pub each-requires : goal.each-requires
each-requires t c = (shorter _ _ _ _ c.loop_of-l.result.rows c.decreases c.loop-pc.invariant.0.past (loop-within _ _ _ _ _ _ _ _ _ _ _ _ _ _ _ _ _ c.loop-pc.invariant.0 c.loop-pc-test.true _ refl c.if-kind-lt4.false c.if-kind-lt8.false c.if-kind-lt14.false c.loop_of-l.result c.loop_of-l.ensures.0 _ c.requires.stands), loop-stand _ _ _ _ _ _ _ _ _ _ _ _ _ _ _ _ _ c.loop-pc.invariant.0 c.loop-pc-test.true _ refl c.if-kind-lt4.false c.if-kind-lt8.false c.if-kind-lt14.false c.loop_of-l.result c.loop_of-l.ensures.0 _ _ c.requires)

pub returns-in_err-cur-3-clause-turned : goal.returns-in_err-cur-3-clause-turned
returns-in_err-cur-3-clause-turned t c = rw (returned _ _ c.from_residual-in_err-cur-3.ensures.1) (turns-off _ _ _ _ _ _ _ _ _ _ _ _ _ _ _ _ _ _ c.loop-j.invariant.0 c.loop-j-test.true _ c.put.ensures _ _ _ _ c.each.ensures.turned.right (each-off _ _ _ _ _ _ _ _ _ _ _ _ _ _ _ _ _ c.loop-pc.invariant.0 c.loop-pc-test.true _ refl c.if-kind-lt4.false c.if-kind-lt8.false c.if-kind-lt14.false c.loop_of-l.result c.loop_of-l.ensures.0 _ _ _ _ c.each.ensures.turned _ c.in_err-cur-3.was))

pub loop-pc-smaller : goal.loop-pc-smaller
loop-pc-smaller t c = weigh-past _ _ _ c.loop-pc-test.true _

pub loop-pc-preserved : goal.loop-pc-preserved
loop-pc-preserved t c = (
  rows-each _ _ _ _ _ _ _ _ _ _ _ _ _ _ _ _ _ c.loop-pc.invariant.0 c.loop-pc-test.true _ refl c.if-kind-lt4.false c.if-kind-lt8.false c.if-kind-lt14.false c.loop_of-l.result c.loop_of-l.ensures.0 _ _ _ _ c.each.ensures.turned _ c.in_ok-cur-3.was _ c.requires.stands,
  same-trans c.loop-pc.invariant.1 c.each.ensures.same,
)

pub loop-j-preserved : goal.loop-j-preserved
loop-j-preserved t c = (
  turns-on _ _ _ _ _ _ _ _ _ _ _ _ _ _ _ _ _ _ c.loop-j.invariant.0 c.loop-j-test.true _ c.put.ensures _ _ _ _ _ _ _ _ c.loop-pc.invariant.0 c.loop-pc-test.false,
  same-trans c.loop-j.invariant.1 c.loop-pc.invariant.1,
)

pub returns-clause-turned : goal.returns-clause-turned
returns-clause-turned t c = turns-end _ _ _ _ _ _ _ _ _ _ _ _ _ _ _ _ _ _ c.loop-j.invariant.0 (omega arith) _ refl refl
