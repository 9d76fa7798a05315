use native.Mathlib.Omega.{arith}
use mathlib.Core.Bool.{false, not, ◌&&◌}
use mathlib.Core.Path.{◌≡◌, refl, sym, ◌∙◌}
use Rattle.std.proofs.lemmas.Result.{err_from_is_err_and}
use Rattle.plan.proofs.VisitLaws.{channel-off, alone-on, coupling-off, coupling-on, lfe-none, lfe-off, lfe-on, slots-all}
use Rattle.plan.proofs.mantissas.Goals as goal
use Rattle.plan.proofs.mantissas.Goals.{then-coupled+then-not-got+in_ok-visit-2, else-coupled, else-coupled-via-then-coupled+else-not-got, else-coupled-via-else-coupled, then-shape+in_ok-visit-3, else-shape}

pub returns-in_err-visit : goal.returns-in_err-visit
returns-in_err-visit c =
    let p = err_from_is_err_and c.from_residual.result c.from_residual.ensures.1 in
    rw (p.1, p.2) (channel-off _ _ _ _ _ _ _ _ _ c.loop-ch-test.true _ refl c.in_err-visit.field-0.0 c.in_err-visit.ensures.0 ∙ sym c.loop-ch.invariant.1 ∙ slots-all _ _ _ _ _ _ c.min-n.ensures)

pub returns-in_err-visit-2 : goal.returns-in_err-visit-2
returns-in_err-visit-2 c =
    let p = err_from_is_err_and c.from_residual-in_err-visit-2.result c.from_residual-in_err-visit-2.ensures.1 in
    rw (p.1, p.2) (coupling-off _ _ _ _ _ _ _ _ _ c.loop-ch-test.true _ c.coupled.ensures _ _ c.in_ok-visit.ensures.0 c.if-coupled.true c.if-not-got.true c.in_err-visit-2.field-0.0 c.in_err-visit-2.ensures.0 ∙ sym c.loop-ch.invariant.1 ∙ slots-all _ _ _ _ _ _ c.min-n.ensures)

pub loop-ch-preserved : goal.loop-ch-preserved
loop-ch-preserved c =
    elim c.if-coupled.branch [
      | then-coupled+then-not-got+in_ok-visit-2 w ↦ rw (w.t-is, w.got-is) (omega (arith, c.in_ok-visit.ensures.1, w.in_ok-visit-2.ensures.1), c.loop-ch.invariant.1 ∙ coupling-on _ _ _ _ _ _ _ _ _ c.loop-ch-test.true _ c.coupled.ensures _ _ c.in_ok-visit.ensures.0 w.if-coupled.true w.if-not-got.true _ _ w.in_ok-visit-2.ensures.0)
      | else-coupled w ↦
          let alone : c.coupled.result && not c.loop-ch.got ≡ false = elim w.else-coupled.branch [ else-coupled-via-then-coupled+else-not-got w' ↦ rw (w'.if-coupled.true, w'.if-not-got.false) | else-coupled-via-else-coupled w' ↦ rw w'.if-coupled.false ] in
          rw (w.t-is, w.got-is) (omega (arith, c.in_ok-visit.ensures.1), c.loop-ch.invariant.1 ∙ alone-on _ _ _ _ _ _ _ _ _ c.loop-ch-test.true _ c.coupled.ensures _ _ c.in_ok-visit.ensures.0 alone)
    ]

pub returns-in_err-visit-3 : goal.returns-in_err-visit-3
returns-in_err-visit-3 c =
    let p = err_from_is_err_and c.from_residual-in_err-visit-3.result c.from_residual-in_err-visit-3.ensures.1 in
    rw (p.1, p.2) (lfe-off _ _ _ _ _ _ _ _ _ c.loop-ch-test.false c.if-shape.true c.in_err-visit-3.field-0.0 c.in_err-visit-3.ensures.0 ∙ sym c.loop-ch.invariant.1 ∙ slots-all _ _ _ _ _ _ c.min-n.ensures)

pub returns : goal.returns
returns c =
    elim c.if-shape.branch [
      | then-shape+in_ok-visit-3 w ↦ rw w.t-is (lfe-on _ _ _ _ _ _ _ _ _ c.loop-ch-test.false w.if-shape.true _ _ w.in_ok-visit-3.ensures.0 ∙ sym c.loop-ch.invariant.1 ∙ slots-all _ _ _ _ _ _ c.min-n.ensures)
      | else-shape w ↦ rw w.t-is (lfe-none _ _ _ _ _ _ _ _ _ c.loop-ch-test.false w.if-shape.false ∙ sym c.loop-ch.invariant.1 ∙ slots-all _ _ _ _ _ _ c.min-n.ensures)
    ]
