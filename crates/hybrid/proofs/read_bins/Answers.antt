use native.Mathlib.Omega.{arith}
use mathlib.Core.Bool.{cond}
use mathlib.Core.Path.{◌≡◌, sym, ◌∙◌}
use lib.ListN.{get_or}
use Rattle.std.proofs.lemmas.Result.{err_from_is_err_and}
use Rattle.hybrid.proofs.HybridLaws.{gain-is, next-is, one-more, bins-end, bins-off, bins-on}
use Rattle.hybrid.proofs.read_bins.Goals as goal
use Rattle.hybrid.proofs.read_bins.Goals.{then-is_active, else-is_active}

pub returns-in_err-t : goal.returns-in_err-t
returns-in_err-t c =
    let g : c.if-is_active.bin ≡ cond c.active-is_active.result (get_or c.args.gain.now c.loop-i.k 0) 1 = elim c.if-is_active.branch [ then-is_active w ↦ rw w.if-is_active.true w.bin-is | else-is_active w ↦ rw w.if-is_active.false w.bin-is ] in
    let p = err_from_is_err_and c.from_residual.result c.from_residual.ensures.1 in
    rw (p.1, p.2) (λ gains w. bins-off _ _ _ gains _ _ _ _ _ _ _ c.loop-i-test.true _ (rw (c.from-base.ensures, c.from.ensures)) _ (gain-is c.args.gain.now gains w _ (omega arith) _ _ _ c.active-is_active.ensures _ g) c.in_err-t.field-0.0 c.in_err-t.ensures.0 ∙ sym (c.loop-i.invariant.3 gains w), tt)

pub loop-i-preserved : goal.loop-i-preserved
loop-i-preserved c =
    let g : c.if-is_active.bin ≡ cond c.active-is_active.result (get_or c.args.gain.now c.loop-i.k 0) 1 = elim c.if-is_active.branch [ then-is_active w ↦ rw w.if-is_active.true w.bin-is | else-is_active w ↦ rw w.if-is_active.false w.bin-is ] in
    rw c.from-in-loop-i.ensures (omega (arith, one-more c.active-is_active.result), omega (arith, c.in_ok-t.ensures.1), omega (arith, c.in_ok-t.ensures.1), λ gains w. c.loop-i.invariant.3 gains w ∙ bins-on _ _ _ gains _ _ _ _ _ _ _ c.loop-i-test.true _ (rw (c.from-base.ensures, c.from.ensures)) _ (gain-is c.args.gain.now gains w _ (omega arith) _ _ _ c.active-is_active.ensures _ g) _ c.in_ok-t.ensures.0 _ (next-is _ _ _ _ c.active-is_active.ensures))

pub returns : goal.returns
returns c = (λ gains w. bins-end _ _ _ gains _ _ _ _ _ _ _ c.loop-i-test.false ∙ sym (c.loop-i.invariant.3 gains w), omega arith)
