use Rattle.std.proofs.Common.{refl, sym, ◌∙◌, arith}
use Rattle.mantissas.proofs.TallyLaws.{shares-small}
use Rattle.allocation.proofs.MemoLaws.{said-some, said-kept, points-next, points-done}
use Rattle.allocation.proofs.point_slots.Goals as goal
use Rattle.allocation.proofs.point_slots.Goals.{then-not-kept, else-not-kept}

pub invariant_of-tables : goal.invariant_of-tables
invariant_of-tables c = record {
  log = c.log_add-latab.ensures;
  bins = c.masktab-masktab.ensures;
  bounds = c.band_end-ends.ensures;
  heard = c.hearing-hth.ensures;
  pointed = c.pointers-points.ensures;
  share_most = rw c.shares-shares.ensures shares-small;
}

pub loop-slot-init : goal.loop-slot-init
loop-slot-init c = record { points = refl; memo = c.requires.1 }

pub kept-requires : goal.kept-requires
kept-requires c = (c.loop-slot.invariant.memo.tallies.size, c.loop-slot-test.true)

pub renew-requires : goal.renew-requires
renew-requires c =
    let s = c.source_of-s.ensures in
    record {
      lent = c.shares-shares.ensures;
      held = (c.requires.0, c.loop-slot.invariant.memo, c.loop-slot-test.true);
      p_value = (rw s.common c.params_in-p.ensures, rw s.common c.requires.3);
    }

pub loop-slot-preserved : goal.loop-slot-preserved
loop-slot-preserved c =
    let h = c.loop-slot-test.true in
    let inv = c.loop-slot.invariant in
    let s = c.source_of-s.ensures in
    let k = c.kept.ensures in
    elim c.if-not-kept.branch [
      | then-not-kept w ↦ record {
        points = inv.points ∙ points-next _ _ _ _ _ _ _ _ h _ (said-some _ _ _ _ _ _ _ _ _ s (k.asked w.if-not-kept.true) ∙ sym (w.baps-is ∙ w.renew.ensures.0));
        memo = rw (w.baps-is, w.memo-is) w.renew.ensures.1;
      }
      | else-not-kept w ↦ record {
        points = inv.points ∙ points-next _ _ _ _ _ _ _ _ h _ (said-kept _ _ _ _ _ _ _ _ _ s h _ _ k w.if-not-kept.false inv.memo ∙ sym w.baps-is);
        memo = rw (w.baps-is, w.memo-is) inv.memo;
      }
    ]

pub returns : goal.returns
returns c = (sym (c.loop-slot.invariant.points ∙ points-done _ _ _ _ _ _ _ _ (omega arith)), c.loop-slot.invariant.memo)
