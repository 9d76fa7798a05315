use mathlib.Core.Path.{◌≡◌, sym, ap, ◌∙◌}
use Prim.Native.Nat.{min}
use native.Mathlib.Omega.{arith}
use lib.ListN.{length}
use Rattle.word_items.specs.Items.{meant_to}
use Rattle.word_items.proofs.Folds.{meant-none, meant-miss, again, alone, placed}
use Rattle.word_items.proofs.place_of.Goals as goal
use Rattle.word_items.proofs.place_of.Goals.{then-is_meant+else-is_some, else-is_meant}

pub loop-t-init : goal.loop-t-init
loop-t-init c = (meant-none _ _ _ _, tt)

pub returns-then-is_some : goal.returns-then-is_some
returns-then-is_some c =
    again _ _ _ _ c.loop-t.place _ c.loop-t.t c.loop-t.invariant.0 (sym c.is_some.ensures ∙ c.if-is_some.true) (rw (← c.min-t-end.ensures) c.loop-t-test.true) (sym c.is_meant.ensures ∙ c.if-is_meant.true)

pub loop-t-preserved : goal.loop-t-preserved
loop-t-preserved c =
    elim c.if-is_meant.branch [
      | then-is_meant+else-is_some w ↦ alone _ _ _ _ c.loop-t.place c.loop-t.t c.loop-t.invariant.0 (sym w.is_some.ensures ∙ w.if-is_some.false) (sym c.is_meant.ensures ∙ w.if-is_meant.true) w.place-is
      | else-is_meant w ↦ rw w.place-is (meant-miss _ _ _ _ c.loop-t.t c.loop-t.invariant.0 (sym c.is_meant.ensures ∙ w.if-is_meant.false), c.loop-t.invariant.1)
    ]

pub returns : goal.returns
returns c =
    let i = c.loop-t.invariant in
    let e : c.loop-t.t ≡ min (length c.args.names.now) (length c.args.blocks.now) = omega (arith, c.min-t-end.ensures, c.loop-t-test.false, c.loop-t.auto.t-end) in
    c.ok_or.ensures.value ∙ placed _ _ _ _ c.loop-t.place _ (i.0 ∙ ap (meant_to _ _ _ _) e) i.1
