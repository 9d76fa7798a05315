use Rattle.std.proofs.Common.{sym, ◌+◌, ◌∙◌, subst, arith}
use Rattle.gain.proofs.Named.{AllGoing, all_go, all_pass, all-ended}
use Rattle.gain.proofs.extents_in.Goals as goal
use Rattle.gain.proofs.extents_in.Goals.{then-gain_word, else-gain_word}

pub loop-i-preserved : goal.loop-i-preserved
loop-i-preserved c =
    let on = AllGoing c.args.names.now c.args.values.now (c.loop-i.i + 1) c.args.count in
    elim c.if-gain_word.branch [
      | then-gain_word w ↦ subst on (sym (w.e-is ∙ w.noted-e.ensures)) (all_go _ _ _ _ _ c.loop-i-test.true c.loop-i.invariant)
      | else-gain_word w ↦ subst on (sym w.e-is) (all_pass _ _ _ _ _ c.loop-i-test.true (sym c.gain_word.ensures ∙ w.if-gain_word.false) c.loop-i.invariant)
    ]

pub returns : goal.returns
returns c = all-ended _ _ _ _ _ (omega arith) c.loop-i.invariant
