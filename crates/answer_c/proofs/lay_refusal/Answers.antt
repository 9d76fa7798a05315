use Rattle.std.proofs.Common.{replicate, refl, sym, ap, ◌∙◌, arith, length-drop, length-take, length-set}
use Rattle.std.proofs.lemmas.Slice.{put_mid-paste}
use Rattle.answer_c.specs.Parts.{refusal_laid}
use Rattle.answer_c.proofs.Laying.{written-pasted}
use Rattle.answer_c.proofs.lay_refusal.Goals as goal

pub returns : goal.returns
unfolding refusal_laid
returns c =
    put_mid-paste 3 73 _ _ (replicate 73 0) 73 (c.fill.ensures.after (λ y e. e) ∙ ap (λ n. replicate n 0) {y = 73} (simp (length-take, length-drop, length-set) (omega arith))) refl refl
    ∙ sym (written-pasted _ 3 (replicate 73 0) 73 (simp length-set (omega arith)) (omega arith))
