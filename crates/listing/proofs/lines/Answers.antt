use Rattle.std.proofs.Common.{add-one, ap, sym, ◌∷◌, [], ◌++◌, get_or, pos, w8, w16, to_z-of_z, rules, ◌∙◌, SFits}
use Rattle.print.proofs.Signs.{widened}
use Rattle.print.specs.Text.{signed_of}
use Rattle.print.proofs.Adds.{◌then◌, meant, nothing}
use Rattle.listing.specs.Listing.{lines_of}
use Rattle.listing.proofs.lines.Goals as goal

pub loop-i-init : goal.loop-i-init
unfolding lines_of
loop-i-init g c = nothing _ _ c.requires.text_in_bounds

pub loop-i-preserved : goal.loop-i-preserved
unfolding lines_of
loop-i-preserved g c =
    let b = get_or c.args.r.now.blocks c.loop-i.i (pos 0) in
    let x = get_or c.args.r.now.indexes c.loop-i.i (pos 0) in
    let f : SFits w8 b = search rules in
    let h : SFits w16 x = search rules in
    meant (sym (ap (lines_of c.args.r.now) (add-one c.loop-i.i)))
    (c.loop-i.invariant
    then (c.number.ensures then c.number-in-loop-i.ensures then c.name.ensures
    then meant (ap (λ z. signed_of z ++ (32 ∷ [])) (to_z-of_z (widened f) ∙ to_z-of_z f)) c.signed.ensures
    then meant (ap (λ z. signed_of z ++ (32 ∷ [])) (to_z-of_z h)) c.signed-in-loop-i.ensures
    then c.number-in-loop-i-2.ensures))
