use mathlib.Core.Path.{refl, sym, ap, ◌∙◌}
use native.Mathlib.Omega.{arith}
use Rattle.slots.specs.Held.{bins}
use Rattle.cells.specs.Cells.{state}
use Rattle.syntax.specs.Rooms.{room_of}
use Rattle.short_frames.specs.Tested.{tested}
use Rattle.syntax.specs.Cursors.{Progress}
use Rattle.walk.proofs.Walks.{turned-once}
use Rattle.annex.specs.Annex.{header}
use Rattle.annex.specs.Frame.{start, eac3}
use Rattle.frame.specs.Parts.{followed}
use Rattle.frame.proofs.Parts.{right-start, small_size, begins-good, whole-answer, header-answer}
use Rattle.frame.proofs.begun.Goals as goal

pub each-header-requires : goal.each-header-requires
unfolding start
each-header-requires c = record { what = header; stands = c.annex-table.ensures.headed; table = c.annex-table.ensures.table; within = omega (arith, c.requires.long); right = right-start }

pub framed-read-requires : goal.framed-read-requires
unfolding start
framed-read-requires c = record { annexed = c.annex-table.ensures; right = c.each-header.ensures.turned.right; small = small_size _ _ _ _ _ (turned-once c.each-header.ensures.turned header c.annex-table.ensures.headed) _ c.in-Ok.is }

pub returns-in-Ok-clause-read : goal.returns-in-Ok-clause-read
unfolding start
returns-in-Ok-clause-read c = whole-answer _ _ _ _ _ _ _ (omega (arith, c.requires.long)) (c.framed-read.ensures.framed.is ∙ ap (λ (r : Progress). followed r (state c.each-header.new.cells (bins c.each-header.new.exps c.each-header.new.baps)) (room_of c.each-header.new.room) (tested c.args.greatest.0 eac3 c.args.src.now)) (sym c.in-Ok.is) ∙ begins-good _ _ _ _ _ (turned-once c.each-header.ensures.turned header c.annex-table.ensures.headed) _ c.requires.good) c.answer_of.ensures

pub returns-in-Err-clause-read : goal.returns-in-Err-clause-read
unfolding start
returns-in-Err-clause-read c = header-answer _ _ _ _ _ _ _ _ (omega (arith, c.requires.long)) c.in-Err.is (begins-good _ _ _ _ _ (turned-once c.each-header.ensures.turned header c.annex-table.ensures.headed) _ c.requires.good) c.refusal.ensures
