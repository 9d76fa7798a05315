-- The record is called as the definition says; where there is no room, and where a refusal was found, the cells stay.
use mathlib.Core.Path.{refl, ◌∙◌, ap}
use Rattle.std.specs.Prelude.{Ok, Err}
use Rattle.reading.specs.Run.{field_of}
use Rattle.refusals.specs.declared.Refusal.TheVariants.{NoRoom}
use Rattle.syntax.specs.Records.{part_of, keep_of}
use Rattle.syntax.specs.Rooms.{room_of}
use Rattle.syntax.specs.declared.Label.{Label}
use Rattle.syntax.proofs.Recording.{keep-by}
use Rattle.recording.proofs.Keeping.{keeps-refused, keeps-full, keeps-made}
use Rattle.recording.proofs.keep.Goals as goal

pub returns-in-Err-clause-kept : goal.returns-in-Err-clause-kept
returns-in-Err-clause-kept c = rw c.in-Err.is (keeps-refused _ _ _ _ _ _)

pub returns-in_default-clause-kept : goal.returns-in_default-clause-kept
returns-in_default-clause-kept c =
    rw (c.in-Ok.is, c.stop.ensures)
    (keeps-full _ _ _ _ _ _ (Err (record { refusal = NoRoom; at = c.args.cur.at; count = c.args.cur.count })) _
    (keep-by _ _ (field_of (part_of c.label_of-label.result) c.args.cur.at.0 c.in-Ok.look.width c.in-Ok.look.value) c.in-Ok.look.place.0 _ _ c.in_default.ensures.recorded
    ∙ ap (λ (l : Label). keep_of (field_of (part_of l) c.args.cur.at.0 c.in-Ok.look.width c.in-Ok.look.value) c.in-Ok.look.place.0 c.args.cur.count (room_of c.args.room.now)) c.label_of-label.ensures) _ refl)

pub returns-clause-kept : goal.returns-clause-kept
returns-clause-kept c =
    rw c.in-Ok.is
    (keeps-made _ _ _ _ _ _ (Ok (record { at = c.in-Ok.look.place; count = c.in-Some.next })) _
    (keep-by _ _ (field_of (part_of c.label_of-label.result) c.args.cur.at.0 c.in-Ok.look.width c.in-Ok.look.value) c.in-Ok.look.place.0 _ _ c.in-Some.ensures.recorded
    ∙ ap (λ (l : Label). keep_of (field_of (part_of l) c.args.cur.at.0 c.in-Ok.look.width c.in-Ok.look.value) c.in-Ok.look.place.0 c.args.cur.count (room_of c.args.room.now)) c.label_of-label.ensures) _ refl _ c.keep_of-k.ensures.0 _ c.put.ensures)
