-- The reading goes on with the new count, or is refused at the record's first bit.
use Rattle.reading.specs.Run.{field_of}
use Rattle.syntax.specs.Records.{part_of}
use Rattle.syntax.proofs.Recording.{keep-by}
use Rattle.syntax.proofs.room.RecordRoom.keep.Goals as goal

pub returns-in-Some-clause-kept : goal.returns-in-Some-clause-kept
returns-in-Some-clause-kept c = keep-by _ _ (field_of (part_of c.args.label) c.args.cur.at.0 c.args.width c.args.value) _ _ _ c.in-Some.ensures.recorded

pub returns-in-None-clause-kept : goal.returns-in-None-clause-kept
returns-in-None-clause-kept c = rw c.stop.ensures (keep-by _ _ (field_of (part_of c.args.label) c.args.cur.at.0 c.args.width c.args.value) c.args.next.0 _ _ c.in-None.ensures.recorded)
