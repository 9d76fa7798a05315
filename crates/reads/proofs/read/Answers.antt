-- The limit comes before the record; what does not pass it is the bits that the definition reads.
use mathlib.Core.Path.{◌∙◌}
use Prim.Native.Nat.{◌+◌}
use Rattle.reading.specs.Run.{field_of}
use Rattle.syntax.specs.Records.{part_of}
use Rattle.syntax.proofs.Recording.{keep-by}
use Rattle.reads.proofs.Limits.{read-past, read-in}
use Rattle.reads.proofs.read.Goals as goal

pub returns-then-past-clause-read : goal.returns-then-past-clause-read
returns-then-past-clause-read c = rw c.stop.ensures (read-past _ _ _ _ _ c.past.ensures.0 c.if-past.true _ _ _)

pub returns-in_default-clause-read : goal.returns-in_default-clause-read
returns-in_default-clause-read c =
    rw c.stop-in_default.ensures
    (keep-by _ _ (field_of (part_of c.args.label) c.args.cur.at.0 c.args.width c.get-value.result) (c.args.cur.at.0 + c.args.width) _ _ c.in_default.ensures.recorded
    ∙ read-in _ _ _ _ _ c.past.ensures.0 c.if-past.false c.requires.0 c.requires.1 _ c.get-value.ensures _ _ _)

pub returns-clause-read : goal.returns-clause-read
returns-clause-read c =
    keep-by _ _ (field_of (part_of c.args.label) c.args.cur.at.0 c.args.width c.get-value.result) (c.args.cur.at.0 + c.args.width) _ _ c.in-Some.ensures.recorded
    ∙ read-in _ _ _ _ _ c.past.ensures.0 c.if-past.false c.requires.0 c.requires.1 _ c.get-value.ensures _ _ _
