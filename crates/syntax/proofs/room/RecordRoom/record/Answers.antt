-- A signed part is stored by its bits.
use mir.Syntax.{w8, w16}
use mir.Facts.{to_z-of_z}
use native.Mathlib.Omega.{arith}
use Rattle.reading.specs.Room.{size, pushed}
use Rattle.syntax.proofs.Recording.{record-full, record-made}
use Rattle.syntax.proofs.room.RecordRoom.record.Goals as goal

pub returns-then-self-n-clause-recorded : goal.returns-then-self-n-clause-recorded
unfolding size
returns-then-self-n-clause-recorded c = record-full _ _ _ (omega arith)

pub returns-clause-recorded : goal.returns-clause-recorded
unfolding size pushed
returns-clause-recorded c = rw (to_z-of_z {w = w8} {z = c.args.label.block} (record { sfits = c.struct_told-1.given.1.0.1 }), to_z-of_z {w = w16} {z = c.args.label.index} (record { sfits = c.struct_told-2-1.given.1.1.0.1 })) (record-made _ _ _ (omega arith))
