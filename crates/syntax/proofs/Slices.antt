-- The slices that a room has, after one call and another. Assumes nothing.
use mathlib.Core.Path.{refl, ◌∙◌}
use Rattle.syntax.specs.Rooms.{SameSlices}
use Rattle.syntax.specs.declared.room.RecordRoom.{RecordRoom}

pub same_refl : (x : RecordRoom) → SameSlices x x
same_refl x = record { names = refl; blocks = refl; indexes = refl; firsts = refl; widths = refl; values = refl; most = refl }

pub same-trans : {x y z : RecordRoom} → SameSlices x y → SameSlices y z → SameSlices x z
same-trans p q = record {
  names = q.names ∙ p.names;
  blocks = q.blocks ∙ p.blocks;
  indexes = q.indexes ∙ p.indexes;
  firsts = q.firsts ∙ p.firsts;
  widths = q.widths ∙ p.widths;
  values = q.values ∙ p.values;
  most = q.most ∙ p.most;
}
