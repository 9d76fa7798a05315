-- Laws of rooms of one size, for the functions that record. Assumes nothing.
use mathlib.Core.Path.{refl, ◌∙◌}
use Rattle.reading.specs.Room.{Room}
use Rattle.syntax.specs.Rooms.{Same}

pub same_refl : (x : Room) → Same x x
same_refl x = record { names = refl; blocks = refl; indexes = refl; firsts = refl; widths = refl; values = refl }

pub same-trans : {x y z : Room} → Same x y → Same y z → Same x z
same-trans p q = record {
  names = q.names ∙ p.names;
  blocks = q.blocks ∙ p.blocks;
  indexes = q.indexes ∙ p.indexes;
  firsts = q.firsts ∙ p.firsts;
  widths = q.widths ∙ p.widths;
  values = q.values ∙ p.values;
}
