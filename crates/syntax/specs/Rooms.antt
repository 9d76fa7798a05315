-- The six slices that records go to, as a room, and that a call keeps them.
use Rattle.std.specs.Prelude.{◌≡◌, ℕ, List, ℤ, length}
use Rattle.std.specs.Borrow.{MutBor}
use Rattle.reading.specs.Room.{Room, room}
use Rattle.syntax.specs.declared.room.RecordRoom.{RecordRoom}

abbrev pub room_of : RecordRoom → Room
room_of r = room r.names.now r.blocks.now r.indexes.now r.firsts.now r.widths.now r.values.now

-- the slices are those that were lent before, and as long
pub record SameSlices (x y : RecordRoom) : Type 0 where
  pub names : y.names.ghost_name ≡ x.names.ghost_name
  pub blocks : y.blocks.ghost_name ≡ x.blocks.ghost_name
  pub indexes : y.indexes.ghost_name ≡ x.indexes.ghost_name
  pub firsts : y.firsts.ghost_name ≡ x.firsts.ghost_name
  pub widths : y.widths.ghost_name ≡ x.widths.ghost_name
  pub values : y.values.ghost_name ≡ x.values.ghost_name
  pub most : y.most ≡ x.most

-- the room has these six slices
pub record Lends (n : MutBor (List ℕ)) (b : MutBor (List ℤ)) (i : MutBor (List ℤ)) (f w v : MutBor (List ℕ)) (r : RecordRoom) : Type 0 where
  pub names : r.names.ghost_name ≡ n.ghost_name
  pub blocks : r.blocks.ghost_name ≡ b.ghost_name
  pub indexes : r.indexes.ghost_name ≡ i.ghost_name
  pub firsts : r.firsts.ghost_name ≡ f.ghost_name
  pub widths : r.widths.ghost_name ≡ w.ghost_name
  pub values : r.values.ghost_name ≡ v.ghost_name

-- two rooms of one size: each list of y is as long as that of x
pub record Same (x y : Room) : Type 0 where
  pub names : length y.names ≡ length x.names
  pub blocks : length y.blocks ≡ length x.blocks
  pub indexes : length y.indexes ≡ length x.indexes
  pub firsts : length y.firsts ≡ length x.firsts
  pub widths : length y.widths ≡ length x.widths
  pub values : length y.values ≡ length x.values
