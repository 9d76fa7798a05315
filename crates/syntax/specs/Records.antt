-- What the cursor and the recording leaf tell, in the terms of the definitions of crate `reading`.
use Rattle.std.specs.Prelude.{cond, ℕ, ◌+◌, leb, ℤ, Option, Some, None, Ok, Err}
use Rattle.refusals.specs.Refusals.{number_of}
use Rattle.reading.specs.Tree.{Part}
use Rattle.reading.specs.Run.{Field, accepted, refused}
use Rattle.reading.specs.Room.{Room, size, pushed, Out, got, record_in}
use Rattle.syntax.specs.Cursors.{Progress}
use Rattle.syntax.specs.declared.Label.{Label}

abbrev pub part : ℕ → ℤ → ℤ → Part
part name block index = record { name = name; block = block; index = index }

-- what a record is called
abbrev pub part_of : Label → Part
part_of l = part l.name l.block l.index

-- how far a reading came, with what was read and the room then: a stopped one is refused with its number
abbrev pub outcome : {A : Type 0} → Progress → A → Room → Out A
outcome (Ok c) a m = got (accepted a) c.at.0 c.count m
outcome (Err e) a m = got (refused (number_of e.refusal)) e.at.0 e.count m

-- a record put into the room at the place n: the new count and the room then; no count where there is no room
pub record Recorded : Type 0 where
  pub count : Option ℕ
  pub left : Room

abbrev pub recorded : Option ℕ → Room → Recorded
recorded n m = record { count = n; left = m }

unfoldable pub record_of : Room → ℕ → Field → Recorded
record_of m n f = cond (leb (size m) n) (recorded None m) (recorded (Some (n + 1)) (pushed m n f))

-- a record put into the room, after which the reading goes on at the place next with its value
abbrev pub keep_of : Field → ℕ → ℕ → Room → Out ℕ
keep_of f next n m = record_in f n m (λ n m. got (accepted f.value) next n m)
