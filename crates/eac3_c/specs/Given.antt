-- What the C functions of the reader tell.
use Rattle.std.specs.Prelude.{◌≡◌, List, ℕ}
use Rattle.reading.specs.Room.{Room, Out}
use Rattle.cells.specs.Cells.{State}
use Rattle.answer.specs.Answer.{answer_of, number_of}
use Rattle.answer_c.specs.Numbers.{laid_of}

-- the number, the room as the reading left it, and the answer
pub record Given (o : Out State) (r : ℕ) (m : Room) (before after : List ℕ) : Type 0 where
  pub number : r ≡ number_of (answer_of o)
  pub left : m ≡ o.left
  pub answer : after ≡ laid_of before (answer_of o)
