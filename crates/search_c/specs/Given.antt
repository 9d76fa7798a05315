-- What the C function that finds a frame tells, in 78 numbers.
use Rattle.std.specs.Prelude.{◌≡◌, List, ℕ, set}
use Rattle.reading.specs.Room.{Room}
use Rattle.answer.specs.Answer.{number_of}
use Rattle.answer_c.specs.Numbers.{laid_of}
use Rattle.search.specs.Find.{room_after, found_in}

-- the number, the room then, and the answer, with the position and the number tried in its last two places
pub record FoundGiven (s : List ℕ) (m : Room) (start most r : ℕ) (m' : Room) (before after : List ℕ) : Type 0 where
  pub number : r ≡ number_of (found_in s m start most).answer
  pub left : m' ≡ room_after s m start (found_in s m start most).tried
  pub answer : after ≡ set (set (laid_of before (found_in s m start most).answer) 76 (found_in s m start most).position) 77 (found_in s m start most).tried
