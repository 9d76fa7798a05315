-- What the C functions that set loudness words tell.
use Rattle.std.specs.Prelude.{◌≡◌, List, ℕ}
use Rattle.reading.specs.Room.{Room}
use Rattle.answer.specs.Answer.{number_of}
use Rattle.answer_c.specs.Numbers.{laid_of}
use Rattle.eac3.specs.Called.{answered}
use Rattle.mastering.specs.SetWord.{answer_set, bytes_set, room_set}
use Rattle.mastering.specs.SetWords.{answer_all, bytes_all, room_all}

-- the number, the bytes and the room then, and the answer
pub record WordGiven (s : List ℕ) (m : Room) (i v r : ℕ) (s' : List ℕ) (m' : Room) (before after : List ℕ) : Type 0 where
  pub number : r ≡ number_of (answer_set s (answered s m) i v)
  pub bytes : s' ≡ bytes_set s (answered s m) i v
  pub left : m' ≡ room_set s (answered s m) i v
  pub answer : after ≡ laid_of before (answer_set s (answered s m) i v)

-- likewise of many words
pub record WordsGiven (s : List ℕ) (m : Room) (places words : List ℕ) (r : ℕ) (s' : List ℕ) (m' : Room) (before after : List ℕ) : Type 0 where
  pub number : r ≡ number_of (answer_all s (answered s m) places words)
  pub bytes : s' ≡ bytes_all s (answered s m) places words
  pub left : m' ≡ room_all s (answered s m) places words
  pub answer : after ≡ laid_of before (answer_all s (answered s m) places words)
