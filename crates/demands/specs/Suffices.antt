-- With room for 32,782 records no call is refused for want of room. Proved in proofs/Suffices.antt.
use Rattle.std.specs.Prelude.{◌≡◌, List, ℕ, ◌≤◌}
use Rattle.reading.specs.Room.{Room, size}
use Rattle.outcomes.specs.Suffices.{enough}
use Rattle.answer.specs.Answer.{number_of}
use Rattle.eac3.specs.Called.{Called}
use Rattle.answer.specs.declared.Answer.{Answer}

abbrev pub NeverFull : Type 0
NeverFull = (s : List ℕ) (m : Room) (a : Answer) (m' : Room) → Called s m a m' → enough ≤ size m → ¬ (number_of a ≡ 33)
