-- The gain range of a frame for hosts outside: 11 numbers and 8 factors.
use Rattle.std.specs.Prelude.{◌≡◌, List, ℕ, ◌+◌, Float, set}
use Rattle.reading.specs.Room.{Room, size, cut}
use Rattle.reading.specs.Frame.{parse}
use Rattle.annex.specs.Frame.{eac3}
use Rattle.answer.specs.Answer.{answer_of, number_of, place_of, count_of}
use Rattle.answer.specs.declared.Answer.{Answer}
use Rattle.gain.specs.Gains.{gains_of}
use Rattle.gain.specs.declared.Gain.{Gain}
use Rattle.gain.specs.declared.Gain.TheVariants.{NotSent, Present}
use Rattle.gain.specs.declared.Range.{Range}
use Rattle.gain.specs.declared.Ranged.{Ranged}
use Rattle.gain.specs.declared.Gains.{Gains}
use Rattle.eac3.specs.Called.{answered}
use Rattle.gain_range.specs.GainRange.{sent}

abbrev pub present_of : Gain → ℕ
present_of NotSent = 0
present_of (Present low high) = 1

-- a list with what is told of one of the four from the place k on: whether words were sent, and how many
abbrev pub sent_laid : List ℕ → ℕ → Ranged → List ℕ
sent_laid m k r = set (set m k (present_of r.gain)) (k + 1) r.range.words

-- a list with three numbers in its first places
abbrev pub first_laid : List ℕ → ℕ → ℕ → ℕ → List ℕ
first_laid m number place count = set (set (set m 0 number) 1 place) 2 count

-- number, place and count of the answer, and then the four: dynrng, compr, dynrng2, compr2
unfoldable pub numbers_laid : List ℕ → Answer → Gains → List ℕ
numbers_laid m a g =
    sent_laid (sent_laid (sent_laid (sent_laid (first_laid m (number_of a) (place_of a) (count_of a)) 3 g.dynrng) 5 g.compr) 7 g.dynrng2) 9 g.compr2

-- a list with the lowest and the highest factor from the place k on; those of the four
abbrev pub pair_laid : List Float → ℕ → Range → List Float
pair_laid m k r = set (set m k r.low) (k + 1) r.high

unfoldable pub factors_laid : List Float → Gains → List Float
factors_laid m g = pair_laid (pair_laid (pair_laid (pair_laid m 0 g.dynrng.range) 2 g.compr.range) 4 g.dynrng2.range) 6 g.compr2.range

-- what the function tells: the number, the room as the reading left it, the factors, and the answer
pub record GainsGiven (s : List ℕ) (m : Room) (r : ℕ) (m' : Room) (fs fs' : List Float) (before after : List ℕ) : Type 0 where
  pub number : r ≡ number_of (answer_of (answered s m))
  pub left : m' ≡ (answered s m).left
  pub factors : fs' ≡ factors_laid fs (gains_of (sent (cut (size m) (parse eac3 s))))
  pub answer : after ≡ numbers_laid before (answer_of (answered s m)) (gains_of (sent (cut (size m) (parse eac3 s))))
