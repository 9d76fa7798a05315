-- GAIN RANGE OF A FRAME AS FACTORS: a frame is read, and of each of the four gain words the lowest and the highest factor is told, with the range record. A refused frame
-- has sent no word.
use Rattle.std.specs.Prelude.{◌≡◌, cond, List, [], ◌∷◌, ℕ, ◌<◌, eqb, length}
use Rattle.names.specs.Names.{dynrng, compr, dynrng2, compr2}
use Rattle.reading.specs.Run.{Entry, Result, accepted, refused, Outcome}
use Rattle.reading.specs.Room.{Room, size, cut}
use Rattle.reading.specs.Frame.{parse}
use Rattle.cells.specs.Cells.{State}
use Rattle.annex.specs.Frame.{eac3}
use Rattle.gain.specs.Factor.{factor_of}
use Rattle.gain.specs.Range.{Holds}
use Rattle.gain.specs.Gains.{gains_of}
use Rattle.gain.specs.declared.Kind.TheVariants.{Dynrng, Compr}
use Rattle.eac3.specs.Called.{Called}
use Rattle.gain_range.specs.declared.FrameGains.{FrameGains}

-- the words of a name among some records: their values. A block without a word has no such record
unfoldable pub words_of : ℕ → List Entry → List ℕ
words_of name [] = []
words_of name (e ∷ es) = let rest = words_of name es in cond (eqb e.field.name name) (e.field.value ∷ rest) rest

-- the words that a frame has sent
abbrev pub sent_by : Result State → List Entry → ℕ → List ℕ
sent_by (accepted st) es name = words_of name es
sent_by (refused k) es name = []

abbrev pub sent : Outcome State → ℕ → List ℕ
sent o = sent_by o.result o.records

-- where words of a name were sent: the lowest factor is one of theirs, none is below it, and its f64 is exact; the highest likewise
pub record Exact (words : ℕ → List ℕ) : Type 0 where
  pub first_dynrng : 0 < length (words dynrng) → Holds (factor_of Dynrng) (words dynrng)
  pub first_compr : 0 < length (words compr) → Holds (factor_of Compr) (words compr)
  pub second_dynrng : 0 < length (words dynrng2) → Holds (factor_of Dynrng) (words dynrng2)
  pub second_compr : 0 < length (words compr2) → Holds (factor_of Compr) (words compr2)

-- a call with the buffer s and the room m: the reader's answer and the room as it leaves it, and the four answers with their range records
pub record GainsRead (s : List ℕ) (m : Room) (r : FrameGains) (m' : Room) : Type 0 where
  pub called : Called s m r.answer m'
  pub gains : r.gains ≡ gains_of (sent (cut (size m) (parse eac3 s)))
  pub exact : Exact (sent (cut (size m) (parse eac3 s)))
