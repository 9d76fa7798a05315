-- LOUDNESS WORDS STEER NOTHING: the six loudness words of an E-AC-3 frame (words/specs/Words), and crc2. What SteersNothing and Rewrites say stands in steers/specs.
-- Proved in proofs/Loudness.antt. What a host sees of it: demands/specs/Loudness.
use Rattle.std.specs.Prelude.{◌≡◌, Bool, true, not, ◌||◌, List, ℕ, eqb}
use Rattle.names.specs.Names.{crc2}
use Rattle.words.specs.Words.{width_of}
use Rattle.reading.specs.Records.{All}
use Rattle.reading.specs.Frame.{parse}
use Rattle.steers.specs.Steering.{SteersNothing}
use Rattle.steers.specs.Writing.{Rewrites}
use Rattle.annex.specs.Frame.{eac3}
use Rattle.annex.specs.Unkept.{unkept_here}

-- whatever the names: if the pages keep them nowhere, they steer nothing. Which these are: unkept_names of annex/specs/Unkept
abbrev pub UnkeptSteersNothing : Type 0
UnkeptSteersNothing = (N : ℕ → Bool) → unkept_here N ≡ true → SteersNothing N eac3 × Rewrites N eac3

-- the names of the words and of crc2
abbrev pub free : ℕ → Bool
free n = not (eqb (width_of n) 0) || eqb n crc2

abbrev pub LoudnessSteersNothing : Type 0
LoudnessSteersNothing = SteersNothing free eac3

-- a word and crc2 written over
abbrev pub LoudnessRewrites : Type 0
LoudnessRewrites = Rewrites free eac3

-- whatever the buffer, a word is as wide as its name says
abbrev pub WordWidths : Type 0
WordWidths = (s : List ℕ) → All (λ e. ¬ (width_of e.field.name ≡ 0) → e.field.width ≡ width_of e.field.name) (parse eac3 s).records
