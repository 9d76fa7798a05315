-- A FRAME HOLDS AT MOST 16 LOUDNESS WORDS: dialnorm, compr, and dynrng of each of six blocks, each for two programmes. Of every reading, also of a refused one.
-- Proved in proofs/Sixteen.antt.
use Rattle.std.specs.Prelude.{cond, List, [], ◌∷◌, ℕ, ◌+◌, ◌≤◌, eqb}
use Rattle.words.specs.Words.{width_of}
use Rattle.reading.specs.Run.{Entry}
use Rattle.reading.specs.Frame.{parse}
use Rattle.annex.specs.Frame.{eac3}

-- how many of the records are words
abbrev pub words_in : List Entry → ℕ
words_in [] = 0
words_in (e ∷ es) = cond (eqb (width_of e.field.name) 0) 0 1 + words_in es

abbrev pub SixteenWords : Type 0
SixteenWords = (s : List ℕ) → words_in (parse eac3 s).records ≤ 16
