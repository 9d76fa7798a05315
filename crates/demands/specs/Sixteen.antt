-- A list holds at most 16 loudness words, after every call, whatever the buffer and the room. Proved in proofs/Sixteen.antt.
use Rattle.std.specs.Prelude.{cond, List, ℕ, zero, suc, ◌+◌, ◌≤◌, eqb, get_or}
use Rattle.words.specs.Words.{width_of}
use Rattle.demands.specs.Calls.{Call, count}

-- how many of the first n names are words'
unfoldable pub words_to : List ℕ → ℕ → ℕ
words_to names zero = 0
words_to names (suc n) = words_to names n + cond (eqb (width_of (get_or names n 0)) 0) 0 1

abbrev pub SixteenListed : Type 0
SixteenListed = (s : List ℕ) (c : Call s) → words_to c.left.names (count c) ≤ 16
