-- What every call keeps to, whatever the slice and the room: the number, the place and the count of its answer, and what it leaves alone in the room.
-- Proved in proofs/Answers.antt.
use Rattle.std.specs.Prelude.{ℕ, ◌≤◌, ◌≡◌, true, List, [], ◌∷◌, length}
use Rattle.std.proofs.Math.ListN.{get_elem?}
use Rattle.reading.specs.Room.{size}
use Rattle.reading.specs.Frame.{Format}
use Rattle.cells.specs.Cells.{State}
use Rattle.rows.specs.Syntax.{among}
use Rattle.answer.specs.Answer.{number_of, place_of}
use Rattle.annex.specs.Frame.{announced_by}
use Rattle.demands.specs.Calls.{CallBy, Call, count, Accepts}

-- 0 for an accepted frame, and the 27 refusals of the scope
unfoldable pub numbers : List ℕ
numbers = 0 ∷ 1 ∷ 2 ∷ 3 ∷ 4 ∷ 5 ∷ 6 ∷ 7 ∷ 8 ∷ 9 ∷ 10 ∷ 11 ∷ 12 ∷ 13 ∷ 20 ∷ 21 ∷ 22 ∷ 23 ∷ 24 ∷ 25 ∷ 26 ∷ 27 ∷ 28 ∷ 29 ∷ 30 ∷ 31 ∷ 32 ∷ 33 ∷ []

-- a slice before and after: as long as it was, and each entry from n on as it was
pub record Kept {A : Type 0} (n : ℕ) (before after : List A) : Type 0 where
  pub sized : length after ≡ length before
  pub rest : (i : ℕ) → n ≤ i → get_elem? after i ≡ get_elem? before i

-- a call that gives one of some numbers, and whose frame has at most so many bits: the count is at most the least of the six lengths; the place lies in such a frame;
-- an accepted frame has the bytes that the slice announces
pub record AnswersBy {F : Format State State} (given : List ℕ) (bits : ℕ) (s : List ℕ) (c : CallBy F s) : Type 0 where
  pub number : among given (number_of c.answer) ≡ true
  pub fits : count c ≤ size c.lent
  pub place : place_of c.answer ≤ bits
  pub bytes : Accepts c → c.answer.frame.bytes.0 ≡ announced_by s
  pub names : Kept (count c) c.lent.names c.left.names
  pub blocks : Kept (count c) c.lent.blocks c.left.blocks
  pub indexes : Kept (count c) c.lent.indexes c.left.indexes
  pub firsts : Kept (count c) c.lent.firsts c.left.firsts
  pub widths : Kept (count c) c.lent.widths c.left.widths
  pub values : Kept (count c) c.lent.values c.left.values

-- of the full entry: a frame has at most 4,096 bytes
abbrev pub Answers : (s : List ℕ) → Call s → Type 0
Answers s c = AnswersBy numbers 32768 s c

abbrev pub AllAnswer : Type 0
AllAnswer = (s : List ℕ) (c : Call s) → Answers s c
