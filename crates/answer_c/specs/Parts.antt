-- What the code's parts go by: a refusal is written without looking at a frame.
use Rattle.std.specs.Prelude.{◌≡◌, List, ℕ, set, replicate}
use Rattle.answer.specs.Answer.{nothing, number_of}
use Rattle.answer.specs.declared.Answer.{Answer}
use Rattle.answer_c.specs.Numbers.{written}

-- an answer that has no frame where it is a refusal
abbrev pub Bare : Answer → Type 0
Bare a = ¬ (number_of a ≡ 0) → a.frame ≡ nothing

-- a list with the number, place and count of a refusal in its first three places, and then 73 zeros
unfoldable pub refusal_laid : List ℕ → ℕ → ℕ → ℕ → List ℕ
refusal_laid m number place count = written (set (set (set m 0 number) 1 place) 2 count) 3 (replicate 73 0) 73
