-- The answer of words that are set has no frame where it is a refusal. Assumes nothing.
use mathlib.Core.Path.{refl, sym, subst}
use mathlib.Core.Bool.{Bool, true, false, cond}
use mathlib.Core.List.{List}
use Prim.Native.Nat.{ℕ}
use lib.Dec.{eqb}
use Rattle.reading.specs.Room.{Room, Out}
use Rattle.cells.specs.Cells.{State}
use Rattle.answer.specs.Answer.{place_at, nothing, answer_of}
use Rattle.answer.specs.declared.Answer.{Answer}
use Rattle.answer.specs.declared.Verdict.TheVariants.{Refused}
use Rattle.answer_c.specs.Parts.{Bare}
use Rattle.answer_c.proofs.Laying.{bare-answer}
use Rattle.eac3.specs.Called.{answered}
use Rattle.mastering.specs.SetWord.{accepted_by, answer_with, number, WordSet}
use Rattle.mastering.specs.SetWords.{number_set, WordsSet}

bare-with : (b : Bool) (a : Answer) (k n : ℕ) → Bare a → Bare (cond b a (record { verdict = Refused k (place_at 0) n; frame = nothing }))
bare-with true a k n h = h
bare-with false a k n h = λ _. refl

bare-or : (b : Bool) (a c : Answer) → Bare a → Bare c → Bare (cond b a c)
bare-or true a c h k = h
bare-or false a c h k = k

-- by the number k, of a reading o
bare_set : (o : Out State) (k : ℕ) → Bare (cond (accepted_by (answer_of o).verdict) (answer_with (answer_of o) k o.count) (answer_of o))
bare_set o k =
    bare-or (accepted_by (answer_of o).verdict) (answer_with (answer_of o) k o.count) (answer_of o) (bare-with (eqb k 0) (answer_of o) k o.count (bare-answer o)) (bare-answer o)

pub bare-word : {s : List ℕ} {m : Room} {i v : ℕ} {a : Answer} {s' : List ℕ} {m' : Room} → WordSet s m i v a s' m' → Bare a
bare-word {s} {m} {i} {v} h = subst Bare (sym h.answer) (bare_set (answered s m) (number s (answered s m) i v))

pub bare-words : {s : List ℕ} {m : Room} {places words : List ℕ} {a : Answer} {s' : List ℕ} {m' : Room} → WordsSet s m places words a s' m' → Bare a
bare-words {s} {m} {places} {words} h = subst Bare (sym h.answer) (bare_set (answered s m) (number_set s (answered s m) places words))
