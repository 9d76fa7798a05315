-- Laws of an answer. Assumes nothing.
use mathlib.Core.Path.{◌≡◌, refl}
use mathlib.Core.Bool.{Bool, true, false, cond}
use Prim.Native.Nat.{ℕ}
use native.Mathlib.Omega.{arith}
use Rattle.reading.specs.Run.{Result, accepted, refused}
use Rattle.reading.specs.Room.{Room}
use Rattle.syntax.specs.Records.{outcome}
use Rattle.syntax.specs.Cursors.{Progress}
use Rattle.std.specs.Prelude.{Ok, Err}
use Rattle.cells.specs.Cells.{State}
use Rattle.answer.specs.Answer.{answer_by, answer_of, number_of, place_of, count_of, number_in}
use Rattle.answer.specs.Cursors.{answer_from}

-- the answer of a reading is that of its outcome
pub answer-from : (r : Progress) (st : State) (m : Room) → answer_from r st.cells ≡ answer_of (outcome r st m)
unfolding answer_of
answer-from (Ok c) st m = refl
answer-from (Err e) st m = refl

-- number, place and count of an outcome's answer
pub number_by : (r : Result State) (p n : ℕ) → number_of (answer_by r p n) ≡ number_in r
number_by (accepted st) p n = refl
number_by (refused k) p n = refl

pub place-by : (r : Result State) (p n k : ℕ) → r ≡ refused k → place_of (answer_by r p n) ≡ p
place-by (accepted st) p n k e = absurd (let z : ◌≡◌ {A = ℕ} 0 1 = cc in omega arith)
place-by (refused j) p n k e = refl

pub count_by : (r : Result State) (p n : ℕ) → count_of (answer_by r p n) ≡ n
count_by (accepted st) p n = refl
count_by (refused k) p n = refl
