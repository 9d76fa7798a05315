-- A call with room for 32,782 records is never refused by 33. Assumes nothing.
use mathlib.Core.Path.{◌≡◌, sym, subst}
use mathlib.Core.Bool.{true}
use mathlib.Core.List.{List}
use Prim.Native.Nat.{ℕ, ◌+◌, ◌≤◌}
use native.Mathlib.Omega.{arith}
use lib.ListN.{length}
use Rattle.reading.specs.Run.{Result, accepted, refused, Outcome}
use Rattle.reading.specs.Frame.{parse}
use Rattle.reading.specs.Room.{Room, size, into}
use Rattle.rows.specs.Syntax.{among}
use Rattle.cells.specs.Cells.{State}
use Rattle.annex.specs.Frame.{eac3}
use Rattle.outcomes.specs.Outcomes.{refusals, Numbered}
use Rattle.outcomes.specs.Suffices.{enough}
use Rattle.outcomes.proofs.Room.{not-33, enough-room}
use Rattle.answer.specs.Answer.{answer_by, answer_of, number_of}
use Rattle.eac3.specs.Called.{answered}
use Rattle.answer.specs.declared.Answer.{Answer}
use Rattle.demands.specs.Suffices.{NeverFull}

answers : (s : List ℕ) (m : Room) → enough ≤ size m → ¬ (number_of (answer_of (answered s m)) ≡ 33)
unfolding answer_of
answers s m h =
    subst (λ (o : Outcome State). ¬ (number_of (answer_of (into 0 m o)) ≡ 33)) (sym ((enough-room s).whole (size m) h)) (go (parse eac3 s).result (enough-room s).numbered)
  where
    go : (r : Result State) → Numbered r → ¬ (number_of (answer_by r (parse eac3 s).place (0 + length (parse eac3 s).records)) ≡ 33)
    go (accepted st) k e = omega arith
    go (refused n) k e = not-33 (subst (λ i. among refusals i ≡ true) e k)

pub never-full : NeverFull
never-full s m a m' k h = subst (λ (x : Answer). ¬ (number_of x ≡ 33)) (sym k.answer) (answers s m h)
