-- The end of a derivation: 0, or the number of a refusal; and the state then.
use Rattle.std.specs.Prelude.{⊤, Result, Ok, Err, ℕ, ◌<◌}
use Rattle.refusals.specs.Refusals.{number_of}
use Rattle.refusals.specs.declared.Refusal.{Refusal}
use Rattle.cells.specs.Cells.{State}

pub record Acted : Type 0 where
  pub number : ℕ
  pub st : State

abbrev pub acted : ℕ → State → Acted
acted n st = record { number = n; st = st }

-- a refusal has a number that is not 0
abbrev pub Numbered : Result ⊤ Refusal → Type 0
Numbered (Ok u) = ⊤
Numbered (Err r) = 0 < number_of r
