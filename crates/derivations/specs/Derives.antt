-- What `derive` tells.
use Rattle.std.specs.Prelude.{⊤, Result, ℕ, ◌≡◌, List}
use Rattle.refusals.specs.declared.Refusal.{Refusal}
use Rattle.allocation.specs.State.{number_in}
use Rattle.allocation.specs.Memo.{Memo}
use Rattle.cells.specs.Cells.{State}
use Rattle.derivations.specs.Acted.{acted, Numbered}
use Rattle.derivations.specs.Derivations.{derived}

-- what the code says of a derivation: it is that of the definition, and what is kept of the last allocation stays right
pub record Derives (k : ℕ) (result : Result ⊤ Refusal) (before after : State) (memo : List ℕ) : Type 0 where
  pub is : acted (number_in result) after ≡ derived k before
  pub numbered : Numbered result
  pub right : Memo memo after.bins.exps after.bins.baps
