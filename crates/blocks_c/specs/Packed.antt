-- Results as one number each, for a driver outside.
use Rattle.std.specs.Prelude.{◌≡◌, List, ℕ, ◌+◌, ◌*◌, Result, Ok, Err}
use Rattle.reading.specs.Run.{Outcome}
use Rattle.refusals.specs.Refusals.{number_of}
use Rattle.refusals.specs.declared.Refused.{Refused}
use Rattle.mantissas.specs.Outcomes.{groups_outcome}
use Rattle.hybrid.specs.Outcomes.{slot_outcome}
use Rattle.exponents.specs.Exponents.{Group}
use Rattle.mantissas.specs.declared.Groups.{Groups}
use Rattle.allocation.specs.State.{number_in, Allocated}
use Rattle.mantissas.specs.declared.Passed.{Passed}
use Rattle.hybrid.specs.declared.Transformed.{Transformed}

abbrev pub packed_group : Group → ℕ
packed_group (Err r) = 16777216 * number_of r
packed_group (Ok (a, b, c)) = a + 256 * b + 65536 * c

-- the number of an allocation's refusal or 0, and the pointers after it
pub record Ends (r : ℕ) (baps : List ℕ) (a : Allocated) : Type 0 where
  pub number : r ≡ number_in a.ended
  pub after : baps ≡ a.baps

-- the number of the refusal or 0, the place, and three counts
abbrev pub packed : ℕ → ℕ → ℕ → ℕ → ℕ → ℕ
packed number place x y z = number + 256 * place + 16777216 * x + 4294967296 * y + 1099511627776 * z

-- the counts of groups stand there after a refusal too; tags do not
abbrev pub packed_passed : Result Passed Refused → Groups → ℕ
packed_passed (Ok p) g = packed 0 p.place.0 g.g1 g.g2 g.g4
packed_passed (Err e) g = packed (number_of e.refusal) e.place.0 g.g1 g.g2 g.g4

abbrev pub packed_tags : Result Transformed Refused → ℕ
packed_tags (Ok t) = packed 0 t.place.0 t.tags 0 0
packed_tags (Err e) = packed (number_of e.refusal) e.place.0 0 0 0

pub record PassedOutcome (r : ℕ) (o : List ℕ → Outcome Groups) : Type 0 where
  pub passed : Result Passed Refused
  pub groups : Groups
  pub is : r ≡ packed_passed passed groups
  pub tells : (s : List ℕ) → groups_outcome passed groups ≡ o s

pub record TagsOutcome (r : ℕ) (o : Outcome ℕ) : Type 0 where
  pub tagged : Result Transformed Refused
  pub is : r ≡ packed_tags tagged
  pub tells : slot_outcome tagged ≡ o
