-- What holds of a list of records.
use Rattle.std.specs.Prelude.{◌≡◌, false, List, [], ◌∷◌, ℕ, ◌≤◌}
use Rattle.bits.specs.Bits.{bits_at}
use Rattle.reading.specs.Run.{Entry, end, Result, accepted, refused, Outcome}

abbrev pub All : (Entry → Type 0) → List Entry → Type 0
All P [] = Unit {0}
All P (e ∷ es) = P e × All P es

-- the records stand side by side from the bit p to the bit m
abbrev pub Tiles : ℕ → List Entry → ℕ → Type 0
Tiles p [] m = p ≡ m
Tiles p (e ∷ es) m = (e.field.first ≡ p) × Tiles (end e.field) es m

-- how far the records reach: to the place, and short of it only where a refusal came inside a span
abbrev pub Whole : {A : Type 0} → Result A → ℕ → ℕ → Type 0
Whole (accepted a) m p = m ≡ p
Whole (refused n) m p = m ≤ p

-- the records of an outcome run from the bit q without a gap, and where it is accepted to its place
pub record Tiled {A : Type 0} (q : ℕ) (o : Outcome A) : Type 0 where
  pub upto : ℕ
  pub tiles : Tiles q o.records upto
  pub whole : Whole o.result upto o.place

-- an element's value is the number of its bits
abbrev pub Valued : List ℕ → Entry → Type 0
Valued b e = e.spans ≡ false → e.field.value ≡ bits_at b e.field.first e.field.width
