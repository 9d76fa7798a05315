-- What a row of input finds, and what is done with it.
use Rattle.std.specs.Prelude.{ℕ, List, ◌≡◌, Result, Ok, Err}
use Rattle.refusals.specs.Refusals.{number_of}
use Rattle.refusals.specs.declared.Refused.{Refused}
use Rattle.reading.specs.Run.{accepted, refused, field_of}
use Rattle.reading.specs.Room.{Room, Out, got, record_in}
use Rattle.syntax.specs.Cursors.{Progress}
use Rattle.syntax.specs.Records.{outcome}
use Rattle.syntax.specs.declared.Label.{Label}
use Rattle.slots.specs.Held.{Bins}
use Rattle.cells.specs.Cells.{State, state, cell_of, place_of, sum_of, signed, stored, part_of}
use Rattle.cells.specs.Names.{BLOCK}
use Rattle.rows.specs.Rows.{name_in, index_in, keep_in}
use Rattle.recording.specs.declared.Look.{Look}

-- what the record of a row is called
abbrev pub label_in : ℕ → List ℕ → Label
label_in w m = record { name = name_in w; block = signed 128 (cell_of m BLOCK); index = signed 32768 (sum_of (index_in w) m) }

-- what a row of input finds: the place after it, its width, the value that is recorded and the value that is stored
abbrev pub looked : ℕ → ℕ → ℕ → ℕ → Look
looked e w v k = record { place = record { 0 = e }; width = w; value = v; stored = k }

-- what is done with it: a record is made and a value is stored
abbrev pub recorded : ℕ → Look → State → ℕ → ℕ → Room → Out State
recorded w x st p q m =
    record_in (field_of (part_of (name_in w) (index_in w) st.cells) p x.width x.value) q m
    (λ n m. got (accepted (stored st (place_of (keep_in w) st.cells) x.stored)) x.place.0 n m)

-- what is found is recorded and stored, and a refusal stands
abbrev pub found_by : ℕ → Result Look Refused → State → ℕ → ℕ → Room → Out State
found_by w (Ok x) st p q m = recorded w x st p q m
found_by w (Err e) st p q m = got (refused (number_of e.refusal)) e.place.0 q m

-- this was done: at the place p, with q records in the room, whatever the bins are
pub record Keeps (w : ℕ) (x : Result Look Refused) (cells : List ℕ) (p q : ℕ) (m : Room) (r : Progress) (cells' : List ℕ) (m' : Room) : Type 0 where
  pub is : (b : Bins) → outcome r (state cells' b) m' ≡ found_by w x (state cells b) p q m
