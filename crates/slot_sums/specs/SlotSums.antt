-- The bits of the slots of a block add up to the width of its mantissas record. Proved in proofs/Sums.antt.
use Rattle.std.specs.Prelude.{◌≡◌, List, ◌++◌, ℕ, ◌+◌, ◌*◌, ◌<◌, pos}
use Rattle.reading.specs.Run.{Entry, accepted, run}
use Rattle.reading.specs.Frame.{headed}
use Rattle.names.specs.Names.{mantissas}
use Rattle.cells.specs.Cells.{State, cell_of}
use Rattle.cells.specs.Names.{NUMBLKS, SLOT_BITS}
use Rattle.sideinfo.specs.Steps.{sum_of}
use Rattle.rows.specs.Syntax.{meaning}
use Rattle.annex.specs.Annex.{body}
use Rattle.annex.specs.Frame.{bytes_of, eac3}
use Rattle.bounds.specs.Along.{Among}

-- the bits of a slot in the block j, and those of all slots
abbrev pub slot_bits : List ℕ → ℕ → ℕ → ℕ
slot_bits m j slot = cell_of m (SLOT_BITS + 8 * j + slot)

abbrev pub slot_sum : List ℕ → ℕ → ℕ
slot_sum m j = sum_of (slot_bits m j) 7

-- the mantissas record of the block j is among the records, and as wide as that
pub record Adds (m : List ℕ) (es : List Entry) (j : ℕ) : Type 0 where
  pub entry : Entry
  pub among : Among entry es
  pub name : entry.field.name ≡ mantissas
  pub block : entry.field.block ≡ pos j
  pub width : entry.field.width ≡ slot_sum m j

-- whatever the buffer, of every block of a body that is read to its end
abbrev pub SlotsAddUp : Type 0
SlotsAddUp =
    (s : List ℕ) (h st : State) → (headed eac3 s).result ≡ accepted h
    → (run (meaning body h) s (headed eac3 s).place (8 * bytes_of h)).result ≡ accepted st
    → (j : ℕ) → j < cell_of st.cells NUMBLKS
    → (j < 6) × Adds st.cells ((headed eac3 s).records ++ (run (meaning body h) s (headed eac3 s).place (8 * bytes_of h)).records) j
