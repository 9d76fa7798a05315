-- WRITING OVER TWO RECORDS whose names steer nothing, as a loudness word and crc2: the reading has their new values, and is else the same.
-- Proved in proofs/Writing.antt of every format that looks at none of the names. More than two: one after another, each over the reading that the one before left.
use Rattle.std.specs.Prelude.{◌≡◌, Bool, true, List, [], ◌∷◌, ℕ, zero, suc, length, set}
use Rattle.std.proofs.Math.Option.{some}
use Rattle.std.proofs.Math.ListN.{get_elem?}
use Rattle.bits.specs.Bits.{bit_at}
use Rattle.reading.specs.Run.{Entry, accepted, Outcome, out}
use Rattle.reading.specs.Room.{Room, room, size, Out, got, into}
use Rattle.reading.specs.Frame.{Format}
use Rattle.reading.specs.CommonReading.{answer}
use Rattle.steers.specs.Steering.{with_value, bits_in, Off}

-- the list with another value at the place i
abbrev pub with_value_at : ℕ → ℕ → List Entry → List Entry
with_value_at i v [] = []
with_value_at zero v (e ∷ es) = with_value v e ∷ es
with_value_at (suc i) v (e ∷ es) = e ∷ with_value_at i v es

-- the room with another value at the place i
unfoldable pub patched : ℕ → ℕ → Room → Room
patched i v m = room m.names m.blocks m.indexes m.firsts m.widths (set m.values i v)

module _ (N : ℕ → Bool) {H A : Type 0} (F : Format H A) where
  -- x is accepted with room for n records; those at the places i and j have names of the set; y is as long as x, and has the same bits but for theirs
  pub record Writes (x y : List ℕ) (n i j : ℕ) (e c : Entry) : Type 0 where
    pub frame : A
    pub accepts : (answer F n x).result ≡ accepted frame
    pub one : get_elem? (answer F n x).records i ≡ some e
    pub other : get_elem? (answer F n x).records j ≡ some c
    pub named : (N e.field.name ≡ true) × (N c.field.name ≡ true)
    pub long : length y ≡ length x
    pub elsewhere : (b : ℕ) → Off e.field b → Off c.field b → bit_at x b ≡ bit_at y b

  -- an outcome, and an outcome with its room, with the bits that y now has as the values at i and j; of one record, where i is j
  abbrev pub rewritten : List ℕ → ℕ → ℕ → Entry → Entry → Outcome A → Outcome A
  rewritten y i j e c o = out o.result o.place (with_value_at j (bits_in y c) (with_value_at i (bits_in y e) o.records))

  abbrev pub patched_by : List ℕ → ℕ → ℕ → Entry → Entry → Out A → Out A
  patched_by y i j e c o = got o.result o.place o.count (patched j (bits_in y c) (patched i (bits_in y e) o.left))

  -- the reading of y is that of x but for these values; and so is the room that it leaves
  pub record Rewrites : Type 0 where
    pub reading : (x y : List ℕ) (n i j : ℕ) (e c : Entry) → Writes x y n i j e c → answer F n y ≡ rewritten y i j e c (answer F n x)
    pub roomed : (x y : List ℕ) (m : Room) (i j : ℕ) (e c : Entry) → Writes x y (size m) i j e c
        → into 0 m (answer F (size m) y) ≡ patched_by y i j e c (into 0 m (answer F (size m) x))
