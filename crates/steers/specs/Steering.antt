-- NAMES THAT STEER NOTHING: change the bits of an accepted frame in records with names of a set, in any way. The reading is the same but for the values of
-- those records, which are the bits now there. Proved of every format that looks at none of the names in proofs/Theorem.antt.
use Rattle.std.specs.Prelude.{◌≡◌, Bool, true, cond, List, [], ◌∷◌, ◌⊎◌, ℕ, suc, ◌*◌, ◌≤◌, ◌<◌, length}
use Rattle.bits.specs.Bits.{bit_at, bits_at}
use Rattle.reading.specs.Run.{Field, Entry, end, accepted, Outcome, out}
use Rattle.reading.specs.Frame.{Format, parse}
use Rattle.reading.specs.CommonReading.{answer}

-- a record with another value
abbrev pub with_value : ℕ → Entry → Entry
with_value v e = record {
  field = record { name = e.field.name; block = e.field.block; index = e.field.index; first = e.field.first; width = e.field.width; value = v };
  spans = e.spans;
}

-- the number that the bits of a record are, in b
abbrev pub bits_in : List ℕ → Entry → ℕ
bits_in b e = bits_at b e.field.first e.field.width

-- a record with its value read again, from b; a span's stays
abbrev pub reread : List ℕ → Entry → Entry
reread b e = with_value (cond e.spans e.field.value (bits_in b e)) e

-- the bit i is none of the record's
abbrev pub Off : Field → ℕ → Type 0
Off f i = (i < f.first) ⊎ (end f ≤ i)

-- Which records are chosen is told by the place in the list, counted from k on, and by the record. The bit i lies in none of them
abbrev pub Outside : (ℕ → Entry → Bool) → ℕ → List Entry → ℕ → Type 0
Outside C k [] i = Unit {0}
Outside C k (e ∷ es) i = (C k e ≡ true → Off e.field i) × Outside C (suc k) es i

-- the list with the chosen records read again from b
abbrev pub reread_in : (ℕ → Entry → Bool) → ℕ → List ℕ → List Entry → List Entry
reread_in C k b [] = []
reread_in C k b (e ∷ es) = cond (C k e) (reread b e) e ∷ reread_in C (suc k) b es

-- y is as long as x, and has the same bits in x's frame but for those of the chosen records of its reading
pub record Rewritten {A : Type 0} (C : ℕ → Entry → Bool) (o : Outcome A) (x y : List ℕ) : Type 0 where
  pub long : length y ≡ length x
  pub elsewhere : (i : ℕ) → i < o.place → Outside C 0 o.records i → bit_at x i ≡ bit_at y i

-- y holds x's frame, and 6 bytes, and has the same bits in it but for those of the chosen records of its reading; behind the frame it is any
pub record RewrittenFrame {A : Type 0} (C : ℕ → Entry → Bool) (o : Outcome A) (x y : List ℕ) : Type 0 where
  pub six : 6 ≤ length y
  pub holds : o.place ≤ 8 * length y
  pub elsewhere : (i : ℕ) → i < o.place → Outside C 0 o.records i → bit_at x i ≡ bit_at y i

-- result and place stay, and the records but for the values of the chosen ones
abbrev pub renewed : {A : Type 0} → (ℕ → Entry → Bool) → List ℕ → Outcome A → Outcome A
renewed C b o = out o.result o.place (reread_in C 0 b o.records)

module _ (N : ℕ → Bool) {H A : Type 0} (F : Format H A) where
  -- what is chosen has a name of the set
  abbrev pub Named : (ℕ → Entry → Bool) → Type 0
  Named C = (k : ℕ) (e : Entry) → C k e ≡ true → N e.field.name ≡ true

  pub record SteersNothing : Type 0 where
    -- the whole reading, also of slices of two lengths that hold the frame
    pub frame : (C : ℕ → Entry → Bool) → Named C → (x y : List ℕ) (a : A) → (parse F x).result ≡ accepted a → RewrittenFrame C (parse F x) x y
        → parse F y ≡ renewed C y (parse F x)
    pub whole : (C : ℕ → Entry → Bool) → Named C → (x y : List ℕ) (a : A) → (parse F x).result ≡ accepted a → Rewritten C (parse F x) x y
        → parse F y ≡ renewed C y (parse F x)
    -- with room for n records
    pub roomed : (C : ℕ → Entry → Bool) → Named C → (x y : List ℕ) (n : ℕ) (a : A) → (answer F n x).result ≡ accepted a → Rewritten C (answer F n x) x y
        → answer F n y ≡ renewed C y (answer F n x)
