-- THE COMMON-READING THEOREM: at whatever bit two buffers first differ, inside the first one's accepted frame, the reading up to there is common.
-- Proved of every format in proofs/Theorem.antt.
use Rattle.std.specs.Prelude.{◌≡◌, true, List, map, ◌⊎◌, ℕ, ◌+◌, ◌*◌, ◌≤◌, ◌<◌, length, get_or, take}
use Rattle.std.proofs.Math.Option.{some}
use Rattle.std.proofs.Math.ListN.{get_elem?}
use Rattle.bits.specs.Bits.{bit_at, SameBits}
use Rattle.reading.specs.Run.{Field, Entry, end, accepted, refused, Outcome}
use Rattle.reading.specs.Room.{cut}
use Rattle.reading.specs.Records.{All}
use Rattle.reading.specs.Frame.{Format, parse}

-- two buffers first differ at a bit that both hold: all before it are equal, it is not
pub record FirstDiffer (x y : List ℕ) (d : ℕ) : Type 0 where
  pub inˣ : d < 8 * length x
  pub inʸ : d < 8 * length y
  pub before : SameBits x y 0 d
  pub there : ¬ (bit_at x d ≡ bit_at y d)

-- a record list: the six parts of each
abbrev pub list : {A : Type 0} → Outcome A → List Field
list o = map (λ (e : Entry). e.field) o.records

-- the bits of each span of the one outcome are the same in both buffers
abbrev pub SameSpans : {A : Type 0} → List ℕ → List ℕ → Outcome A → Type 0
SameSpans x y o = All (λ e. e.spans ≡ true → SameBits x y e.field.first (end e.field)) o.records

-- a buffer of bytes
abbrev pub Bytes : List ℕ → Type 0
Bytes b = (i : ℕ) → get_or b i 0 < 256

module _ {H A : Type 0} (F : Format H A) where
  -- 6 bytes or more, and the whole frame that the buffer announces
  pub record Holds (b : List ℕ) : Type 0 where
    pub six : 6 ≤ length b
    pub whole : F.announced b ≤ length b

  -- the answer with room for n records
  abbrev pub answer : ℕ → List ℕ → Outcome A
  answer n b = cut n (parse F b)

  -- auxbits and auxdatal alone are excepted, and only where d comes no later than auxdatae, 18 bits before the end of x's frame
  pub record Excepted (x : List ℕ) (d : ℕ) (f : Field) : Type 0 where
    pub aux : (f.name ≡ F.names.auxbits) ⊎ (f.name ≡ F.names.auxdatal)
    pub early : d + 18 ≤ 8 * F.announced x

  -- each record of the one list that ends at or before d stands at the same place in the other, equal in all six parts
  abbrev pub Stand : List ℕ → ℕ → List Field → List Field → Type 0
  Stand x d fs gs = (i : ℕ) (f : Field) → get_elem? fs i ≡ some f → end f ≤ d → (get_elem? gs i ≡ some f) ⊎ Excepted x d f

  -- two buffers that both hold their frames, the first accepted with room for m records, first differing at d inside that frame
  pub record Case (x y : List ℕ) (d m : ℕ) : Type 0 where
    pub frame : A
    pub holdsˣ : Holds x
    pub holdsʸ : Holds y
    pub accepts : (answer m x).result ≡ accepted frame
    pub differ : FirstDiffer x y d
    pub inside : d < 8 * F.announced x

  pub record CommonReading : Type 0 where
    -- A: both are accepted
    pub both : (x y : List ℕ) (d m n : ℕ) (a : A) → Case x y d m → (answer n y).result ≡ accepted a
        → Stand x d (list (answer m x)) (list (answer n y)) × Stand x d (list (answer n y)) (list (answer m x))
    -- B: the second is refused, and not for want of room
    pub second : (x y : List ℕ) (d m n k : ℕ) → Case x y d m → (answer n y).result ≡ refused k → ¬ (k ≡ 33)
        → (d < (answer n y).place) × Stand x d (list (answer n y)) (list (answer m x))
    -- C: two accepted frames with equal lists and equal span bits are the same, byte for byte
    pub same : (x y : List ℕ) (m n : ℕ) (a c : A) → Bytes x → Bytes y → Holds x → Holds y
        → (answer m x).result ≡ accepted a → (answer n y).result ≡ accepted c
        → list (answer m x) ≡ list (answer n y) → SameSpans x y (answer m x)
        → take (F.announced x) x ≡ take (F.announced y) y
