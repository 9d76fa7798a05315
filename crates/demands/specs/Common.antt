-- Common reading, of the reader: what two calls of an entry on buffers that first differ at a bit have in common.
use Rattle.std.specs.Prelude.{ℕ, ◌*◌, ◌≤◌, ◌<◌, ◌≡◌, true, List, ◌⊎◌, take}
use Rattle.bits.specs.Bits.{SameBits}
use Rattle.reading.specs.Run.{end}
use Rattle.reading.specs.Frame.{Format}
use Rattle.reading.specs.CommonReading.{FirstDiffer, Holds, Excepted, Bytes}
use Rattle.rows.specs.Syntax.{among}
use Rattle.cells.specs.Cells.{State}
use Rattle.outcomes.specs.Outcomes.{span_names}
use Rattle.demands.specs.Calls.{CallBy, count, nth, Accepts, Refuses}

module _ (F : Format State State) where
  -- two buffers that both hold the frames that they announce, and first differ at d, inside the first one's frame
  pub record Pair (x y : List ℕ) (d : ℕ) : Type 0 where
    pub holdsˣ : Holds F x
    pub holdsʸ : Holds F y
    pub differ : FirstDiffer x y d
    pub inside : d < 8 * F.announced x

  -- each record of the one call that ends at or before d is the record at the same place of the other, in all six parts;
  -- auxbits and auxdatal alone are excepted, where d comes no later than auxdatae of x's frame
  abbrev pub Stands : (x : List ℕ) (d : ℕ) {y z : List ℕ} → CallBy F y → CallBy F z → Type 0
  Stands x d f g = (i : ℕ) → i < count f → end (nth f i) ≤ d → ((i < count g) × (nth g i ≡ nth f i)) ⊎ Excepted F x d (nth f i)

  -- the bits of each record with the name of a span are the same in both buffers. Every span has such a name (outcomes/specs/Outcomes.antt). mixdata also names
  -- an element, whose bits are then asked for too: the premise is a little stronger than it need be, and a caller can check it in his slices
  abbrev pub SameSpanBits : (x y : List ℕ) → CallBy F x → Type 0
  SameSpanBits x y f = (i : ℕ) → i < count f → among span_names (nth f i).name ≡ true → SameBits x y (nth f i).first (end (nth f i))

  pub record CommonReading : Type 0 where
    -- A: both are accepted
    pub both : (x y : List ℕ) (d : ℕ) (f : CallBy F x) (g : CallBy F y) → Pair x y d → Accepts f → Accepts g → Stands x d f g × Stands x d g f
    -- B: the second is refused, and not for want of room
    pub second : (x y : List ℕ) (d k p n : ℕ) (f : CallBy F x) (g : CallBy F y) → Pair x y d → Accepts f → Refuses g k p n → ¬ (k ≡ 33)
        → (d < p) × Stands x d g f
    -- C: two accepted frames with equal records and equal span bits are the same, byte for byte
    pub same : (x y : List ℕ) (f : CallBy F x) (g : CallBy F y) → Bytes x → Bytes y → Holds F x → Holds F y → Accepts f → Accepts g
        → count f ≡ count g → ((i : ℕ) → i < count f → nth f i ≡ nth g i) → SameSpanBits x y f
        → take (F.announced x) x ≡ take (F.announced y) y
