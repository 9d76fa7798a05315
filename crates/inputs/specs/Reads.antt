-- What the functions ask that read and record, and what they tell.
use Rattle.std.specs.Prelude.{ℕ, ◌+◌, ◌-◌, ◌*◌, ◌%◌, ◌≤◌, ◌<◌, cond, List, ◌≡◌, ltb, length, Result, Ok, Err}
use Rattle.bits.specs.Bits.{bits_at}
use Rattle.reading.specs.Room.{Room, exec}
use Rattle.syntax.specs.Records.{outcome}
use Rattle.syntax.specs.Cursors.{Progress}
use Rattle.slots.specs.Held.{Bins, Held}
use Rattle.refusals.specs.declared.Refusal.TheVariants.{Truncated}
use Rattle.refusals.specs.declared.Refused.{Refused}
use Rattle.plan.specs.declared.Taken.{Taken}
use Rattle.allocation.specs.Memo.{Memo}
use Rattle.cells.specs.Cells.{State, state, cell_of, sum_of}
use Rattle.cells.specs.Names.{ABSEXP}
use Rattle.derivations.specs.Sets.{strategy_of, start_of, end_of}
use Rattle.rows.specs.Rows.{slot_in, width_in}
use Rattle.rows.specs.Steps.{input_in, set_in}
use Rattle.recording.specs.Recorded.{label_in, looked, found_by}
use Rattle.recording.specs.declared.Look.{Look}
use Rattle.exponents.specs.declared.set.Set.{Set}

-- no element is too wide, and the frame ends within the data
pub record Wide (s : List ℕ) (l w : ℕ) : Type 0 where
  pub narrow : w % 16 < 3 → width_in w ≤ 25
  pub within : l ≤ 8 * length s

-- bits that would pass the end
abbrev pub short : ℕ → Refused
short p = record { refusal = Truncated; place = record { 0 = p } }

-- bits that are read, and bits that are passed over
abbrev pub bits_of : List ℕ → ℕ → ℕ → ℕ → Result Look Refused
bits_of s l p w = cond (ltb l (p + w)) (Err (short p)) (Ok (looked (p + w) w (bits_at s p w) (bits_at s p w)))

abbrev pub passed_of : ℕ → ℕ → ℕ → Result Look Refused
passed_of l p w = cond (ltb l (p + w)) (Err (short p)) (Ok (looked (p + w) w 0 0))

-- the mantissas of the block, from the place p on: a span, and the first number that their walk tells
abbrev pub passed_by : Taken → ℕ → Look
passed_by t p = looked t.place.0 (t.place.0 - p) 0 t.tags

-- a row of input finds this at the place p; an element or a span does, whatever the bins are
pub record Looks (s : List ℕ) (l w : ℕ) (st : State) (p : ℕ) (x : Result Look Refused) : Type 0 where
  pub is : (q : ℕ) (m : Room) → exec s l (input_in w st) p q m ≡ found_by w x st p q m

pub record Sees (s : List ℕ) (l w : ℕ) (cells : List ℕ) (p : ℕ) (x : Result Look Refused) : Type 0 where
  pub is : (b : Bins) → Looks s l w (state cells b) p x

-- an element or a span was read once
pub record Takes (s : List ℕ) (l w : ℕ) (cells : List ℕ) (p q : ℕ) (m : Room) (r : Progress) (cells' : List ℕ) (m' : Room) : Type 0 where
  pub is : (b : Bins) → outcome r (state cells' b) m' ≡ exec s l (input_in w (state cells b)) p q m

-- no exponent is too large, and what is kept of allocations is right
pub record Right (mem : List ℕ) (b : Bins) : Type 0 where
  pub held : Held b.exps
  pub memo : Memo mem b.exps b.baps

-- the mantissas or a set of exponents are to be read: the frame ends within the data, bins and allocations are right
pub record Opens (s : List ℕ) (l w : ℕ) (mem : List ℕ) (b : Bins) : Type 0 where
  pub kind : 4 ≤ w % 16
  pub within : l ≤ 8 * length s
  pub right : Right mem b

-- they were read: the mantissas by a row of a kind below 8
pub record Gathers (s : List ℕ) (l w : ℕ) (st : State) (p q : ℕ) (m : Room) (r : Progress) (st' : State) (m' : Room) (mem' : List ℕ) : Type 0 where
  pub is : outcome r st' m' ≡ exec s l (cond (ltb (w % 16) 8) (input_in w st) (set_in w st)) p q m
  pub right : Right mem' st'.bins

-- what a set of exponents is read with
abbrev pub set_by : ℕ → List ℕ → Set
set_by w m =
    let n = sum_of (slot_in w) m % 256 in
    record {
      label = label_in w m;
      slot = n;
      strategy = strategy_of m n % 256;
      start = start_of m n;
      end = end_of m n;
      absexp = cell_of m ABSEXP % 16;
    }
