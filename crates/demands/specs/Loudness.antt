-- LOUDNESS WORDS STEER NOTHING, of the reader. Change the loudness words of an accepted frame and crc2 in any way: the reader accepts it again, gives the same answer, in
-- all fields, and lists the same records, but for the values of those words. Presence flags (compre, dynrnge, ..) are not among what changes.
-- Proved in proofs/Loudness.antt of any names that the pages of Annex E keep nowhere (annex/specs/Unkept), so that it may be asked of other elements.
use Rattle.std.specs.Prelude.{◌≡◌, Bool, true, cond, List, [], ◌∷◌, ℕ, ◌*◌, ◌≤◌, ◌<◌, length}
use Rattle.bits.specs.Bits.{bit_at, bits_at}
use Rattle.names.specs.Names.{compr, compr2, crc2, dialnorm, dialnorm2, dynrng, dynrng2}
use Rattle.reading.specs.Run.{Field}
use Rattle.reading.specs.Room.{size}
use Rattle.rows.specs.Syntax.{among}
use Rattle.annex.specs.Unkept.{unkept_here}
use Rattle.steers.specs.Steering.{Off}
use Rattle.loudness.specs.Loudness.{free}
use Rattle.demands.specs.Calls.{Call, count, nth, Accepts}

-- the names of what is changed
abbrev pub words : List ℕ
words = dialnorm ∷ dialnorm2 ∷ compr ∷ compr2 ∷ dynrng ∷ dynrng2 ∷ crc2 ∷ []

module _ (N : ℕ → Bool) where
  -- f is a call with the slice x. The slice y holds the frame too, and has the same bits in it, but for those of the records of f with a name of the set N.
  -- Behind the frame, and in length, the slices may differ
  pub record Changed {x : List ℕ} (f : Call x) (y : List ℕ) : Type 0 where
    pub holds : f.answer.frame.bytes.0 ≤ length y
    pub elsewhere : (b : ℕ) → b < 8 * f.answer.frame.bytes.0 → ((k : ℕ) → k < count f → N (nth f k).name ≡ true → Off (nth f k) b) → bit_at x b ≡ bit_at y b

  -- a record of x, as y has it: with a name of the set, its value is the bits now there
  abbrev pub renewed : List ℕ → Field → Field
  renewed y f = record {
    name = f.name;
    block = f.block;
    index = f.index;
    first = f.first;
    width = f.width;
    value = cond (N f.name) (bits_at y f.first f.width) f.value;
  }

  -- what a call with y tells: accepted; the answer is the same: sizes, starts, audio end, counts, bits per slot; the list is as long, and each record the same
  pub record WordsSteerNothing (x y : List ℕ) (f : Call x) (g : Call y) : Type 0 where
    pub accepts : Accepts g
    pub answer : g.answer ≡ f.answer
    pub long : count g ≡ count f
    pub records : (k : ℕ) → k < count f → nth g k ≡ renewed y (nth f k)

  -- where x is accepted, and the call with y has room for as many records
  abbrev pub SteerNothing : Type 0
  SteerNothing = (x y : List ℕ) (f : Call x) (g : Call y) → Accepts f → Changed f y → count f ≤ size g.lent → WordsSteerNothing x y f g

abbrev pub AllWordsSteerNothing : Type 0
AllWordsSteerNothing = SteerNothing (among words)

-- so do any names that the pages keep nowhere
abbrev pub AllUnkeptSteerNothing : Type 0
AllUnkeptSteerNothing = (N : ℕ → Bool) → unkept_here N ≡ true → SteerNothing N

-- and these are the words that the entries of crate mastering write
abbrev pub WordsFree : Type 0
WordsFree = (n : ℕ) → free n ≡ among words n
