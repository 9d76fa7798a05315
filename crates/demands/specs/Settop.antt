-- THE SETTOP ENTRY (request 6 of 14): frames of at most 1,536 bytes, and refusal 46 for longer ones. What its contract gives a host, of every call, and beside a call
-- of the full entry. Proved in proofs/Settop.antt.
use Rattle.std.specs.Prelude.{◌≡◌, List, ◌∷◌, ℕ, ◌≤◌, ◌<◌, take}
use Rattle.bits.specs.Bits.{bits_at}
use Rattle.reading.specs.Room.{size}
use Rattle.annex.specs.Frame.{announced_by}
use Rattle.answer.specs.Answer.{number_of}
use Rattle.eac3.specs.Called.{settop}
use Rattle.demands.specs.Calls.{Call, SettopCall, count, nth, Refuses}
use Rattle.demands.specs.Answers.{numbers, AnswersBy}
use Rattle.demands.specs.Gapless.{Gapless}
use Rattle.demands.specs.Common.{CommonReading}

-- two calls give the same answer and leave the same room
pub record Alike {s t : List ℕ} (f : Call s) (g : SettopCall t) : Type 0 where
  pub answer : g.answer ≡ f.answer
  pub left : g.left ≡ f.left

-- a call of each entry, with one slice and one room
pub record Beside (s : List ℕ) (f : Call s) (g : SettopCall s) : Type 0 where
  -- up to 1,536 bytes
  pub short : announced_by s ≤ 1536 → Alike f g
  -- and wherever the full entry's answer falls before the test: 1, 2, 6 and 33 among the first four records, and strmtyp 3, which is refusal 3
  pub few : count f < 4 → Alike f g
  pub strmtyp : bits_at s 16 2 ≡ 3 → Alike f g
  -- all others are 46 at bit 32, with the four records of the header
  pub longer : 1536 < announced_by s → 4 ≤ count f → ¬ (bits_at s 16 2 ≡ 3) → Refuses g 46 32 4 × ((i : ℕ) → i < 4 → nth g i ≡ nth f i)

-- the numbers of the full entry, and 46
unfoldable pub settop_numbers : List ℕ
settop_numbers = 46 ∷ numbers

-- 12,288 bits; 16 records may have width 0, and syncword has 15 bits more than one
abbrev pub settop_enough : ℕ
settop_enough = 12289

pub record Settop : Type 0 where
  pub beside : (s : List ℕ) (f : Call s) (g : SettopCall s) → f.lent ≡ g.lent → Beside s f g
  -- demand 1: its numbers, the place, the count, and what it leaves alone in the room
  pub answers : (s : List ℕ) (c : SettopCall s) → AnswersBy settop_numbers 12288 s c
  pub gapless : (s : List ℕ) (c : SettopCall s) → Gapless s c
  pub common : CommonReading settop
  -- with room for 12,289 records no call is refused for want of room
  pub suffices : (s : List ℕ) (c : SettopCall s) → settop_enough ≤ size c.lent → ¬ (number_of c.answer ≡ 33)
  -- no byte behind the 1,536th is looked at: two slices that begin with the same 1,536 bytes, or, where one is shorter, are the same
  pub first : (x y : List ℕ) (f : SettopCall x) (g : SettopCall y) → take 1536 x ≡ take 1536 y → f.lent ≡ g.lent → (f.answer ≡ g.answer) × (f.left ≡ g.left)
