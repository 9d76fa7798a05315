-- What `read_exponents` asks and tells: the set of the definition (Set.antt), with its records in the room.
use Rattle.std.specs.Prelude.{◌≡◌, List, ℕ, ◌+◌, ◌*◌, ◌≤◌, ◌<◌, length, get_or}
use Rattle.reading.specs.Tree.{Part}
use Rattle.reading.specs.Room.{Room, exec}
use Rattle.syntax.specs.Records.{outcome}
use Rattle.syntax.specs.Cursors.{Progress}
use Rattle.slots.specs.Held.{Held}
use Rattle.exponents.specs.Set.{set_of}

-- only exponents of one slot differ, and none is above 24
pub record Laid (slot : ℕ) (old new : List ℕ) : Type 0 where
  pub held : Held old → Held new
  pub before : (k : ℕ) → k < 256 * slot → get_or new k 0 ≡ get_or old k 0
  pub after : (k : ℕ) → 256 * slot + 256 ≤ k → get_or new k 0 ≡ get_or old k 0

-- what `read_exponents` asks: the frame ends within the data, the exponents are held
pub record Ready (s : List ℕ) (l : ℕ) (exps : List ℕ) (absexp : ℕ) : Type 0 where
  pub within : l ≤ 8 * length s
  pub held : Held exps
  pub small : absexp ≤ 15

-- and what it tells: a set was read at the place p, with n records in the room
pub record SetRead (s : List ℕ) (l : ℕ) (q : Part) (slot strategy start end absexp : ℕ) (exps : List ℕ) (p n : ℕ) (m : Room) (r : Progress) (exps' : List ℕ) (m' : Room) : Type 0 where
  pub is : outcome r exps' m' ≡ exec s l (set_of q slot strategy start end absexp exps) p n m
  pub held : Held exps'
  pub laid : Laid slot exps exps'
