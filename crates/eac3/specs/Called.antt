-- What a call of an entry tells: the outcome of the frame's definition, with its records in the room.
use Rattle.std.specs.Prelude.{◌≡◌, List, ℕ}
use Rattle.reading.specs.Frame.{Format, parse}
use Rattle.reading.specs.Run.{refused}
use Rattle.reading.specs.Room.{Room, size, cut, Out, into}
use Rattle.short_frames.specs.ShortFrames.{up_to}
use Rattle.cells.specs.Cells.{State}
use Rattle.annex.specs.Frame.{eac3}
use Rattle.answer.specs.Answer.{answer_of, number_in, number_of, place_of, count_of}
use Rattle.answer.specs.declared.Answer.{Answer}

-- a buffer read with a room for records: the definition's outcome, cut at the room
abbrev pub answered_by : Format State State → List ℕ → Room → Out State
answered_by F s m = into 0 m (cut (size m) (parse F s))

-- a call of the entry for the format F with a buffer and a room: the answer that it gives, with document 01's number, place and count, and the room then
pub record CalledBy (F : Format State State) (s : List ℕ) (m : Room) (a : Answer) (m' : Room) : Type 0 where
  pub answer : a ≡ answer_of (answered_by F s m)
  pub number : number_of a ≡ number_in (answered_by F s m).result
  pub place : (k : ℕ) → (answered_by F s m).result ≡ refused k → place_of a ≡ (answered_by F s m).place
  pub count : count_of a ≡ (answered_by F s m).count
  pub left : m' ≡ (answered_by F s m).left

-- the full entry: every E-AC-3 frame, of at most 4,096 bytes, since frmsiz can say no more
abbrev pub answered : List ℕ → Room → Out State
answered = answered_by eac3

abbrev pub Called : List ℕ → Room → Answer → Room → Type 0
Called = CalledBy eac3

-- the settop entry: frames of at most 1,536 bytes, and 46 for longer ones
abbrev pub settop : Format State State
settop = up_to 1536 eac3

abbrev pub SettopCalled : List ℕ → Room → Answer → Room → Type 0
SettopCalled = CalledBy settop
