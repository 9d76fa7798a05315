-- FIND THE NEXT FRAME IN A CAPTURE: from a start on the positions are tried in order, up to the last byte, and at most so many of them. A position holds a frame where
-- the reader accepts the buffer from there on. The first such position ends the search, and so does one at which a record finds no room, refusal 33.
use Rattle.std.specs.Prelude.{◌≡◌, Bool, true, false, cond, not, ◌&&◌, List, ℕ, zero, suc, ◌+◌, ◌-◌, ◌≤◌, ◌<◌, min, leb, ltb, eqb, length, drop}
use Rattle.reading.specs.Run.{Result, accepted, refused}
use Rattle.reading.specs.Room.{Room, Out}
use Rattle.cells.specs.Cells.{State}
use Rattle.answer.specs.Answer.{place_at, nothing, answer_of}
use Rattle.answer.specs.declared.Verdict.{Verdict}
use Rattle.answer.specs.declared.Verdict.TheVariants.{Accepted, Refused}
use Rattle.eac3.specs.Called.{answered}
use Rattle.search.specs.declared.Found.{Found}

-- a reading that ends the search; the same of an answer
abbrev pub ends : Result State → Bool
ends (accepted st) = true
ends (refused k) = eqb k 33

abbrev pub ends_by : Verdict → Bool
ends_by Accepted = true
ends_by (Refused k p n) = eqb k 33

-- where no position ends the search, n positions are there and at most so many are allowed: 44, no position is left; 45, the allowance is used up and positions are
-- left. It comes back with the number tried and the count of the last reading's records; the rest is 0.
abbrev pub none_number : ℕ → ℕ → ℕ
none_number n most = cond (leb n most) 44 45

abbrev pub not_found : ℕ → ℕ → ℕ → Found
not_found number count tried = record { answer = record { verdict = Refused number (place_at 0) count; frame = nothing }; position = 0; tried = tried }

-- the search of the buffer s from the byte start on, with the room m
module _ (s : List ℕ) (m : Room) (start : ℕ) where
  -- the room after n readings: each is over what the one before left
  unfoldable pub room_after : ℕ → Room
  room_after zero = m
  room_after (suc n) = (answered (drop (start + n) s) (room_after n)).left

  -- the reading at the position start + n
  abbrev pub reading : ℕ → Out State
  reading n = answered (drop (start + n) s) (room_after n)

  -- the records of the last of n readings, 0 of none
  unfoldable pub count_after : ℕ → ℕ
  count_after zero = 0
  count_after (suc n) = (reading n).count

  -- how many of the first n positions are passed over: all of them, or those before the first that ends the search
  unfoldable pub passed : ℕ → ℕ
  passed zero = 0
  passed (suc n) = cond (eqb (passed n) n && not (ends (reading n).result)) (suc n) (passed n)

  -- at most so many positions are tried
  module _ (most : ℕ) where
    abbrev pub tries : ℕ
    tries = min most (length s - start)

    -- the answer of the reading that ends the search, with its position and the number tried; 44 or 45 where there is none
    unfoldable pub found_in : Found
    found_in =
        cond (ltb (passed tries) tries)
        (record { answer = answer_of (reading (passed tries)); position = start + passed tries; tried = passed tries + 1 })
        (not_found (none_number (length s - start) most) (count_after tries) tries)

-- where the answer is a frame or 33: it is the reader's with the buffer from the position on, and at every position before it, from the start on, the reader gives
-- another refusal. The reader's answer goes by how many records the room has place for, so it is told by the room as it was lent.
pub record First (s : List ℕ) (m : Room) (start most : ℕ) (r : Found) : Type 0 where
  pub from : start ≤ r.position
  pub within : r.position < length s
  pub tried : r.tried ≡ r.position - start + 1
  pub allowed : r.tried ≤ most
  pub answer : r.answer ≡ answer_of (answered (drop r.position s) m)
  pub before : (p : ℕ) → start ≤ p → p < r.position → ends (answered (drop p s) m).result ≡ false

-- otherwise: at every position that was tried the reader gives another refusal than 33
pub record NoneFound (s : List ℕ) (m : Room) (start most : ℕ) (r : Found) : Type 0 where
  pub tried : r.tried ≡ min most (length s - start)
  pub before : (p : ℕ) → start ≤ p → p < start + r.tried → ends (answered (drop p s) m).result ≡ false

-- a call: what it gives, and the room then, which all readings left, each over the one before
pub record Searched (s : List ℕ) (m : Room) (start most : ℕ) (r : Found) (m' : Room) : Type 0 where
  pub found : r ≡ found_in s m start most
  pub left : m' ≡ room_after s m start r.tried
  pub first : ends_by r.answer.verdict ≡ true → First s m start most r
  pub none : ends_by r.answer.verdict ≡ false → NoneFound s m start most r
