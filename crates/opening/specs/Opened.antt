-- What the code that opens a frame tells, in the terms of the definition of a frame (reading/specs/Frame.antt). Only the code's contracts need this page.
use Rattle.std.specs.Prelude.{◌≡◌, true, List, ℕ, ◌≤◌, ◌<◌, length, Ok, Err}
use Rattle.refusals.specs.declared.Refusal.TheVariants.{ShortSlice}
use Rattle.reading.specs.Frame.{header_by, seen}
use Rattle.reading.specs.Room.{Room, exec}
use Rattle.syntax.specs.Cursors.{Progress}
use Rattle.syntax.specs.Records.{outcome}
use Rattle.syntax.specs.declared.Cursor.{Cursor}
use Rattle.syntax.specs.declared.Stopped.{Stopped}
use Rattle.annex.specs.Frame.{start, eac3}

-- a slice of 6 bytes or more with a good bsid
pub record Begun (s : List ℕ) : Type 0 where
  pub long : 6 ≤ length s
  pub good : eac3.look.good (seen eac3 s) ≡ true

-- the reading goes on: the slice is begun, and nothing is written
pub record GoesOn (s : List ℕ) (m m' : Room) : Type 0 where
  pub begun : Begun s
  pub left : m' ≡ m

-- it is stopped: refusal 1, or what the header of the slice gives
pub record TooShort (m : Room) (r : Progress) (m' : Room) : Type 0 where
  pub is : r ≡ Err (record { refusal = ShortSlice; at = record { 0 = 0 }; count = 0 })
  pub left : m' ≡ m

pub record Opened (s : List ℕ) (m : Room) (r : Progress) (m' : Room) : Type 0 where
  pub goes : (c : Cursor) → r ≡ Ok c → GoesOn s m m'
  pub short : length s < 6 → TooShort m r m'
  pub stops : (e : Stopped) → r ≡ Err e → 6 ≤ length s → outcome r start m' ≡ exec s 48 (header_by eac3 (seen eac3 s)) 0 0 m
