-- What the reads of the cursor tell, in the terms of the definitions of crate `reading`.
use Rattle.std.specs.Prelude.{List, [], ℕ, ◌-◌, Ok, Err}
use Rattle.refusals.specs.Refusals.{number_of}
use Rattle.reading.specs.Tree.{Part, stop, take, done, read, span}
use Rattle.reading.specs.Run.{accepted, refused, field_of, Outcome, out, skim}
use Rattle.reading.specs.Room.{Room, Out, got, exec}
use Rattle.syntax.specs.Records.{keep_of}
use Rattle.reads.specs.Taking.{Taking}

-- what was read, and the room then
abbrev pub taking : Taking → Room → Out ℕ
taking (Ok t) m = got (accepted t.value) t.cursor.at.0 t.cursor.count m
taking (Err e) m = got (refused (number_of e.refusal)) e.at.0 e.count m

-- bits that were read inside a span, which make no record
abbrev pub seen : Taking → Outcome ℕ
seen (Ok t) = out (accepted t.value) t.cursor.at.0 []
seen (Err e) = out (refused (number_of e.refusal)) e.at.0 []

-- the four operations at the place p, with n records in the room m
module _ (s : List ℕ) (limit : ℕ) where
  -- an element of w bits
  abbrev pub read_of : Part → ℕ → ℕ → ℕ → Room → Out ℕ
  read_of q w p n m = exec s limit (read q w done) p n m

  -- w bits that are not looked at
  abbrev pub span_of : Part → ℕ → ℕ → ℕ → Room → Out ℕ
  span_of q w p n m = exec s limit (span q w (done 0)) p n m

  -- w bits inside a span
  abbrev pub raw_of : ℕ → ℕ → Outcome ℕ
  raw_of w p = skim (take w stop) s p limit

-- a span from the place first to the place p, recorded when it closes
abbrev pub close_of : Part → ℕ → ℕ → ℕ → Room → Out ℕ
close_of q first p n m = keep_of (field_of q first (p - first) 0) p n m
