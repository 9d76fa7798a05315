-- What every outcome of the definition keeps to: the numbers of its refusals, its place, and the names of its spans. Proved in proofs/Outcomes.antt.
use Rattle.std.specs.Prelude.{◌≡◌, true, List, [], ◌∷◌, ℕ, ◌*◌, ◌≤◌}
use Rattle.names.specs.Names.{addbsi, auxbits, blkstrtinfo, mantissas, mixdata, skipfld}
use Rattle.reading.specs.Run.{Entry, Result, accepted, refused, Outcome}
use Rattle.reading.specs.Records.{All}
use Rattle.reading.specs.Frame.{headed, parse}
use Rattle.rows.specs.Syntax.{among}
use Rattle.cells.specs.Cells.{State}
use Rattle.annex.specs.Frame.{bytes_of, eac3}

-- the numbers of the scope, but for 33, which only a room gives
unfoldable pub refusals : List ℕ
refusals = 1 ∷ 2 ∷ 3 ∷ 4 ∷ 5 ∷ 6 ∷ 7 ∷ 8 ∷ 9 ∷ 10 ∷ 11 ∷ 12 ∷ 13 ∷ 20 ∷ 21 ∷ 22 ∷ 23 ∷ 24 ∷ 25 ∷ 26 ∷ 27 ∷ 28 ∷ 29 ∷ 30 ∷ 31 ∷ 32 ∷ []

abbrev pub Numbered : {A : Type 0} → Result A → Type 0
Numbered (accepted a) = Unit {0}
Numbered (refused n) = among refusals n ≡ true

-- the names that spans have. mixdata is also the name of an element
unfoldable pub span_names : List ℕ
span_names = mixdata ∷ addbsi ∷ blkstrtinfo ∷ skipfld ∷ mantissas ∷ auxbits ∷ []

abbrev pub Named : Entry → Type 0
Named e = e.spans ≡ true → among span_names e.field.name ≡ true

pub record Keeps {A : Type 0} (m : ℕ) (o : Outcome A) : Type 0 where
  pub numbered : Numbered o.result
  pub place : o.place ≤ m
  pub spans : All Named o.records

-- a frame has at most 4,096 bytes
abbrev pub farthest : ℕ
farthest = 32768

abbrev pub AllKeep : Type 0
AllKeep = (s : List ℕ) → Keeps farthest (parse eac3 s)

-- a buffer whose header, if it is accepted, gives at most n bytes
abbrev pub AtMost : ℕ → List ℕ → Type 0
AtMost n s = (h : State) → (headed eac3 s).result ≡ accepted h → bytes_of h ≤ n

abbrev pub KeepBySize : Type 0
KeepBySize = (s : List ℕ) (n : ℕ) → 6 ≤ n → AtMost n s → Keeps (8 * n) (parse eac3 s)
