-- 32,782 records always suffice. Proved in proofs/Room.antt.
use Rattle.std.specs.Prelude.{◌≡◌, List, ℕ, ◌+◌, ◌*◌, ◌≤◌, length}
use Rattle.reading.specs.Run.{refused}
use Rattle.reading.specs.Frame.{parse}
use Rattle.reading.specs.Room.{Room, size, cut, into}
use Rattle.annex.specs.Frame.{eac3}
use Rattle.outcomes.specs.Outcomes.{Numbered, AtMost}

abbrev pub enough : ℕ
enough = 32782

pub record Suffices (s : List ℕ) : Type 0 where
  -- of a frame of at most n bytes there are at most 8 n + 1 records
  pub by_size : (n : ℕ) → 6 ≤ n → AtMost n s → length (parse eac3 s).records ≤ 8 * n + 1
  -- the definition makes no more records, and never refuses with 33
  pub records : length (parse eac3 s).records ≤ enough
  pub numbered : Numbered (parse eac3 s).result
  -- so with room for them the answer is the definition's own, and never 33
  pub whole : (n : ℕ) → enough ≤ n → cut n (parse eac3 s) ≡ parse eac3 s
  pub never : (m : Room) → enough ≤ size m → ¬ ((into 0 m (cut (size m) (parse eac3 s))).result ≡ refused 33)
