-- A format that takes short frames only: the format F with one test more, at the end of its header. A frame that has more bytes than the greatest, by its header,
-- is refusal 46 behind the header: after all that the header refuses, and before the length of the buffer is looked at (4).
use Rattle.std.specs.Prelude.{◌≡◌, cond, List, ℕ, ◌≤◌, ◌<◌, leb, length, take}
use Rattle.reading.specs.Tree.{Tree, done, refuse, ◌>>=◌}
use Rattle.reading.specs.Run.{accepted, refused, out}
use Rattle.reading.specs.Frame.{Format, headed, parse}
use Rattle.reading.specs.CommonReading.{CommonReading}

module _ {H A : Type 0} (greatest : ℕ) (F : Format H A) where
  -- the test
  abbrev pub short : H → Tree H
  short h = cond (leb (F.bytes h) greatest) (done h) (refuse 46)

  unfoldable pub up_to : Format H A
  up_to = record {
    names = F.names;
    opening = F.opening;
    look = F.look;
    rest = λ h. F.rest h >>= short;
    bytes = F.bytes;
    body = F.body;
    announced = F.announced;
  }

-- What then holds, of every format. Proved in proofs/ShortFrames.antt.
module _ {H A : Type 0} (greatest : ℕ) (F : Format H A) where
  pub record ShortFrames : Type 0 where
    -- where a buffer announces at most the greatest, both formats read it alike
    pub alike : (b : List ℕ) → F.announced b ≤ greatest → parse (up_to greatest F) b ≡ parse F b
    -- and wherever it is refused in or before the header
    pub before : (b : List ℕ) (k : ℕ) → (headed F b).result ≡ refused k → parse (up_to greatest F) b ≡ parse F b
    pub tiny : (b : List ℕ) → length b < 6 → parse (up_to greatest F) b ≡ parse F b
    -- others are refusal 46 behind the header, with its records
    pub longer : (b : List ℕ) (h : H) → 6 ≤ length b → (headed F b).result ≡ accepted h → greatest < F.bytes h
        → parse (up_to greatest F) b ≡ out (refused 46) (headed F b).place (headed F b).records
    -- no byte behind the greatest is looked at
    pub first : (b : List ℕ) → parse (up_to greatest F) (take greatest b) ≡ parse (up_to greatest F) b
    pub common : CommonReading (up_to greatest F)
