-- THE END OF AN ACCEPTED FRAME, of every format: it has whole bytes, which the buffer holds, and its last record is crc2, the last two of them; the other records
-- end before it. Proved in proofs/Closing.antt.
use Rattle.std.specs.Prelude.{◌≡◌, List, [], ◌∷◌, ◌++◌, ℕ, ◌*◌, ◌-◌, ◌≤◌, length}
use Rattle.reading.specs.Run.{Entry, end, element, accepted, Outcome}
use Rattle.reading.specs.Records.{All}
use Rattle.reading.specs.Frame.{Format, plain}
use Rattle.reading.specs.CommonReading.{answer}

module _ {H A : Type 0} (F : Format H A) where
  pub record Closes (b : List ℕ) (o : Outcome A) : Type 0 where
    pub bytes : ℕ
    pub place : o.place ≡ 8 * bytes
    pub held : bytes ≤ length b
    pub before : List Entry
    pub value : ℕ
    pub last : o.records ≡ before ++ (element (plain F.names.crc2) (8 * bytes - 16) 16 value ∷ [])
    pub others : All (λ e. end e.field ≤ 8 * bytes - 16) before

  abbrev pub Closing : Type 0
  Closing = (b : List ℕ) (n : ℕ) (a : A) → (answer F n b).result ≡ accepted a → Closes b (answer F n b)
