-- Every record list runs from bit 0 without a gap, in an accepted frame to its end. So the last check of the Rust is met by no input.
use Rattle.std.specs.Prelude.{ℕ, ◌+◌, ◌*◌, ◌<◌, ◌≡◌, List}
use Rattle.reading.specs.Run.{end}
use Rattle.reading.specs.Frame.{Format}
use Rattle.cells.specs.Cells.{State}
use Rattle.demands.specs.Calls.{CallBy, count, nth, Accepts}

pub record Gapless {F : Format State State} (s : List ℕ) (c : CallBy F s) : Type 0 where
  pub begins : 0 < count c → (nth c 0).first ≡ 0
  pub goes_on : (i : ℕ) → i + 1 < count c → (nth c (i + 1)).first ≡ end (nth c i)
  pub ends : Accepts c → (i : ℕ) → i + 1 ≡ count c → end (nth c i) ≡ 8 * c.answer.frame.bytes.0
