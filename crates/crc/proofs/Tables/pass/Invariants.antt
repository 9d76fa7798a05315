-- The register is the remainder of the pairs before pair-index, and then of the byte behind them.
use mathlib.Core.Path.{◌≡◌}
use Prim.Native.Nat.{◌+◌, ◌-◌, ◌*◌, ◌/◌}
use Rattle.crc.specs.Crc.{remainder}
use Rattle.crc.proofs.Tables.pass.Given as goal

abbrev pub invariant-loop-pair : goal.invariant-loop-pair
invariant-loop-pair l = l.r ≡ remainder l.src (8 * l.from) (8 * (2 * l.pair-index))

abbrev pub invariant-loop-byte : goal.invariant-loop-byte
invariant-loop-byte l = l.r ≡ remainder l.src (8 * l.from) (8 * (2 * ((l.to - l.from) / 2) + l.byte-index))
