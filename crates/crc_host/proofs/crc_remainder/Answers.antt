use native.Mathlib.Nat.{sub-zero}
use Rattle.crc_host.proofs.crc_remainder.Goals as goal

pub returns : goal.returns
returns c = rw sub-zero at c.remainder.ensures
