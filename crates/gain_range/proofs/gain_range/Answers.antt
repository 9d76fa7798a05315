-- A reading, and the four answers about its records.
use Rattle.gain_range.proofs.Sent.{in-names, in-values, gains-read}
use Rattle.gain_range.proofs.gain_range.Goals as goal

pub gains_in-gains-requires : goal.gains_in-gains-requires
gains_in-gains-requires c = (in-names _ _ _ _ _ _ _ _ c.parse-read.ensures, in-values _ _ _ _ _ _ _ _ c.parse-read.ensures)

pub returns : goal.returns
returns c = gains-read _ _ _ _ _ _ _ _ c.parse-read.ensures c.gains_in-gains.ensures
