use mathlib.Core.Path.{refl}
use Rattle.crc.specs.Crc.{step}
use Rattle.crc.specs.Table.{steps}
use Rattle.crc.proofs.Entries.{by-test}
use Rattle.crc.proofs.Tables.new.Goals as goal

pub invariant_of-result : goal.invariant_of-result
unfolding step steps
invariant_of-result c = record { by_eight = by-test 8 _ refl tt; by_sixteen = by-test 16 _ refl tt }
