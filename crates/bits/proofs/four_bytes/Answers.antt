-- Four bytes are one more than three, which are one more than two.
use Rattle.bits.proofs.Loads.{four}
use Rattle.bits.proofs.four_bytes.Goals as goal

pub returns : goal.returns
returns c = four c.args.src.now c.args.first (λ i. (c.type_inv.src i).fits)
