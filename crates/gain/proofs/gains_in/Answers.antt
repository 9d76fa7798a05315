-- The extents, and the four answers of them.
use Rattle.gain.proofs.Ordered.{gains-are}
use Rattle.gain.proofs.gains_in.Goals as goal

pub returns : goal.returns
returns c = gains-are c.args.names.now c.args.values.now c.args.count c.extents_in-e.ensures c.told.ensures c.told-2.ensures c.told-3.ensures c.told-4.ensures
