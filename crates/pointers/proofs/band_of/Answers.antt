use Rattle.tables.proofs.Bins.{masktab-band}
use Rattle.pointers.proofs.band_of.Goals as goal

pub returns : goal.returns
returns c =
    let t = c.args.tables.now in
    rw (c.from.ensures, t.bins) (masktab-band c.args.bin c.requires)
