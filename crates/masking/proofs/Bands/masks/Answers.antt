use Rattle.masking.proofs.Excitation.{excitation-low}
use Rattle.masking.proofs.Bands.masks.Goals as goal

pub mask-requires : goal.mask-requires
mask-requires c =
    let v = c.args.self.now in
    let k = c.args.curve.now in
    (c.requires.0, excitation-low v.powers.now k.gains k.leaks v.first v.last v.most k.leaking _ (rw c.requires.1 at c.excite.ensures))
