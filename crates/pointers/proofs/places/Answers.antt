use Rattle.pointers.proofs.Whole.{places-made}
use Rattle.pointers.proofs.places.Goals as goal

pub returns : goal.returns
returns c = places-made _ _ _ _ _ _ _ _ _ (rw c.requires at c.masks.ensures.0) c.place_bands.ensures
