-- Values at the edges: rows for the table of proved values.
-- Assumes nothing.
use mathlib.Core.Path.{◌≡◌, refl}
use Rattle.tables.specs.BitAllocation.{bndend}
use Rattle.tables.specs.Bands.{band_of}

pub band-of-0 : band_of 0 ≡ 0
unfolding band_of bndend
band-of-0 = refl

pub band-of-36 : band_of 36 ≡ 30
unfolding band_of bndend
band-of-36 = refl

pub band-of-37 : band_of 37 ≡ 31
unfolding band_of bndend
band-of-37 = refl

pub band-of-252 : band_of 252 ≡ 49
unfolding band_of bndend
band-of-252 = refl
