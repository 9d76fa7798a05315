-- `gain::factor` meets its contract, by the kind. Assumes nothing.
use Rattle.gain.specs.Factor.{factor_of}
use Rattle.gain.proofs.factor.Goals as goal

pub returns-in-Dynrng : goal.returns-in-Dynrng
unfolding factor_of
returns-in-Dynrng c = rw c.in-Dynrng.is c.dynrng_factor.ensures

pub returns-in-Compr : goal.returns-in-Compr
unfolding factor_of
returns-in-Compr c = rw c.in-Compr.is c.compr_factor.ensures
