-- The worked examples, in one theorem: the f64 of each row's word is the row's fraction, exactly. A new row asks for no new proof.
-- Assumes nothing.
use Rattle.std.proofs.Common.{Bool, true, ◌&&◌, T, List, [], ◌∷◌}
use lib.Ieee.{Float, round}
use lib.Ieee.Fits.{and_l, and_r}
use Rattle.gain.specs.Factor.{factor_of, dynrng_factor, compr_factor, to_f64}
use Rattle.gain.specs.Examples.{Row, rows, Each}
use Rattle.gain.proofs.Exact.{has, has_value}

value : Row → Float
value r = to_f64 (factor_of r.kind r.word)

right : List Row → Bool
right [] = true
right (r ∷ rs) = has (value r) r.over r.under && right rs

each : (rs : List Row) → T (right rs) → Each rs
unfolding right value
each [] t = tt
each (r ∷ rs) t =
    let b = has (value r) r.over r.under in
    (has_value (value r) r.over r.under (and_l b (right rs) t), each rs (and_r b (right rs) t))

pub worked : Each rows
unfolding has value right rows factor_of dynrng_factor compr_factor to_f64 round
worked = each rows tt
