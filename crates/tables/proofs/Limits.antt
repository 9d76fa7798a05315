-- How large the entries of the tables are: one computed test for each table.
-- Assumes nothing.
use mathlib.Core.Bool.{Bool, true}
use mathlib.Core.List.{List, [], ◌∷◌}
use Prim.Native.Nat.{ℕ, zero, suc, ◌≤◌}
use lib.Dec.{T}
use lib.IntN.{ℤ, pos, negsuc}
use lib.ListN.{get_or}
use lib.Signed.{le_z, ◌≤ℤ◌, le_z_yes}
use Rattle.tables.specs.BitAllocation.{slowdec, fastdec, slowgain, dbpbtab, floortab, fastgain, hth, baptab, hebaptab}
use Rattle.tables.specs.Small.{bap_bits}
use Rattle.tables.proofs.Rule.{at_most, both, both_left, both_right}

pub slowdec-high : (k : ℕ) → get_or slowdec k 0 ≤ 21
unfolding slowdec
slowdec-high = at_most 21 slowdec tt

pub fastdec-high : (k : ℕ) → get_or fastdec k 0 ≤ 123
unfolding fastdec
fastdec-high = at_most 123 fastdec tt

pub slowgain-high : (k : ℕ) → get_or slowgain k 0 ≤ 1344
unfolding slowgain
slowgain-high = at_most 1344 slowgain tt

pub fastgain-high : (k : ℕ) → get_or fastgain k 0 ≤ 1024
unfolding fastgain
fastgain-high = at_most 1024 fastgain tt

pub dbpbtab-high : (k : ℕ) → get_or dbpbtab k 0 ≤ 2816
unfolding dbpbtab
dbpbtab-high = at_most 2816 dbpbtab tt

pub hth-high : (k : ℕ) → get_or hth k 0 ≤ 2112
unfolding hth
hth-high = at_most 2112 hth tt

-- no bap is above 15, no hebap above 19
pub bap-at-most-15 : (k : ℕ) → get_or baptab k 0 ≤ 15
unfolding baptab
bap-at-most-15 = at_most 15 baptab tt

pub hebap-at-most-19 : (k : ℕ) → get_or hebaptab k 0 ≤ 19
unfolding hebaptab
hebap-at-most-19 = at_most 19 hebaptab tt

pub bap_bits-high : (k : ℕ) → get_or bap_bits k 0 ≤ 16
unfolding bap_bits
bap_bits-high = at_most 16 bap_bits tt

-- every floor lies from -2048 to 752
abbrev between : List ℤ → Bool
between [] = true
between (z ∷ r) = both (both (le_z (negsuc 2047) z) (le_z z (pos 752))) (between r)

floor-in : (xs : List ℤ) → T (between xs) → (k : ℕ) → (negsuc 2047 ≤ℤ get_or xs k (pos 0)) × (get_or xs k (pos 0) ≤ℤ pos 752)
floor-in [] t k = (le_z_yes tt, le_z_yes tt)
floor-in (z ∷ r) t zero =
    let b = both_left (both (le_z (negsuc 2047) z) (le_z z (pos 752))) (between r) t in
    (le_z_yes (both_left (le_z (negsuc 2047) z) (le_z z (pos 752)) b), le_z_yes (both_right (le_z (negsuc 2047) z) (le_z z (pos 752)) b))
floor-in (z ∷ r) t (suc k) = floor-in r (both_right (both (le_z (negsuc 2047) z) (le_z z (pos 752))) (between r) t) k

pub floortab-range : (k : ℕ) → (negsuc 2047 ≤ℤ get_or floortab k (pos 0)) × (get_or floortab k (pos 0) ≤ℤ pos 752)
unfolding floortab
floortab-range = floor-in floortab tt
