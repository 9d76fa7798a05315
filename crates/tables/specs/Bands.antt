-- The bands of A/52 7.2.2.3 (TS 102 366 6.2.2.3): which bins a band has, and which band a bin is in.
use Rattle.std.specs.Prelude.{◌≡◌, cond, List, [], ◌∷◌, ℕ, zero, suc, ◌≤◌, ◌<◌, leb, get_or}
use Rattle.tables.specs.BitAllocation.{bndend}

-- how many of the ends are at or before the bin
abbrev pub passed : ℕ → List ℕ → ℕ
passed bin [] = 0
passed bin (e ∷ es) = cond (leb e bin) (suc (passed bin es)) 0

-- masktab[bin]: the bands that end at or before the bin lie before its own
unfoldable pub band_of : ℕ → ℕ
band_of bin = passed bin bndend

-- bndtab[k] + bndsz[k]
abbrev pub end_of : ℕ → ℕ
end_of k = get_or bndend k 0

-- bndtab[k]: a band starts where the one before it ends
abbrev pub start_of : ℕ → ℕ
start_of zero = 0
start_of (suc k) = end_of k

-- k is the band of the bin, and has it
pub record BinBand (bin k : ℕ) : Type 0 where
  pub band : k ≡ band_of bin
  pub is : k < 50
  pub from : start_of k ≤ bin
  pub to : bin < end_of k
