-- What is derived from bsi and audfrm: of each, the cells that it puts.
use Rattle.std.specs.Prelude.{ℕ, ◌+◌, ◌-◌, ◌*◌, ◌^◌, ◌||◌, not, cond, List, ltb, eqb, get_or}
use Rattle.tables.specs.Small.{nfchans, frmexpstr}
use Rattle.cells.specs.Cells.{cell_of, put_in}
use Rattle.sideinfo.specs.Steps.{sum_of, each_of}
use Rattle.cells.specs.Names.{ACMOD, CH, CHEXPSTR, CPLEXPSTR, CPLINUS, CPLSTRE, FRMCHEXPSTR, FRMCPLEXPSTR, FRMSIZ, LFEEXPSTR, NCHREGS, NCPLBLKS, NCPLREGS, NFCHANS, NLFEREGS, NUMBLKS, NUMBLKSCOD, WIDTH}

-- numblkscod: 1, 2, 3 or 6 blocks
unfoldable pub numblks_by : List ℕ → List ℕ
numblks_by m = put_in m NUMBLKS (cond (eqb (cell_of m NUMBLKSCOD) 3) 6 (cell_of m NUMBLKSCOD + 1))

-- the full bandwidth channels of acmod (A/52 Table 5.8, TS 102 366 Table 4.3)
unfoldable pub nfchans_by : List ℕ → List ℕ
nfchans_by m = put_in m NFCHANS (get_or nfchans (cell_of m ACMOD) 0)

-- how many of n cells from k on hold v
abbrev pub holding : List ℕ → ℕ → ℕ → ℕ → ℕ
holding m k v n = sum_of (λ i. cond (eqb (cell_of m (k + i)) v) 1 0) n

-- ncplblks, the blocks that use coupling (E.2.4.2)
unfoldable pub ncplblks_by : List ℕ → List ℕ
ncplblks_by m = put_in m NCPLBLKS (holding m CPLINUS 1 (cell_of m NUMBLKS))

-- a code of frmcplexpstr or frmchexpstr gives the strategies of six blocks (TS 102 366 Table E.1.9, A/52 Table E2.14), put into every d-th cell from k on
abbrev pub strategies_by : ℕ → ℕ → ℕ → List ℕ → List ℕ
strategies_by code k d m = each_of (λ i x. put_in x (k + d * i) (get_or frmexpstr (6 * code + i) 0)) 6 m

unfoldable pub cpl_strategies_by : List ℕ → List ℕ
cpl_strategies_by m = strategies_by (cell_of m FRMCPLEXPSTR) CPLEXPSTR 1 m

unfoldable pub ch_strategies_by : List ℕ → List ℕ
ch_strategies_by m = strategies_by (cell_of m FRMCHEXPSTR) (CHEXPSTR + cell_of m CH) 8 m

-- E.2.4.2: the blocks of six that begin a region. A block with a new coupling strategy, or with new exponents, begins one of coupling;
-- one with new exponents begins one of a channel, whose strategies lie in every d-th cell from k on
abbrev pub cpl_regions : List ℕ → ℕ
cpl_regions m = sum_of (λ i. cond (eqb (cell_of m (CPLSTRE + i)) 1 || not (eqb (cell_of m (CPLEXPSTR + i)) 0)) 1 0) 6

abbrev pub regions_from : List ℕ → ℕ → ℕ → ℕ
regions_from m k d = sum_of (λ i. cond (eqb (cell_of m (k + d * i)) 0) 0 1) 6

-- nchregs of the channels; ncplregs and nlferegs too
abbrev pub nchregs_by : List ℕ → List ℕ
nchregs_by m = each_of (λ ch x. put_in x (NCHREGS + ch) (regions_from x (CHEXPSTR + ch) 8)) 5 m

unfoldable pub regions_by : List ℕ → List ℕ
regions_by m =
    let x = nchregs_by m in
    let y = put_in x NCPLREGS (cpl_regions x) in
    put_in y NLFEREGS (regions_from y LFEEXPSTR 1)

-- how many of the first k powers of 2 are below n: the ceiling of the logarithm of n, where n is at most 2 ^ k
abbrev pub powers_below : ℕ → ℕ → ℕ
powers_below n k = sum_of (λ i. cond (ltb (2 ^ i) n) 1 0) k

-- the width of blkstrtinfo (TS 102 366 E.1.2.3, A/52 E2.2.3): numblks - 1 times 4 + ceiling (log2 (words_per_frame))
unfoldable pub blkstrtinfo_by : List ℕ → List ℕ
blkstrtinfo_by m = put_in m WIDTH ((cell_of m NUMBLKS - 1) * (4 + powers_below (cell_of m FRMSIZ + 1) 17))
