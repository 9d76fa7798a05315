-- The derivations, by name: what the standard gives as a formula or a table, and not as syntax.
use Rattle.std.specs.Prelude.{ℕ, cond, List, eqb}
use Rattle.cells.specs.Cells.{State, state}
use Rattle.derivations.specs.Acted.{Acted, acted}
use Rattle.sideinfo.specs.Frames.{numblks_by, nfchans_by, ncplblks_by, cpl_strategies_by, ch_strategies_by, regions_by, blkstrtinfo_by}
use Rattle.sideinfo.specs.Blocks.{spx_range_by, nspxbnds_by, cpl_range_by, ncplbnd_by, nrematbd_by, unknown_here, endmants_by, aht_read_by}
use Rattle.derivations.specs.Allocating.{fresh_by, defaults_by, allocate_in}

-- the number of blocks
abbrev pub Numblks : ℕ
Numblks = 1

-- the number of full bandwidth channels
abbrev pub Nfchans : ℕ
Nfchans = 2

-- the start of audfrm: a fresh allocation state, the default band structures, nothing sent yet
abbrev pub Fresh : ℕ
Fresh = 3

-- the number of coupled blocks
abbrev pub Ncplblks : ℕ
Ncplblks = 4

-- the strategies of coupling, by frmcplexpstr
abbrev pub CplStrategies : ℕ
CplStrategies = 5

-- the strategies of a channel, by frmchexpstr
abbrev pub ChStrategies : ℕ
ChStrategies = 6

-- ncplregs, nchregs, nlferegs
abbrev pub Regions : ℕ
Regions = 7

-- the width of blkstrtinfo
abbrev pub Blkstrtinfo : ℕ
Blkstrtinfo = 8

-- the sub-bands of spectral extension
abbrev pub SpxRange : ℕ
SpxRange = 9

-- its bands
abbrev pub Nspxbnds : ℕ
Nspxbnds = 10

-- the sub-bands of coupling
abbrev pub CplRange : ℕ
CplRange = 11

-- its bands
abbrev pub Ncplbnd : ℕ
Ncplbnd = 12

-- the rematrixing bands
abbrev pub Nrematbd : ℕ
Nrematbd = 13

-- the ends of the mantissas; 23
abbrev pub Endmants : ℕ
Endmants = 14

-- the parameters of bamode 0
abbrev pub Defaults : ℕ
Defaults = 15

-- the bit allocation of the block; 29
abbrev pub Allocation : ℕ
Allocation = 16

-- the slots of the adaptive hybrid transform that are read
abbrev pub AhtRead : ℕ
AhtRead = 17

-- cells that are put
abbrev pub puts : (List ℕ → List ℕ) → State → Acted
puts f st = acted 0 (state (f st.cells) st.bins)

-- 23 where the bandwidth of a channel was never sent
unfoldable pub endmants_in : State → Acted
endmants_in st = cond (unknown_here st.cells) (acted 23 st) (puts endmants_by st)

unfoldable pub derived : ℕ → State → Acted
derived k st =
    cond (eqb k Numblks) (puts numblks_by st)
    (cond (eqb k Nfchans) (puts nfchans_by st)
    (cond (eqb k Fresh) (puts fresh_by st)
    (cond (eqb k Ncplblks) (puts ncplblks_by st)
    (cond (eqb k CplStrategies) (puts cpl_strategies_by st)
    (cond (eqb k ChStrategies) (puts ch_strategies_by st)
    (cond (eqb k Regions) (puts regions_by st)
    (cond (eqb k Blkstrtinfo) (puts blkstrtinfo_by st)
    (cond (eqb k SpxRange) (puts spx_range_by st)
    (cond (eqb k Nspxbnds) (puts nspxbnds_by st)
    (cond (eqb k CplRange) (puts cpl_range_by st)
    (cond (eqb k Ncplbnd) (puts ncplbnd_by st)
    (cond (eqb k Nrematbd) (puts nrematbd_by st)
    (cond (eqb k Endmants) (endmants_in st)
    (cond (eqb k Defaults) (puts defaults_by st)
    (cond (eqb k Allocation) (allocate_in st)
    (cond (eqb k AhtRead) (puts aht_read_by st)
    (acted 0 st)))))))))))))))))
