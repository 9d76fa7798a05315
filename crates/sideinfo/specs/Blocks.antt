-- What is derived in a block: of each, the cells that it puts; and 23 where a channel's bandwidth was never sent.
use Rattle.std.specs.Prelude.{ℕ, zero, suc, ◌+◌, ◌-◌, ◌*◌, min, Bool, false, cond, not, ◌&&◌, ◌||◌, List, ltb, eqb}
use Rattle.cells.specs.Cells.{cell_of, put_in}
use Rattle.sideinfo.specs.Steps.{each_of}
use Rattle.sideinfo.specs.Frames.{holding}
use Rattle.cells.specs.Names.{AHT_READ, AHT_TAGS, AHTINU, BLK, CHBWCOD, CHBWSENT, CHINCPL, CHINSPX, CPL_SUBND_END, CPLBEGF, CPLBNDSTRC, CPLEND, CPLENDF, CPLINU, CPLSTRT, ENDMANT, LFEON, NCPLBND, NFCHANS, NREMATBD, NSPXBNDS, SLOT_BITS, SPX_BEGIN, SPX_END, SPXBEGF, SPXBNDSTRC, SPXENDF, SPXINU, TAGS}

-- spx_begin_subbnd and spx_end_subbnd (E.2.3)
unfoldable pub spx_range_by : List ℕ → List ℕ
spx_range_by m =
    put_in (put_in m SPX_BEGIN (cond (ltb (cell_of m SPXBEGF) 6) (cell_of m SPXBEGF + 2) (2 * cell_of m SPXBEGF - 3)))
    SPX_END (cond (ltb (cell_of m SPXENDF) 3) (cell_of m SPXENDF + 5) (2 * cell_of m SPXENDF + 3))

-- the bands of the sub-bands from b up to e, whose structure lies from the cell k on: the first begins one, and so does each whose bit is 0
abbrev pub bands_of : List ℕ → ℕ → ℕ → ℕ → ℕ
bands_of m k b e = 1 + holding m (k + b + 1) 0 (e - (b + 1))

-- nspxbnds
unfoldable pub nspxbnds_by : List ℕ → List ℕ
nspxbnds_by m = put_in m NSPXBNDS (bands_of m SPXBNDSTRC (cell_of m SPX_BEGIN) (cell_of m SPX_END))

-- the first sub-band past the coupling range. cplendf is sent, or it is spxbegf - 2 or 2 spxbegf - 7 where spectral extension is in use
unfoldable pub cpl_range_by : List ℕ → List ℕ
cpl_range_by m =
    put_in m CPL_SUBND_END
    (cond (eqb (cell_of m SPXINU) 1) (cond (ltb (cell_of m SPXBEGF) 6) (cell_of m SPXBEGF + 1) (2 * cell_of m SPXBEGF - 4)) (cell_of m CPLENDF + 3))

-- ncplbnd
unfoldable pub ncplbnd_by : List ℕ → List ℕ
ncplbnd_by m = put_in m NCPLBND (bands_of m CPLBNDSTRC (cell_of m CPLBEGF) (cell_of m CPL_SUBND_END))

-- the number of rematrixing bands (E.2.3.2)
unfoldable pub nrematbd_by : List ℕ → List ℕ
nrematbd_by m =
    put_in m NREMATBD
    (cond (eqb (cell_of m CPLINU) 1) (cond (eqb (cell_of m CPLBEGF) 0) 2 (cond (ltb (cell_of m CPLBEGF) 3) 3 4))
    (cond (eqb (cell_of m SPXINU) 1 && ltb (cell_of m SPXBEGF) 2) 3 4))

abbrev pub flag_of : List ℕ → ℕ → Bool
flag_of m k = eqb (cell_of m k) 1

-- cplstrtmant and cplendmant
unfoldable pub cpl_bins_by : List ℕ → List ℕ
cpl_bins_by m = put_in (put_in m CPLSTRT (37 + 12 * cell_of m CPLBEGF)) CPLEND (37 + 12 * cell_of m CPL_SUBND_END)

-- a channel is coupled; or extended
abbrev pub coupled_in : List ℕ → ℕ → Bool
coupled_in m ch = flag_of m CPLINU && flag_of m (CHINCPL + ch)

abbrev pub extended_in : List ℕ → ℕ → Bool
extended_in m ch = flag_of m SPXINU && flag_of m (CHINSPX + ch)

-- endmant of a channel: where coupling begins, where spectral extension begins, or by its bandwidth code
unfoldable pub endmant_of : List ℕ → ℕ → ℕ
endmant_of m ch =
    cond (coupled_in m ch) (cell_of m CPLSTRT)
    (cond (extended_in m ch) (25 + 12 * cell_of m SPX_BEGIN)
    (37 + 3 * (cell_of m (CHBWCOD + ch) + 12)))

-- a channel is neither, and its bandwidth code was never sent
unfoldable pub unknown_of : List ℕ → ℕ → Bool
unknown_of m ch = not (coupled_in m ch) && (not (extended_in m ch) && eqb (cell_of m (CHBWSENT + ch)) 0)

-- one of the first n channels is such
unfoldable pub unknown_in : List ℕ → ℕ → Bool
unknown_in m zero = false
unknown_in m (suc n) = unknown_in m n || unknown_of m n

-- the channels of the block
abbrev pub channels_of : List ℕ → ℕ
channels_of m = min (cell_of m NFCHANS) 5

abbrev pub unknown_here : List ℕ → Bool
unknown_here m = unknown_in m (channels_of m)

-- the ends of the first n channels
abbrev pub endmants_of : ℕ → List ℕ → List ℕ
endmants_of n m = each_of (λ ch x. put_in x (ENDMANT + ch) (endmant_of x ch)) n m

unfoldable pub endmants_by : List ℕ → List ℕ
endmants_by m = endmants_of (channels_of m) (cpl_bins_by m)

-- a cell that is 1 from now on
abbrev pub marked_in : Bool → ℕ → List ℕ → List ℕ
marked_in on k m = cond on (put_in m k 1) m

-- after the mantissas of a block: of the slots of the adaptive hybrid transform that of a channel is read, and coupling with a channel that is coupled
abbrev pub read_of : ℕ → List ℕ → List ℕ
read_of ch m =
    let x = marked_in (flag_of m (AHTINU + ch)) (AHT_READ + ch) m in
    marked_in (coupled_in x ch && flag_of x (AHTINU + 5)) (AHT_READ + 5) x

-- the bits that a slot took, kept by block
abbrev pub slot_bits_of : ℕ → List ℕ → List ℕ
slot_bits_of slot m = put_in m (SLOT_BITS + 8 * cell_of m BLK + slot) (cell_of m (TAGS + 1 + slot))

-- the tags so far, the bits of the slots, and the slots that are read
unfoldable pub aht_read_by : List ℕ → List ℕ
aht_read_by m =
    let x = each_of read_of (channels_of m) (each_of slot_bits_of 7 (put_in m AHT_TAGS (cell_of m AHT_TAGS + cell_of m TAGS))) in
    marked_in (flag_of x LFEON && flag_of x (AHTINU + 6)) (AHT_READ + 6) x
