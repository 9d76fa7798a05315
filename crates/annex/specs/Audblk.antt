-- audblk (TS 102 366 E.1.2.4, A/52 E2.2.4): one block. Each element with its name, index, width in bits, and the cell that keeps its value for what steers the rest.
use Rattle.std.specs.Prelude.{◌+◌}
use Rattle.names.specs.Names.{baie, blkfsnroffst, blksw, chbwcod, chincpl, chinspx, convsnroffst, convsnroffste, cplabsexp, cplbegf, cplbndstrc, cplbndstrce, cplcoe, cplcoexp, cplcomant, cpldeltba, cpldeltbae, cpldeltlen, cpldeltnseg, cpldeltoffst, cplendf, cplexps, cplfgaincod, cplfleak, cplfsnroffst, cplleake, cplsleak, csnroffst, dbpbcod, deltba, deltbae, deltbaie, deltlen, deltnseg, deltoffst, dithflag, dynrng, dynrng2, dynrng2e, dynrnge, ecplinu, exps_ch, exps_ch_0, fdcycod, fgaincod, fgaincode, floorcod, fsnroffst, gainrng, lfeexps, lfeexps_0, lfefgaincod, lfefsnroffst, mstrcplco, mstrspxco, phsflg, phsflginu, rematflg, rematstr, sdcycod, sgaincod, skipfld, skipl, skiple, snroffste, spxbegf, spxblnd, spxbndstrc, spxbndstrce, spxcoe, spxcoexp, spxcomant, spxendf, spxinu, spxstre, spxstrtf, mantissas as mantissas-of-block}
use Rattle.cells.specs.Names.{ABSEXP, ACMOD, BAI_SENT, BAIE, BAMODE, BLK, BLKFSNROFFST, BLKSWE, BLOCK, BLOCK_STARTS, BND, CH, CHBWCOD, CHBWSENT, CHEXPSTR, CHINCPL, CHINSPX, CONVSNROFFSTE, CPL_BLOCKS, CPL_SUBND_END, CPLBEGF, CPLBNDSTRC, CPLBNDSTRCE, CPLCOE, CPLEND, CPLENDF, CPLEXPSTR, CPLFLEAK, CPLINU, CPLINUS, CPLLEAKE, CPLSLEAK, CPLSTRE, CPLSTRT, CSNROFFST, DBAFLDE, DBPBCOD, DELTBA, DELTBAE, DELTBAIE, DELTLEN, DELTNSEG, DELTOFFST, DITHFLAGE, DYNRNG2E, DYNRNGE, ECPLINU, ENDMANT, FDCYCOD, FGAINCOD, FGAINCODE, FIRSTCPLCOS, FIRSTCPLLEAK, FIRSTSPXCOS, FLOORCOD, FRMFGAINCODE, FSNROFFST, HELDEND, HELDSTRT, LFEEXPSTR, LFEON, MANTISSA_STARTS, NCPLBND, NCPLSUBND, NFCHANS, NREMATBD, NSEG, NSPXBNDS, PHSFLGE, PHSFLGINU, REMATSTR, SDCYCOD, SEG, SGAINCOD, SKIPFLDE, SKIPL, SKIPLE, SLOT, SNROFFSTE, SNROFFSTSTR, SPX_BEGIN, SPX_BLOCKS, SPX_END, SPXBEGF, SPXBNDSTRC, SPXBNDSTRCE, SPXCOE, SPXENDF, SPXINU, SPXSTRE, STRMTYP, SUB, TAGS, WIDTH}
use Rattle.derivations.specs.Derivations.{AhtRead, Allocation, CplRange, Defaults, Endmants, Ncplbnd, Nrematbd, Nspxbnds, SpxRange}
use Rattle.rows.specs.Syntax.{Cell, Word, Is, Not, Above, Differs, Over, AtLeast, Here, Let, Plus, Minus, Held, Block, end, ◌⨾◌, ◌⧺◌, element, elements, span, mantissas, exponents, when, reject, each, put, fill, derive, held, cell, at, at2, no, none, nth, by, from, after, upto, slot, slot_of, number, copy}

-- block switch and dither flags, dynamic range control
unfoldable pub dynamics : Block
dynamics =
    put (cell BLOCK) (Let 1 1 (cell BLK))
    ⨾ put (at BLOCK_STARTS BLK) Here
    ⨾ when (Is (cell BLKSWE) 1) (elements blksw (by CH) 1 no CH 0 NFCHANS ⨾ end)
    ⨾ when (Is (cell DITHFLAGE) 1) (elements dithflag (by CH) 1 no CH 0 NFCHANS ⨾ end)
    ⨾ element dynrnge none 1 (cell DYNRNGE)
    ⨾ when (Is (cell DYNRNGE) 1) (element dynrng none 8 no ⨾ end)
    ⨾ when (Is (cell ACMOD) 0)
    (element dynrng2e none 1 (cell DYNRNG2E)
    ⨾ when (Is (cell DYNRNG2E) 1) (element dynrng2 none 8 no ⨾ end)
    ⨾ end)
    ⨾ end

-- spectral extension strategy information
unfoldable pub spx_strategy : Block
spx_strategy =
    when (Is (cell BLK) 0) (put (cell SPXSTRE) (number 1) ⨾ end)
    ⨾ when (Not (cell BLK) 0) (element spxstre none 1 (cell SPXSTRE) ⨾ end)
    ⨾ when (Is (cell SPXSTRE) 1)
    (element spxinu none 1 (cell SPXINU)
    ⨾ when (Is (cell SPXINU) 1)
    (when (Is (cell ACMOD) 1) (put (cell CHINSPX) (number 1) ⨾ end)
    ⨾ when (Not (cell ACMOD) 1) (elements chinspx (by CH) 1 (at CHINSPX CH) CH 0 NFCHANS ⨾ end)
    ⨾ element spxstrtf none 2 no
    ⨾ element spxbegf none 3 (cell SPXBEGF)
    ⨾ element spxendf none 3 (cell SPXENDF)
    ⨾ derive SpxRange
    ⨾ reject (AtLeast (cell SPX_BEGIN) (held SPX_END)) 21
    ⨾ element spxbndstrce none 1 (cell SPXBNDSTRCE)
    ⨾ when (Is (cell SPXBNDSTRCE) 1)
    (each BND (after SPX_BEGIN) (upto SPX_END) (element spxbndstrc (by BND) 1 (at SPXBNDSTRC BND) ⨾ end)
    ⨾ end)
    ⨾ derive Nspxbnds
    ⨾ end)
    ⨾ when (Is (cell SPXINU) 0) (fill CHINSPX 5 0 0 no ⨾ fill FIRSTSPXCOS 5 1 0 no ⨾ end)
    ⨾ end)
    ⨾ end

-- spectral extension coordinates
unfoldable pub spx_coordinates : Block
spx_coordinates =
    when (Is (cell SPXINU) 1)
    (put (cell SPX_BLOCKS) (Let 1 1 (cell SPX_BLOCKS))
    ⨾ each CH (from 0) (upto NFCHANS)
    (when (Is (at CHINSPX CH) 1)
    (when (Is (at FIRSTSPXCOS CH) 0) (element spxcoe (by CH) 1 (cell SPXCOE) ⨾ end)
    ⨾ when (Is (at FIRSTSPXCOS CH) 1) (put (cell SPXCOE) (number 1) ⨾ put (at FIRSTSPXCOS CH) (number 0) ⨾ end)
    ⨾ when (Is (cell SPXCOE) 1)
    (element spxblnd (by CH) 5 no
    ⨾ element mstrspxco (by CH) 2 no
    ⨾ each BND (from 0) (upto NSPXBNDS) (element spxcoexp (by CH) 4 no ⨾ element spxcomant (by CH) 2 no ⨾ end)
    ⨾ end)
    ⨾ end)
    ⨾ when (Is (at CHINSPX CH) 0) (put (at FIRSTSPXCOS CH) (number 1) ⨾ end)
    ⨾ end)
    ⨾ end)
    ⨾ end

-- coupling strategy information. Enhanced coupling is refused
unfoldable pub cpl_strategy : Block
cpl_strategy =
    put (cell CPLINU) (copy (at CPLINUS BLK))
    ⨾ when (Is (at CPLSTRE BLK) 1)
    (when (Is (cell CPLINU) 1)
    (element ecplinu none 1 (cell ECPLINU)
    ⨾ reject (Is (cell ECPLINU) 1) 9
    ⨾ when (Is (cell ACMOD) 2) (fill CHINCPL 2 1 0 no ⨾ element phsflginu none 1 (cell PHSFLGINU) ⨾ end)
    ⨾ when (Not (cell ACMOD) 2)
    (elements chincpl (by CH) 1 (at CHINCPL CH) CH 0 NFCHANS
    ⨾ put (cell PHSFLGINU) (number 0)
    ⨾ end)
    ⨾ element cplbegf none 4 (cell CPLBEGF)
    ⨾ when (Is (cell SPXINU) 0) (element cplendf none 4 (cell CPLENDF) ⨾ end)
    ⨾ derive CplRange
    ⨾ reject (AtLeast (cell CPLBEGF) (held CPL_SUBND_END)) 22
    ⨾ put (cell NCPLSUBND) (Minus (cell CPL_SUBND_END) CPLBEGF)
    ⨾ element cplbndstrce none 1 (cell CPLBNDSTRCE)
    ⨾ when (Is (cell CPLBNDSTRCE) 1)
    (each BND (from 1) (upto NCPLSUBND)
    (put (cell SUB) (Plus (cell BND) CPLBEGF)
    ⨾ element cplbndstrc (by BND) 1 (at CPLBNDSTRC SUB)
    ⨾ end)
    ⨾ end)
    ⨾ derive Ncplbnd
    ⨾ end)
    ⨾ when (Is (cell CPLINU) 0)
    (fill CHINCPL 5 0 0 no
    ⨾ fill FIRSTCPLCOS 5 1 0 no
    ⨾ put (cell FIRSTCPLLEAK) (number 1)
    ⨾ put (cell PHSFLGINU) (number 0)
    ⨾ end)
    ⨾ end)
    ⨾ end

-- coupling coordinates and phase flags
unfoldable pub cpl_coordinates : Block
cpl_coordinates =
    when (Is (cell CPLINU) 1)
    (put (cell CPL_BLOCKS) (Let 1 1 (cell CPL_BLOCKS))
    ⨾ fill CPLCOE 5 0 0 no
    ⨾ each CH (from 0) (upto NFCHANS)
    (when (Is (at CHINCPL CH) 1)
    (when (Is (at FIRSTCPLCOS CH) 0) (element cplcoe (by CH) 1 (at CPLCOE CH) ⨾ end)
    ⨾ when (Is (at FIRSTCPLCOS CH) 1) (put (at CPLCOE CH) (number 1) ⨾ put (at FIRSTCPLCOS CH) (number 0) ⨾ end)
    ⨾ when (Is (at CPLCOE CH) 1)
    (element mstrcplco (by CH) 2 no
    ⨾ each BND (from 0) (upto NCPLBND) (element cplcoexp (by CH) 4 no ⨾ element cplcomant (by CH) 4 no ⨾ end)
    ⨾ end)
    ⨾ end)
    ⨾ when (Is (at CHINCPL CH) 0) (put (at FIRSTCPLCOS CH) (number 1) ⨾ end)
    ⨾ end)
    ⨾ when (Is (cell ACMOD) 2)
    (when (Is (cell PHSFLGINU) 1)
    (put (cell PHSFLGE) (Plus (cell CPLCOE) (CPLCOE + 1))
    ⨾ when (Above (cell PHSFLGE) 0) (elements phsflg (by BND) 1 no BND 0 NCPLBND ⨾ end)
    ⨾ end)
    ⨾ end)
    ⨾ end)
    ⨾ end

-- rematrixing operation in the 2/0 mode
unfoldable pub rematrixing : Block
rematrixing =
    when (Is (cell ACMOD) 2)
    (when (Is (cell BLK) 0) (put (cell REMATSTR) (number 1) ⨾ end)
    ⨾ when (Not (cell BLK) 0) (element rematstr none 1 (cell REMATSTR) ⨾ end)
    ⨾ when (Is (cell REMATSTR) 1) (derive Nrematbd ⨾ elements rematflg (by BND) 1 no BND 0 NREMATBD ⨾ end)
    ⨾ end)
    ⨾ end

-- channel bandwidth code
unfoldable pub bandwidth : Block
bandwidth =
    each CH (from 0) (upto NFCHANS)
    (when (Not (at2 CHEXPSTR CH BLK) 0)
    (when (Is (at CHINCPL CH) 0)
    (when (Is (at CHINSPX CH) 0)
    (element chbwcod (by CH) 6 (at CHBWCOD CH)
    ⨾ reject (Over (at CHBWCOD CH) (Word 60)) 10
    ⨾ put (at CHBWSENT CH) (number 1)
    ⨾ end)
    ⨾ end)
    ⨾ end)
    ⨾ end)
    ⨾ derive Endmants
    ⨾ end

-- exponents for the coupling channel, for the full bandwidth channels, for the LFE channel; or those that are held, which must fit
unfoldable pub exponents_of_block : Block
exponents_of_block =
    when (Is (cell CPLINU) 1)
    (when (Not (at CPLEXPSTR BLK) 0)
    (element cplabsexp (nth 0) 4 (cell ABSEXP)
    ⨾ exponents (slot 5) cplexps (nth 0)
    ⨾ put (cell HELDSTRT) (copy (cell CPLSTRT))
    ⨾ put (cell (HELDEND + 5)) (copy (cell CPLEND))
    ⨾ end)
    ⨾ when (Is (at CPLEXPSTR BLK) 0)
    (reject (Differs (cell HELDSTRT) (held CPLSTRT)) 24
    ⨾ reject (Differs (cell (HELDEND + 5)) (held CPLEND)) 24
    ⨾ end)
    ⨾ end)
    ⨾ each CH (from 0) (upto NFCHANS)
    (when (Not (at2 CHEXPSTR CH BLK) 0)
    (element exps_ch_0 (by CH) 4 (cell ABSEXP)
    ⨾ exponents (slot_of CH) exps_ch (by CH)
    ⨾ element gainrng (by CH) 2 no
    ⨾ put (at HELDEND CH) (copy (at ENDMANT CH))
    ⨾ end)
    ⨾ when (Is (at2 CHEXPSTR CH BLK) 0) (reject (Differs (at HELDEND CH) (Cell (at ENDMANT CH))) 25 ⨾ end)
    ⨾ end)
    ⨾ when (Is (cell LFEON) 1)
    (when (Not (at LFEEXPSTR BLK) 0)
    (element lfeexps_0 (nth 0) 4 (cell ABSEXP)
    ⨾ exponents (slot 6) lfeexps (nth 0)
    ⨾ put (cell (HELDEND + 6)) (number 7)
    ⨾ end)
    ⨾ when (Is (at LFEEXPSTR BLK) 0) (reject (Is (cell (HELDEND + 6)) 0) 26 ⨾ end)
    ⨾ end)
    ⨾ end

-- bit allocation parametric information, SNR offsets, fast gains, converter SNR offset and coupling leak
unfoldable pub parameters : Block
parameters =
    when (Is (cell BAMODE) 1)
    (element baie none 1 (cell BAIE)
    ⨾ when (Is (cell BAIE) 1)
    (element sdcycod none 2 (cell SDCYCOD)
    ⨾ element fdcycod none 2 (cell FDCYCOD)
    ⨾ element sgaincod none 2 (cell SGAINCOD)
    ⨾ element dbpbcod none 2 (cell DBPBCOD)
    ⨾ element floorcod none 3 (cell FLOORCOD)
    ⨾ put (cell BAI_SENT) (number 1)
    ⨾ end)
    ⨾ end)
    ⨾ when (Is (cell BAMODE) 0) (derive Defaults ⨾ end)
    ⨾ when (Not (cell SNROFFSTSTR) 0)
    (when (Is (cell BLK) 0) (put (cell SNROFFSTE) (number 1) ⨾ end)
    ⨾ when (Not (cell BLK) 0) (element snroffste none 1 (cell SNROFFSTE) ⨾ end)
    ⨾ when (Is (cell SNROFFSTE) 1)
    (element csnroffst none 6 (cell CSNROFFST)
    ⨾ when (Is (cell SNROFFSTSTR) 1)
    (element blkfsnroffst none 4 (cell BLKFSNROFFST)
    ⨾ fill FSNROFFST 7 0 1 (cell BLKFSNROFFST)
    ⨾ end)
    ⨾ when (Is (cell SNROFFSTSTR) 2)
    (when (Is (cell CPLINU) 1) (element cplfsnroffst none 4 (cell (FSNROFFST + 5)) ⨾ end)
    ⨾ elements fsnroffst (by CH) 4 (at FSNROFFST CH) CH 0 NFCHANS
    ⨾ when (Is (cell LFEON) 1) (element lfefsnroffst none 4 (cell (FSNROFFST + 6)) ⨾ end)
    ⨾ end)
    ⨾ end)
    ⨾ end)
    ⨾ when (Is (cell FRMFGAINCODE) 1) (element fgaincode none 1 (cell FGAINCODE) ⨾ end)
    ⨾ when (Is (cell FRMFGAINCODE) 0) (put (cell FGAINCODE) (number 0) ⨾ end)
    ⨾ when (Is (cell FGAINCODE) 1)
    (when (Is (cell CPLINU) 1) (element cplfgaincod none 3 (cell (FGAINCOD + 5)) ⨾ end)
    ⨾ elements fgaincod (by CH) 3 (at FGAINCOD CH) CH 0 NFCHANS
    ⨾ when (Is (cell LFEON) 1) (element lfefgaincod none 3 (cell (FGAINCOD + 6)) ⨾ end)
    ⨾ end)
    ⨾ when (Is (cell FGAINCODE) 0) (fill FGAINCOD 7 4 0 no ⨾ end)
    ⨾ when (Is (cell STRMTYP) 0)
    (element convsnroffste none 1 (cell CONVSNROFFSTE)
    ⨾ when (Is (cell CONVSNROFFSTE) 1) (element convsnroffst none 10 no ⨾ end)
    ⨾ end)
    ⨾ when (Is (cell CPLINU) 1)
    (when (Is (cell FIRSTCPLLEAK) 0) (element cplleake none 1 (cell CPLLEAKE) ⨾ end)
    ⨾ when (Is (cell FIRSTCPLLEAK) 1) (put (cell CPLLEAKE) (number 1) ⨾ put (cell FIRSTCPLLEAK) (number 0) ⨾ end)
    ⨾ when (Is (cell CPLLEAKE) 1) (element cplfleak none 3 (cell CPLFLEAK) ⨾ element cplsleak none 3 (cell CPLSLEAK) ⨾ end)
    ⨾ end)
    ⨾ end

-- delta bit allocation information. All codes come before the first segments: 0 keeps those that are held, which block 0 has none of; 1 is followed
-- by new ones; 2 has none; 3 is reserved
unfoldable pub deltas : Block
deltas =
    when (Is (cell DBAFLDE) 1)
    (element deltbaie none 1 (cell DELTBAIE)
    ⨾ when (Is (cell DELTBAIE) 1)
    (when (Is (cell CPLINU) 1)
    (element cpldeltbae none 2 (cell (DELTBAE + 5))
    ⨾ reject (Is (cell (DELTBAE + 5)) 3) 12
    ⨾ when (Is (cell BLK) 0) (reject (Is (cell (DELTBAE + 5)) 0) 28 ⨾ end)
    ⨾ when (Is (cell (DELTBAE + 5)) 2) (put (cell (DELTNSEG + 5)) (number 0) ⨾ end)
    ⨾ end)
    ⨾ each CH (from 0) (upto NFCHANS)
    (element deltbae (by CH) 2 (at DELTBAE CH)
    ⨾ reject (Is (at DELTBAE CH) 3) 12
    ⨾ when (Is (cell BLK) 0) (reject (Is (at DELTBAE CH) 0) 28 ⨾ end)
    ⨾ when (Is (at DELTBAE CH) 2) (put (at DELTNSEG CH) (number 0) ⨾ end)
    ⨾ end)
    ⨾ when (Is (cell CPLINU) 1)
    (when (Is (cell (DELTBAE + 5)) 1)
    (put (cell SLOT) (number 5)
    ⨾ element cpldeltnseg (nth 5) 3 (cell NSEG)
    ⨾ put (cell (DELTNSEG + 5)) (Let 1 1 (cell NSEG))
    ⨾ each SEG (from 0) (upto (DELTNSEG + 5))
    (element cpldeltoffst (nth 5) 5 (at2 DELTOFFST SEG SLOT)
    ⨾ element cpldeltlen (nth 5) 4 (at2 DELTLEN SEG SLOT)
    ⨾ element cpldeltba (nth 5) 3 (at2 DELTBA SEG SLOT)
    ⨾ end)
    ⨾ end)
    ⨾ end)
    ⨾ each CH (from 0) (upto NFCHANS)
    (when (Is (at DELTBAE CH) 1)
    (put (cell SLOT) (copy (cell CH))
    ⨾ element deltnseg (by CH) 3 (cell NSEG)
    ⨾ put (at DELTNSEG CH) (Let 1 1 (cell NSEG))
    ⨾ each SEG (from 0) (Held (at DELTNSEG CH))
    (element deltoffst (by CH) 5 (at2 DELTOFFST SEG SLOT)
    ⨾ element deltlen (by CH) 4 (at2 DELTLEN SEG SLOT)
    ⨾ element deltba (by CH) 3 (at2 DELTBA SEG SLOT)
    ⨾ end)
    ⨾ end)
    ⨾ end)
    ⨾ end)
    ⨾ end)
    ⨾ end

-- inclusion of unused dummy data
unfoldable pub skip_field : Block
skip_field =
    when (Is (cell SKIPFLDE) 1)
    (element skiple none 1 (cell SKIPLE)
    ⨾ when (Is (cell SKIPLE) 1)
    (element skipl none 9 (cell SKIPL)
    ⨾ put (cell WIDTH) (Let 0 8 (cell SKIPL))
    ⨾ span skipfld WIDTH
    ⨾ end)
    ⨾ end)
    ⨾ end

-- quantized mantissa values, by the bit allocation
unfoldable pub quantized : Block
quantized =
    derive Allocation
    ⨾ put (at MANTISSA_STARTS BLK) Here
    ⨾ mantissas mantissas-of-block (cell TAGS)
    ⨾ derive AhtRead
    ⨾ end

unfoldable pub audblk : Block
audblk =
    dynamics ⧺ spx_strategy ⧺ spx_coordinates ⧺ cpl_strategy ⧺ cpl_coordinates ⧺ rematrixing ⧺ bandwidth ⧺ exponents_of_block ⧺ parameters ⧺ deltas ⧺ skip_field ⧺ quantized
