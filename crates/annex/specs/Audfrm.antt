-- audfrm (TS 102 366 E.1.2.3, A/52 E2.2.3). Each element with its name, index, width in bits, and the cell that keeps its value for what steers the rest.
use Rattle.std.specs.Prelude.{◌+◌, ◌-◌}
use Rattle.names.specs.Names.{ahte, bamode, blkstrtinfo, blkstrtinfoe, blkswe, chahtinu, chexpstr, chinspxatten, chintransproc, convexpstr, convexpstre, cplahtinu, cplexpstr, cplinu, cplstre, dbaflde, dithflage, expstre, frmchexpstr, frmcplexpstr, frmcsnroffst, frmfgaincode, frmfsnroffst, lfeahtinu, lfeexpstr, skipflde, snroffststr, spxattencod, spxattene, transproce, transproclen, transprocloc}
use Rattle.cells.specs.Names.{ACMOD, AHTE, AHTINU, BAMODE, BLK, BLKSTRTINFOE, BLKSWE, CH, CHEXPSTR, CHINSPXATTEN, CHINTRANSPROC, CONVEXPSTRE, CPLEXPSTR, CPLINUS, CPLSTRE, CSNROFFST, DBAFLDE, DITHFLAGE, EXPSTRE, FRMCHEXPSTR, FRMCPLEXPSTR, FRMFGAINCODE, FRMFSNROFFST, FSNROFFST, LFEEXPSTR, LFEON, NCHREGS, NCPLBLKS, NCPLREGS, NFCHANS, NLFEREGS, NUMBLKS, NUMBLKSCOD, SKIPFLDE, SNROFFSTSTR, SPXATTENE, STRMTYP, TRANSPROCE, WIDTH}
use Rattle.derivations.specs.Derivations.{Blkstrtinfo, ChStrategies, CplStrategies, Fresh, Ncplblks, Regions}
use Rattle.rows.specs.Syntax.{Is, Not, Above, Block, end, ◌⨾◌, ◌⧺◌, element, elements, span, when, reject, each, put, fill, derive, cell, at, at2, no, none, nth, by, from, upto, number, copy}

-- audio frame exist flags and strategy flags
unfoldable pub flags : Block
flags =
    derive Fresh
    ⨾ when (Is (cell NUMBLKSCOD) 3) (element expstre none 1 (cell EXPSTRE) ⨾ element ahte none 1 (cell AHTE) ⨾ end)
    ⨾ when (Not (cell NUMBLKSCOD) 3) (put (cell EXPSTRE) (number 1) ⨾ put (cell AHTE) (number 0) ⨾ end)
    ⨾ element snroffststr none 2 (cell SNROFFSTSTR)
    ⨾ reject (Is (cell SNROFFSTSTR) 3) 7
    ⨾ element transproce none 1 (cell TRANSPROCE)
    ⨾ element blkswe none 1 (cell BLKSWE)
    ⨾ element dithflage none 1 (cell DITHFLAGE)
    ⨾ element bamode none 1 (cell BAMODE)
    ⨾ element frmfgaincode none 1 (cell FRMFGAINCODE)
    ⨾ element dbaflde none 1 (cell DBAFLDE)
    ⨾ element skipflde none 1 (cell SKIPFLDE)
    ⨾ element spxattene none 1 (cell SPXATTENE)
    ⨾ end

-- coupling data: the use of coupling, block by block
unfoldable pub coupling : Block
coupling =
    when (Above (cell ACMOD) 1)
    (put (cell CPLSTRE) (number 1)
    ⨾ element cplinu (nth 0) 1 (cell CPLINUS)
    ⨾ each BLK (from 1) (upto NUMBLKS)
    (element cplstre (by BLK) 1 (at CPLSTRE BLK)
    ⨾ when (Is (at CPLSTRE BLK) 1) (element cplinu (by BLK) 1 (at CPLINUS BLK) ⨾ end)
    ⨾ when (Is (at CPLSTRE BLK) 0) (put (at CPLINUS BLK) (copy (at (CPLINUS - 1) BLK)) ⨾ end)
    ⨾ end)
    ⨾ end)
    ⨾ derive Ncplblks
    ⨾ end

-- exponent strategy data. Strategies come block by block, coupling first; or one code for six blocks, for coupling and for each channel
unfoldable pub strategies : Block
strategies =
    when (Is (cell EXPSTRE) 1)
    (each BLK (from 0) (upto NUMBLKS)
    (when (Is (at CPLINUS BLK) 1) (element cplexpstr (by BLK) 2 (at CPLEXPSTR BLK) ⨾ end)
    ⨾ elements chexpstr (by BLK) 2 (at2 CHEXPSTR CH BLK) CH 0 NFCHANS
    ⨾ end)
    ⨾ end)
    ⨾ when (Is (cell EXPSTRE) 0)
    (when (Above (cell ACMOD) 1)
    (when (Above (cell NCPLBLKS) 0) (element frmcplexpstr none 5 (cell FRMCPLEXPSTR) ⨾ derive CplStrategies ⨾ end)
    ⨾ end)
    ⨾ each CH (from 0) (upto NFCHANS) (element frmchexpstr (by CH) 5 (cell FRMCHEXPSTR) ⨾ derive ChStrategies ⨾ end)
    ⨾ end)
    ⨾ when (Is (cell LFEON) 1) (elements lfeexpstr (by BLK) 1 (at LFEEXPSTR BLK) BLK 0 NUMBLKS ⨾ end)
    ⨾ when (Is (cell STRMTYP) 0)
    (when (Not (cell NUMBLKSCOD) 3) (element convexpstre none 1 (cell CONVEXPSTRE) ⨾ end)
    ⨾ when (Is (cell NUMBLKSCOD) 3) (put (cell CONVEXPSTRE) (number 1) ⨾ end)
    ⨾ when (Is (cell CONVEXPSTRE) 1) (elements convexpstr (by CH) 5 no CH 0 NFCHANS ⨾ end)
    ⨾ end)
    ⨾ end

-- adaptive hybrid transform data
unfoldable pub hybrid : Block
hybrid =
    when (Is (cell AHTE) 1)
    (derive Regions
    ⨾ when (Is (cell NCPLBLKS) 6) (when (Is (cell NCPLREGS) 1) (element cplahtinu none 1 (cell (AHTINU + 5)) ⨾ end) ⨾ end)
    ⨾ each CH (from 0) (upto NFCHANS) (when (Is (at NCHREGS CH) 1) (element chahtinu (by CH) 1 (at AHTINU CH) ⨾ end) ⨾ end)
    ⨾ when (Is (cell LFEON) 1) (when (Is (cell NLFEREGS) 1) (element lfeahtinu none 1 (cell (AHTINU + 6)) ⨾ end) ⨾ end)
    ⨾ end)
    ⨾ end

-- audio frame SNR offset data, transient pre-noise processing data, spectral extension attenuation data, block start information
unfoldable pub offsets : Block
offsets =
    when (Is (cell SNROFFSTSTR) 0)
    (element frmcsnroffst none 6 (cell CSNROFFST)
    ⨾ element frmfsnroffst none 4 (cell FRMFSNROFFST)
    ⨾ fill FSNROFFST 7 0 1 (cell FRMFSNROFFST)
    ⨾ end)
    ⨾ when (Is (cell TRANSPROCE) 1)
    (each CH (from 0) (upto NFCHANS)
    (element chintransproc (by CH) 1 (cell CHINTRANSPROC)
    ⨾ when (Is (cell CHINTRANSPROC) 1) (element transprocloc (by CH) 10 no ⨾ element transproclen (by CH) 8 no ⨾ end)
    ⨾ end)
    ⨾ end)
    ⨾ when (Is (cell SPXATTENE) 1)
    (each CH (from 0) (upto NFCHANS)
    (element chinspxatten (by CH) 1 (cell CHINSPXATTEN)
    ⨾ when (Is (cell CHINSPXATTEN) 1) (element spxattencod (by CH) 5 no ⨾ end)
    ⨾ end)
    ⨾ end)
    ⨾ when (Not (cell NUMBLKSCOD) 0)
    (element blkstrtinfoe none 1 (cell BLKSTRTINFOE)
    ⨾ when (Is (cell BLKSTRTINFOE) 1) (derive Blkstrtinfo ⨾ span blkstrtinfo WIDTH ⨾ end)
    ⨾ end)
    ⨾ end

unfoldable pub audfrm : Block
audfrm = flags ⧺ coupling ⧺ strategies ⧺ hybrid ⧺ offsets
