-- bsi (TS 102 366 E.1.2.2, A/52 E2.2.2), after frmsiz. Each element with its name, index, width in bits, and the cell that keeps its value for what steers the rest.
use Rattle.std.specs.Prelude.{[], ◌∷◌}
use Rattle.names.specs.Names.{acmod, adconvtyp, adconvtyp2, addbsi, addbsie, addbsil, addche, addspchdat1e, addspchdate, audprodi2e, audprodie, blkid, blkmixcfginfo, blkmixcfginfoe, bsid, bsmod, chanmap, chanmape, compr, compr2, compr2e, compre, convsync, copyrightb, dheadphonmod, dialnorm, dialnorm2, dmixmod, dmixscl, drcsrc, dsurexmod, dsurmod, extpgmaux1scl, extpgmaux2scl, extpgmcscl, extpgmlfescl, extpgmlscl, extpgmlsscl, extpgmrscl, extpgmrsscl, extpgmscl, extpgmscle, frmmixcfginfoe, frmsizecod, fscod, infomdate, lfemixlevcod, lfemixlevcode, lfeon, lorocmixlev, lorosurmixlev, ltrtcmixlev, ltrtsurmixlev, mixdata, mixdata2e, mixdata3e, mixdef, mixdeflen, mixlevel, mixlevel2, mixmdate, numblkscod, origbs, paninfo, paninfo2, paninfo2e, paninfoe, panmean, panmean2, pgmscl, pgmscl2, pgmscl2e, pgmscle, premixcmpscl, premixcmpsel, roomtyp, roomtyp2, scale_exists, sourcefscod, spchan1att, spchan2att, spchdat, spchdat1, spchdat2}
use Rattle.rows.specs.Syntax.{Is, Not, Above, Below, Among, Over, Here, Let, Minus, Block, end, ◌⨾◌, element, span, when, reject, each, put, derive, held, cell, no, none, by, from, upto, number}
use Rattle.cells.specs.Names.{ACMOD, ADDBSIE, ADDBSIL, ADDCHE, ADDSPCHDAT1E, ADDSPCHDATE, AUDPRODI2E, AUDPRODIE, BLK, BLKID, BLKMIXCFGINFOE, BSID, CHANMAPE, COMPR2E, COMPRE, EXTPGMSCLE, FRMMIXCFGINFOE, FSCOD, INFOMDATE, LFEMIXLEVCODE, LFEON, MIXBITS, MIXDATA2E, MIXDATA3E, MIXDEF, MIXDEFLEN, MIXEND, MIXMDATE, MIXSTART, MIXUSED, NUMBLKS, NUMBLKSCOD, PANINFO2E, PANINFOE, PGMSCL2E, PGMSCLE, SCALE_EXISTS, STRMTYP, WIDTH}
use Rattle.derivations.specs.Derivations.{Nfchans, Numblks}

-- if mixdef is 3: 8 (mixdeflen + 2) bits in all; what is left of them is one span
unfoldable pub mixdef3 : Block
mixdef3 =
    element mixdeflen none 5 (cell MIXDEFLEN)
    ⨾ put (cell MIXSTART) Here
    ⨾ element mixdata2e none 1 (cell MIXDATA2E)
    ⨾ when (Is (cell MIXDATA2E) 1)
    (element premixcmpsel none 1 no
    ⨾ element drcsrc none 1 no
    ⨾ element premixcmpscl none 3 no
    ⨾ element scale_exists none 1 (cell SCALE_EXISTS)
    ⨾ when (Is (cell SCALE_EXISTS) 1) (element extpgmlscl none 4 no ⨾ end)
    ⨾ element scale_exists none 1 (cell SCALE_EXISTS)
    ⨾ when (Is (cell SCALE_EXISTS) 1) (element extpgmcscl none 4 no ⨾ end)
    ⨾ element scale_exists none 1 (cell SCALE_EXISTS)
    ⨾ when (Is (cell SCALE_EXISTS) 1) (element extpgmrscl none 4 no ⨾ end)
    ⨾ element scale_exists none 1 (cell SCALE_EXISTS)
    ⨾ when (Is (cell SCALE_EXISTS) 1) (element extpgmlsscl none 4 no ⨾ end)
    ⨾ element scale_exists none 1 (cell SCALE_EXISTS)
    ⨾ when (Is (cell SCALE_EXISTS) 1) (element extpgmrsscl none 4 no ⨾ end)
    ⨾ element scale_exists none 1 (cell SCALE_EXISTS)
    ⨾ when (Is (cell SCALE_EXISTS) 1) (element extpgmlfescl none 4 no ⨾ end)
    ⨾ element scale_exists none 1 (cell SCALE_EXISTS)
    ⨾ when (Is (cell SCALE_EXISTS) 1) (element dmixscl none 4 no ⨾ end)
    ⨾ element addche none 1 (cell ADDCHE)
    ⨾ when (Is (cell ADDCHE) 1)
    (element scale_exists none 1 (cell SCALE_EXISTS)
    ⨾ when (Is (cell SCALE_EXISTS) 1) (element extpgmaux1scl none 4 no ⨾ end)
    ⨾ element scale_exists none 1 (cell SCALE_EXISTS)
    ⨾ when (Is (cell SCALE_EXISTS) 1) (element extpgmaux2scl none 4 no ⨾ end)
    ⨾ end)
    ⨾ end)
    ⨾ element mixdata3e none 1 (cell MIXDATA3E)
    ⨾ when (Is (cell MIXDATA3E) 1)
    (element spchdat none 5 no
    ⨾ element addspchdate none 1 (cell ADDSPCHDATE)
    ⨾ when (Is (cell ADDSPCHDATE) 1)
    (element spchdat1 none 5 no
    ⨾ element spchan1att none 2 no
    ⨾ element addspchdat1e none 1 (cell ADDSPCHDAT1E)
    ⨾ when (Is (cell ADDSPCHDAT1E) 1) (element spchdat2 none 5 no ⨾ element spchan2att none 3 no ⨾ end)
    ⨾ end)
    ⨾ end)
    ⨾ put (cell MIXEND) Here
    ⨾ put (cell MIXUSED) (Minus (cell MIXEND) MIXSTART)
    ⨾ put (cell MIXBITS) (Let 16 8 (cell MIXDEFLEN))
    ⨾ reject (Over (cell MIXUSED) (held MIXBITS)) 20
    ⨾ put (cell WIDTH) (Minus (cell MIXBITS) MIXUSED)
    ⨾ span mixdata WIDTH
    ⨾ end

-- if mixmdate: mixing metadata
unfoldable pub mixing_metadata : Block
mixing_metadata =
    when (Above (cell ACMOD) 2) (element dmixmod none 2 no ⨾ end)
    ⨾ when (Among (cell ACMOD) (3 ∷ 5 ∷ 7 ∷ [])) (element ltrtcmixlev none 3 no ⨾ element lorocmixlev none 3 no ⨾ end)
    ⨾ when (Above (cell ACMOD) 3) (element ltrtsurmixlev none 3 no ⨾ element lorosurmixlev none 3 no ⨾ end)
    ⨾ when (Is (cell LFEON) 1)
    (element lfemixlevcode none 1 (cell LFEMIXLEVCODE)
    ⨾ when (Is (cell LFEMIXLEVCODE) 1) (element lfemixlevcod none 5 no ⨾ end)
    ⨾ end)
    ⨾ when (Is (cell STRMTYP) 0)
    (element pgmscle none 1 (cell PGMSCLE)
    ⨾ when (Is (cell PGMSCLE) 1) (element pgmscl none 6 no ⨾ end)
    ⨾ when (Is (cell ACMOD) 0)
    (element pgmscl2e none 1 (cell PGMSCL2E)
    ⨾ when (Is (cell PGMSCL2E) 1) (element pgmscl2 none 6 no ⨾ end)
    ⨾ end)
    ⨾ element extpgmscle none 1 (cell EXTPGMSCLE)
    ⨾ when (Is (cell EXTPGMSCLE) 1) (element extpgmscl none 6 no ⨾ end)
    ⨾ element mixdef none 2 (cell MIXDEF)
    ⨾ when (Is (cell MIXDEF) 1)
    (element premixcmpsel none 1 no
    ⨾ element drcsrc none 1 no
    ⨾ element premixcmpscl none 3 no
    ⨾ end)
    ⨾ when (Is (cell MIXDEF) 2) (element mixdata none 12 no ⨾ end)
    ⨾ when (Is (cell MIXDEF) 3) mixdef3
    ⨾ when (Below (cell ACMOD) 2)
    (element paninfoe none 1 (cell PANINFOE)
    ⨾ when (Is (cell PANINFOE) 1) (element panmean none 8 no ⨾ element paninfo none 6 no ⨾ end)
    ⨾ when (Is (cell ACMOD) 0)
    (element paninfo2e none 1 (cell PANINFO2E)
    ⨾ when (Is (cell PANINFO2E) 1) (element panmean2 none 8 no ⨾ element paninfo2 none 6 no ⨾ end)
    ⨾ end)
    ⨾ end)
    ⨾ element frmmixcfginfoe none 1 (cell FRMMIXCFGINFOE)
    ⨾ when (Is (cell FRMMIXCFGINFOE) 1)
    (when (Is (cell NUMBLKSCOD) 0) (element blkmixcfginfo none 5 no ⨾ end)
    ⨾ when (Not (cell NUMBLKSCOD) 0)
    (each BLK (from 0) (upto NUMBLKS)
    (element blkmixcfginfoe (by BLK) 1 (cell BLKMIXCFGINFOE)
    ⨾ when (Is (cell BLKMIXCFGINFOE) 1) (element blkmixcfginfo (by BLK) 5 no ⨾ end)
    ⨾ end)
    ⨾ end)
    ⨾ end)
    ⨾ end)
    ⨾ end

-- if infomdate: informational metadata
unfoldable pub informational_metadata : Block
informational_metadata =
    element bsmod none 3 no
    ⨾ element copyrightb none 1 no
    ⨾ element origbs none 1 no
    ⨾ when (Is (cell ACMOD) 2) (element dsurmod none 2 no ⨾ element dheadphonmod none 2 no ⨾ end)
    ⨾ when (Above (cell ACMOD) 5) (element dsurexmod none 2 no ⨾ end)
    ⨾ element audprodie none 1 (cell AUDPRODIE)
    ⨾ when (Is (cell AUDPRODIE) 1)
    (element mixlevel none 5 no
    ⨾ element roomtyp none 2 no
    ⨾ element adconvtyp none 1 no
    ⨾ end)
    ⨾ when (Is (cell ACMOD) 0)
    (element audprodi2e none 1 (cell AUDPRODI2E)
    ⨾ when (Is (cell AUDPRODI2E) 1)
    (element mixlevel2 none 5 no
    ⨾ element roomtyp2 none 2 no
    ⨾ element adconvtyp2 none 1 no
    ⨾ end)
    ⨾ end)
    ⨾ when (Below (cell FSCOD) 3) (element sourcefscod none 1 no ⨾ end)
    ⨾ end

unfoldable pub bsi : Block
bsi =
    element fscod none 2 (cell FSCOD)
    ⨾ reject (Is (cell FSCOD) 3) 5
    ⨾ element numblkscod none 2 (cell NUMBLKSCOD)
    ⨾ derive Numblks
    ⨾ element acmod none 3 (cell ACMOD)
    ⨾ derive Nfchans
    ⨾ element lfeon none 1 (cell LFEON)
    ⨾ element bsid none 5 (cell BSID)
    ⨾ element dialnorm none 5 no
    ⨾ element compre none 1 (cell COMPRE)
    ⨾ when (Is (cell COMPRE) 1) (element compr none 8 no ⨾ end)
    ⨾ when (Is (cell ACMOD) 0)
    (element dialnorm2 none 5 no
    ⨾ element compr2e none 1 (cell COMPR2E)
    ⨾ when (Is (cell COMPR2E) 1) (element compr2 none 8 no ⨾ end)
    ⨾ end)
    ⨾ when (Is (cell STRMTYP) 1)
    (element chanmape none 1 (cell CHANMAPE)
    ⨾ when (Is (cell CHANMAPE) 1) (element chanmap none 16 no ⨾ end)
    ⨾ end)
    ⨾ element mixmdate none 1 (cell MIXMDATE)
    ⨾ when (Is (cell MIXMDATE) 1) mixing_metadata
    ⨾ element infomdate none 1 (cell INFOMDATE)
    ⨾ when (Is (cell INFOMDATE) 1) informational_metadata
    ⨾ when (Is (cell STRMTYP) 0) (when (Not (cell NUMBLKSCOD) 3) (element convsync none 1 no ⨾ end) ⨾ end)
    ⨾ when (Is (cell STRMTYP) 2)
    (when (Is (cell NUMBLKSCOD) 3) (put (cell BLKID) (number 1) ⨾ end)
    ⨾ when (Not (cell NUMBLKSCOD) 3) (element blkid none 1 (cell BLKID) ⨾ end)
    ⨾ when (Is (cell BLKID) 1) (element frmsizecod none 6 no ⨾ end)
    ⨾ end)
    ⨾ element addbsie none 1 (cell ADDBSIE)
    ⨾ when (Is (cell ADDBSIE) 1)
    (element addbsil none 6 (cell ADDBSIL)
    ⨾ put (cell WIDTH) (Let 8 8 (cell ADDBSIL))
    ⨾ span addbsi WIDTH
    ⨾ end)
    ⨾ end
