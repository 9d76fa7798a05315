-- A toy syntax, with every kind of item: elements of an E-AC-3 syncframe, and fewer of them.
use Rattle.std.specs.Prelude.{[], ◌∷◌}
use Rattle.names.specs.Names.{acmod, auxbits, auxdatal, bsid, chbwcod, chexpstr, crc2, csnroffst, dithflag, dmixmod, exps_ch, exps_ch_0, frmsiz, fscod, fsnroffst, gainrng, lfeexps, lfeexps_0, lfeexpstr, lfeon, lorocmixlev, ltrtcmixlev, numblkscod, rematflg, skipfld, skipl, snroffste, strmtyp, substreamid, syncword, mantissas as mantissas-of-block}
use Rattle.cells.specs.Names.{ABSEXP, ACMOD, AFTER_AUDIO, AFTER_AUXDATAE, AUDIO_END, AUXDATAL, BLK, BLKFSNROFFST, BLOCK, BLOCK_STARTS, BND, BSID, CH, CHBWCOD, CHBWSENT, CHEXPSTR, CSNROFFST, ENDMANT, FRAME_END, FRMSIZ, FSCOD, FSNROFFST, LFEEXPSTR, LFEON, MANTISSA_STARTS, NFCHANS, NREMATBD, NUMBLKS, NUMBLKSCOD, SKIPL, SNROFFSTE, STRMTYP, SUBSTREAMID, SYNCWORD, TAGS, WIDTH}
use Rattle.derivations.specs.Derivations.{AhtRead, Allocation, Defaults, Endmants, Fresh, Nfchans, Nrematbd, Numblks}
use Rattle.rows.specs.Syntax.{Cell, Word, Is, Not, Above, Below, Among, Differs, Over, Under, AtLeast, Here, Let, Less, Plus, Minus, Fixed, Held, Block, end, ◌⨾◌, ◌⧺◌, element, elements, span, mantissas, exponents, when, each, reject, reject_at, put, fill, derive, held, cell, at, at2, no, none, nth, by, from, after, upto, slot, slot_of, number, copy}

unfoldable pub opening : Block
opening =
    element syncword none 16 (cell SYNCWORD)
    ⨾ reject (Differs (cell SYNCWORD) (Word 2935)) 2
    ⨾ element strmtyp none 2 (cell STRMTYP)
    ⨾ reject (Is (cell STRMTYP) 3) 3
    ⨾ element substreamid none 3 (cell SUBSTREAMID)
    ⨾ reject (Above (cell SUBSTREAMID) 3) 4
    ⨾ element frmsiz none 11 (cell FRMSIZ)
    ⨾ put (cell FRAME_END) (Let 16 16 (cell FRMSIZ))
    ⨾ element fscod none 2 (cell FSCOD)
    ⨾ reject (AtLeast (cell FSCOD) (Word 3)) 5
    ⨾ element numblkscod none 2 (cell NUMBLKSCOD)
    ⨾ derive Numblks
    ⨾ element acmod none 3 (cell ACMOD)
    ⨾ derive Nfchans
    ⨾ element lfeon none 1 (cell LFEON)
    ⨾ element bsid none 5 (cell BSID)
    ⨾ reject (Below (cell BSID) 11) 6
    ⨾ reject (Over (cell BSID) (Word 16)) 6
    ⨾ reject (Among (cell BSID) (13 ∷ 14 ∷ [])) 7
    ⨾ when (Above (cell ACMOD) 2)
    (element dmixmod none 2 no
    ⨾ end)
    ⨾ when (Among (cell ACMOD) (3 ∷ 5 ∷ 7 ∷ []))
    (element ltrtcmixlev (nth 0) 3 no
    ⨾ element lorocmixlev (nth 1) 3 no
    ⨾ end)
    ⨾ derive Fresh
    ⨾ derive Defaults
    ⨾ element skipl none 9 (cell SKIPL)
    ⨾ put (cell WIDTH) (Let 0 8 (cell SKIPL))
    ⨾ span skipfld WIDTH
    ⨾ end

-- strategies and bandwidths
unfoldable pub strategies : Block
strategies =
    put (cell BLOCK) (Let 1 1 (cell BLK))
    ⨾ put (at BLOCK_STARTS BLK) Here
    ⨾ elements chexpstr (by CH) 2 (at2 CHEXPSTR CH BLK) CH 0 NFCHANS
    ⨾ elements dithflag (by CH) 1 no CH 1 NFCHANS
    ⨾ derive Nrematbd
    ⨾ when (Is (cell ACMOD) 2)
    (each BND (from 0) (Held (cell NREMATBD))
    (element rematflg (by BND) 1 no
    ⨾ end)
    ⨾ end)
    ⨾ each CH (from 0) (upto NFCHANS)
    (when (Not (at2 CHEXPSTR CH BLK) 0)
    (element chbwcod (by CH) 6 (at CHBWCOD CH)
    ⨾ reject (Over (at CHBWCOD CH) (Word 60)) 9
    ⨾ put (at CHBWSENT CH) (number 1)
    ⨾ end)
    ⨾ end)
    ⨾ derive Endmants
    ⨾ end

-- the exponents of a channel, and of LFE
unfoldable pub sets : Block
sets =
    each CH (from 0) (upto NFCHANS)
    (when (Not (at2 CHEXPSTR CH BLK) 0)
    (element exps_ch_0 (by CH) 4 (cell ABSEXP)
    ⨾ exponents (slot_of CH) exps_ch (by CH)
    ⨾ element gainrng (by CH) 2 no
    ⨾ end)
    ⨾ end)
    ⨾ when (Is (cell LFEON) 1)
    (element lfeexpstr none 1 (at LFEEXPSTR BLK)
    ⨾ when (Is (at LFEEXPSTR BLK) 1)
    (element lfeexps_0 none 4 (cell ABSEXP)
    ⨾ exponents (slot 6) lfeexps none
    ⨾ end)
    ⨾ end)
    ⨾ end

-- bit allocation and mantissas
unfoldable pub quantized : Block
quantized =
    element snroffste none 1 (cell SNROFFSTE)
    ⨾ when (Is (cell SNROFFSTE) 1)
    (element csnroffst none 6 (cell CSNROFFST)
    ⨾ element fsnroffst none 4 (cell BLKFSNROFFST)
    ⨾ fill FSNROFFST 7 0 1 (cell BLKFSNROFFST)
    ⨾ end)
    ⨾ derive Allocation
    ⨾ put (at MANTISSA_STARTS BLK) Here
    ⨾ mantissas mantissas-of-block (cell TAGS)
    ⨾ derive AhtRead
    ⨾ end

unfoldable pub block : Block
block = strategies ⧺ sets ⧺ quantized

unfoldable pub closing : Block
closing =
    put (cell BLOCK) (number 0)
    ⨾ put (cell AUDIO_END) Here
    ⨾ put (cell AFTER_AUDIO) (Minus (cell FRAME_END) AUDIO_END)
    ⨾ put (cell AFTER_AUXDATAE) (Less 17 1 (cell FRAME_END))
    ⨾ reject (Under (cell AFTER_AUDIO) (Word 18)) 30
    ⨾ reject_at (Under (cell AFTER_AUDIO) (Word 34)) 31 AFTER_AUXDATAE
    ⨾ put (cell WIDTH) (Less 34 1 (cell AFTER_AUDIO))
    ⨾ span auxbits WIDTH
    ⨾ element auxdatal none 14 (cell AUXDATAL)
    ⨾ reject_at (Over (cell AUXDATAL) (held WIDTH)) 32 AFTER_AUXDATAE
    ⨾ put (cell AUDIO_END) (Plus (cell AUDIO_END) WIDTH)
    ⨾ put (cell WIDTH) (copy (cell FRAME_END))
    ⨾ put (cell WIDTH) (Less 34 1 (cell WIDTH))
    ⨾ reject (Differs (cell AUDIO_END) (held WIDTH)) 10
    ⨾ each CH (after STRMTYP) (Fixed 3)
    (reject (Differs (at ENDMANT CH) (Cell (at ENDMANT BLOCK))) 11
    ⨾ element rematflg (by CH) 1 no
    ⨾ end)
    ⨾ element crc2 none 16 no
    ⨾ end

unfoldable pub frame : Block
frame = opening ⧺ (each BLK (from 0) (upto NUMBLKS) block ⨾ end) ⧺ closing
