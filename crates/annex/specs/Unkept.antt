-- THE NAMES THAT STEER NOTHING in an E-AC-3 frame: the pages keep no element of such a name in a cell, and bits that are passed over or walked have other names, in
-- the tail auxbits; nor are they looked at by other ways than a cell, as bsid and auxdatae ahead, and auxdatal in the tail. What follows is stated in loudness/specs/Loudness and, of the reader, in demands/specs/Loudness.
use Rattle.std.specs.Prelude.{◌≡◌, Bool, true, not, ◌&&◌, List, [], ◌∷◌, map, ℕ, eqb}
use Rattle.names.specs.Names.{Name, names, adconvtyp, adconvtyp2, auxbits, auxdatae, auxdatal, blkmixcfginfo, blksw, bsid, bsmod, chanmap, compr, compr2, convexpstr, convsnroffst, convsync, copyrightb, cplcoexp, cplcomant, crc2, dheadphonmod, dialnorm, dialnorm2, dithflag, dmixmod, dmixscl, drcsrc, dsurexmod, dsurmod, dynrng, dynrng2, encinfo, extpgmaux1scl, extpgmaux2scl, extpgmcscl, extpgmlfescl, extpgmlscl, extpgmlsscl, extpgmrscl, extpgmrsscl, extpgmscl, frmsizecod, gainrng, lfemixlevcod, lorocmixlev, lorosurmixlev, ltrtcmixlev, ltrtsurmixlev, mixlevel, mixlevel2, mstrcplco, mstrspxco, origbs, paninfo, paninfo2, panmean, panmean2, pgmscl, pgmscl2, phsflg, premixcmpscl, premixcmpsel, rematflg, roomtyp, roomtyp2, sourcefscod, spchan1att, spchan2att, spchdat, spchdat1, spchdat2, spxattencod, spxblnd, spxcoexp, spxcomant, spxstrtf, transproclen, transprocloc}
use Rattle.rows.specs.Syntax.{among}
use Rattle.rows.specs.Unkept.{unkept}
use Rattle.annex.specs.Syncinfo.{syncinfo, bsi_size}
use Rattle.annex.specs.Annex.{body}

-- a set of names that the pages keep nowhere
unfoldable pub unkept_here : (ℕ → Bool) → Bool
unkept_here N = unkept N syncinfo && (unkept N bsi_size && (unkept N body && (not (N bsid) && (not (N auxbits) && (not (N auxdatae) && not (N auxdatal))))))

-- the names, as `tools/unkept.py` finds them on the pages
unfoldable pub unkept_names : List ℕ
unkept_names =
    adconvtyp ∷ adconvtyp2 ∷ blkmixcfginfo ∷ blksw ∷ bsmod ∷ chanmap ∷ compr ∷ compr2 ∷ convexpstr ∷ convsnroffst ∷ convsync ∷ copyrightb ∷ cplcoexp ∷
    cplcomant ∷ crc2 ∷ dheadphonmod ∷ dialnorm ∷ dialnorm2 ∷ dithflag ∷ dmixmod ∷ dmixscl ∷ drcsrc ∷ dsurexmod ∷ dsurmod ∷ dynrng ∷ dynrng2 ∷ encinfo ∷
    extpgmaux1scl ∷ extpgmaux2scl ∷ extpgmcscl ∷ extpgmlfescl ∷ extpgmlscl ∷ extpgmlsscl ∷ extpgmrscl ∷ extpgmrsscl ∷ extpgmscl ∷ frmsizecod ∷ gainrng ∷
    lfemixlevcod ∷ lorocmixlev ∷ lorosurmixlev ∷ ltrtcmixlev ∷ ltrtsurmixlev ∷ mixlevel ∷ mixlevel2 ∷ mstrcplco ∷ mstrspxco ∷ origbs ∷ paninfo ∷ paninfo2 ∷
    panmean ∷ panmean2 ∷ pgmscl ∷ pgmscl2 ∷ phsflg ∷ premixcmpscl ∷ premixcmpsel ∷ rematflg ∷ roomtyp ∷ roomtyp2 ∷ sourcefscod ∷ spchan1att ∷ spchan2att ∷
    spchdat ∷ spchdat1 ∷ spchdat2 ∷ spxattencod ∷ spxblnd ∷ spxcoexp ∷ spxcomant ∷ spxstrtf ∷ transproclen ∷ transprocloc ∷ []

-- they are kept nowhere, and of all names only they are
pub record UnkeptNames : Type 0 where
  pub together : unkept_here (among unkept_names) ≡ true
  pub each : map (λ (n : Name). unkept_here (eqb n.number)) names ≡ map (λ (n : Name). among unkept_names n.number) names
