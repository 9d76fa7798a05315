-- The most that a cell holds, wherever a reading comes.
use Rattle.std.specs.Prelude.{◌≡◌, cond, ◌&&◌, List, [], ◌∷◌, ◌⊎◌, ℕ, ◌+◌, ◌*◌, ◌%◌, ◌≤◌, leb, length}
use Rattle.reading.specs.Run.{accepted}
use Rattle.reading.specs.Frame.{headed}
use Rattle.cells.specs.Cells.{State, cell_of}
use Rattle.cells.specs.Names.{ABSEXP, ACMOD, ADDBSIE, ADDBSIL, AHT_READ, AHTE, AHTINU, BAI_SENT, BAIE, BLK, BLKFSNROFFST, BLKSTRTINFOE, BLOCK, BND, BSID, CH, CHBWCOD, CHBWSENT, CHEXPSTR, CHINSPX, CHINTRANSPROC, COMPRE, CONVEXPSTRE, CONVSNROFFSTE, CPL_SUBND_END, CPLBEGF, CPLBNDSTRC, CPLBNDSTRCE, CPLCOE, CPLEND, CPLENDF, CPLEXPSTR, CPLFLEAK, CPLINUS, CPLSLEAK, CPLSTRE, CPLSTRT, CSNROFFST, DBPBCOD, DELTBA, DELTBAE, DELTBAIE, DELTLEN, DELTNSEG, DELTOFFST, DYNRNGE, ENDMANT, EXPSTRE, EXTPGMSCLE, FGAINCOD, FGAINCODE, FIRSTCPLCOS, FIRSTSPXCOS, FLOORCOD, FRMCHEXPSTR, FRMCPLEXPSTR, FRMFSNROFFST, FRMSIZ, FSCOD, FSNROFFST, HELDEND, HELDSTRT, LFEEXPSTR, LFEON, MIXBITS, MIXDATA2E, MIXDEF, MIXDEFLEN, NCPLBLKS, NCPLBND, NCPLREGS, NCPLSUBND, NFCHANS, NLFEREGS, NREMATBD, NSEG, NSPXBNDS, NUMBLKS, NUMBLKSCOD, PHSFLGE, PHSFLGINU, REMATSTR, SDCYCOD, SEG, SKIPL, SKIPLE, SLOT, SNROFFSTE, SNROFFSTSTR, SPX_BEGIN, SPX_END, SPXATTENE, SPXBEGF, SPXBNDSTRC, SPXBNDSTRCE, SPXENDF, STRMTYP, SUB, SUBSTREAMID, TAGS, TRANSPROCE, WIDTH}
use Rattle.rows.specs.Syntax.{Item}
use Rattle.annex.specs.Annex.{body}
use Rattle.annex.specs.Frame.{bytes_of, eac3}
use Rattle.bounds.specs.Along.{Point, Along}

-- the cells from one to another, and the most that they hold
abbrev pub Bound : Type 0
Bound = ℕ × ℕ × ℕ

abbrev pub one : ℕ → ℕ → Bound
one k m = (k, k, m)

-- the tags of a block: six in each of 253 bins of seven slots
abbrev pub tags_most : ℕ
tags_most = 10626

unfoldable pub bounds : List Bound
bounds =
    one 0 0 ∷ one BLOCK 6 ∷ one BLK 5 ∷ one CH 4 ∷ one BND 17 ∷ one SEG 7 ∷ one SLOT 5 ∷ one SUB 17
    ∷ one STRMTYP 3 ∷ one SUBSTREAMID 7 ∷ one FRMSIZ 2047 ∷ one FSCOD 3 ∷ one NUMBLKSCOD 3 ∷ one NUMBLKS 6 ∷ one ACMOD 7 ∷ one NFCHANS 5 ∷ one LFEON 1 ∷ one BSID 31
    ∷ (COMPRE, EXTPGMSCLE, 1) ∷ one MIXDEF 3 ∷ one MIXDEFLEN 31 ∷ one MIXBITS 264 ∷ (MIXDATA2E, ADDBSIE, 1) ∷ one ADDBSIL 63
    ∷ (EXPSTRE, AHTE, 1) ∷ one SNROFFSTSTR 3 ∷ (TRANSPROCE, SPXATTENE, 1) ∷ (CPLSTRE, CPLINUS + 5, 1) ∷ one NCPLBLKS 6 ∷ (CPLEXPSTR, CHEXPSTR + 47, 3) ∷ (LFEEXPSTR, LFEEXPSTR + 5, 1)
    ∷ one FRMCPLEXPSTR 31 ∷ one FRMCHEXPSTR 31 ∷ one CONVEXPSTRE 1 ∷ (NCPLREGS, NLFEREGS, 6) ∷ (AHTINU, AHT_READ + 6, 1) ∷ one FRMFSNROFFST 15 ∷ (CHINTRANSPROC, BLKSTRTINFOE, 1)
    ∷ one WIDTH 4088 ∷ (DYNRNGE, CHINSPX + 4, 1) ∷ one SPXBEGF 7 ∷ one SPXENDF 7 ∷ one SPX_BEGIN 11 ∷ one SPX_END 17 ∷ (SPXBNDSTRCE, SPXBNDSTRC + 16, 1) ∷ one NSPXBNDS 17
    ∷ (FIRSTSPXCOS, PHSFLGINU, 1) ∷ one CPLBEGF 15 ∷ one CPLENDF 15 ∷ one CPL_SUBND_END 18 ∷ one NCPLSUBND 18 ∷ (CPLBNDSTRCE, CPLBNDSTRC + 17, 1) ∷ one NCPLBND 18
    ∷ (FIRSTCPLCOS, CPLCOE + 4, 1) ∷ one PHSFLGE 2 ∷ one REMATSTR 1 ∷ one NREMATBD 4 ∷ (CHBWCOD, CHBWCOD + 4, 63) ∷ (CHBWSENT, CHBWSENT + 4, 1)
    ∷ one CPLSTRT 217 ∷ one CPLEND 253 ∷ (ENDMANT, ENDMANT + 4, 262) ∷ one ABSEXP 15 ∷ one HELDSTRT 217 ∷ (HELDEND, HELDEND + 4, 262) ∷ one (HELDEND + 5) 253 ∷ one (HELDEND + 6) 7
    ∷ (BAIE, BAI_SENT, 1) ∷ (SDCYCOD, DBPBCOD, 3) ∷ one FLOORCOD 7 ∷ one SNROFFSTE 1 ∷ one CSNROFFST 63 ∷ (CPLFLEAK, CPLSLEAK, 7) ∷ (BLKFSNROFFST, FSNROFFST + 6, 15)
    ∷ one FGAINCODE 1 ∷ (FGAINCOD, FGAINCOD + 6, 7) ∷ (CONVSNROFFSTE, DELTBAIE, 1) ∷ (DELTBAE, DELTBAE + 5, 3) ∷ one NSEG 7 ∷ (DELTNSEG, DELTNSEG + 5, 8)
    ∷ one TAGS tags_most ∷ (DELTOFFST, DELTOFFST + 47, 31) ∷ (DELTLEN, DELTLEN + 47, 15) ∷ (DELTBA, DELTBA + 47, 7) ∷ one SKIPLE 1 ∷ one SKIPL 511
    ∷ []

unfoldable pub most_in : List Bound → ℕ → ℕ
most_in [] k = 65535
most_in (r ∷ rs) k = cond (leb r.0 k && leb k r.1) r.2 (most_in rs k)

unfoldable pub most : ℕ → ℕ
most k = most_in bounds (k % 1024)

-- the cells of a reading: 1,024, none above its bound, and the end of the exponents that are held for LFE is 0 or 7
pub record Within (m : List ℕ) : Type 0 where
  pub sized : length m ≡ 1024
  pub below : (j : ℕ) → cell_of m j ≤ most j
  pub lfe : (cell_of m (HELDEND + 6) ≡ 0) ⊎ (cell_of m (HELDEND + 6) ≡ 7)

abbrev pub Bounded : Item → Point
Bounded i st p es = Within st.cells

-- whatever the buffer, wherever the reading of its body comes
abbrev pub BodyBounded : Type 0
BodyBounded =
    (s : List ℕ) (h : State) → (headed eac3 s).result ≡ accepted h
    → Along s (8 * bytes_of h) Bounded body h (headed eac3 s).place (headed eac3 s).records
