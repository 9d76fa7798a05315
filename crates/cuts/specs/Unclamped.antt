-- No clamp acts: wherever a reading comes, places of cells, parts of records, and what an allocation and a set of exponents find in the cells are in the ranges
-- that the definitions cut them to, and no difference goes below 0. Proved in proofs/Unclamped.antt.
use Rattle.std.specs.Prelude.{◌≡◌, List, [], ℕ, ◌+◌, ◌*◌, ◌≤◌, ◌<◌}
use Rattle.reading.specs.Run.{accepted}
use Rattle.reading.specs.Frame.{headed}
use Rattle.cells.specs.Cells.{State, Addr, Sum, cell_of, place_of, held_of, sum_of}
use Rattle.cells.specs.Names.{ABSEXP, ACMOD, BLOCK, CH, CPL_SUBND_END, CPLBEGF, CPLEND, CPLENDF, CPLFLEAK, CPLINU, CPLSLEAK, CPLSTRT, CSNROFFST, DBPBCOD, DELTBA, DELTLEN, DELTNSEG, DELTOFFST, ENDMANT, FDCYCOD, FGAINCOD, FLOORCOD, FRMCHEXPSTR, FRMCPLEXPSTR, FRMSIZ, FSCOD, FSNROFFST, NFCHANS, NUMBLKS, NUMBLKSCOD, SDCYCOD, SGAINCOD, SPX_BEGIN, SPX_END, SPXBEGF, SPXENDF}
use Rattle.derivations.specs.Derivations.{Numblks, Nfchans, CplStrategies, ChStrategies, Blkstrtinfo, SpxRange, Nspxbnds, CplRange, Ncplbnd, Endmants, Allocation, AhtRead}
use Rattle.rows.specs.Syntax.{Number, Cell, Word, Cond, Is, Not, Above, Below, Among, Differs, Over, Under, AtLeast, Value, Here, Let, Less, Plus, Minus, Count, Fixed, Held, Item, element, elements, span, mantissas, exponents, when, each, reject, reject_at, put, fill, derive, none}
use Rattle.annex.specs.Annex.{header, body}
use Rattle.annex.specs.Frame.{start, bytes_of, eac3}
use Rattle.bounds.specs.Along.{Point, Along}

-- the parts of a record, which are cut to 7 and 15 bits: its block and its index, one more than they are
abbrev pub PartFits : Sum → List ℕ → Type 0
PartFits i m = (cell_of m BLOCK < 128) × (sum_of i m < 32768)

-- an address is that of one of the 1,024 cells; of a number, a condition, the end of a loop, a value, whose difference does not go below 0
abbrev pub Placed : Addr → List ℕ → Type 0
Placed a m = place_of a m < 1024

abbrev pub NumberPlaced : Number → List ℕ → Type 0
NumberPlaced (Cell a) m = Placed a m
NumberPlaced (Word n) m = Unit {0}

abbrev pub CondPlaced : Cond → List ℕ → Type 0
CondPlaced (Is a x) m = Placed a m
CondPlaced (Not a x) m = Placed a m
CondPlaced (Above a x) m = Placed a m
CondPlaced (Below a x) m = Placed a m
CondPlaced (Among a xs) m = Placed a m
CondPlaced (Differs a n) m = Placed a m × NumberPlaced n m
CondPlaced (Over a n) m = Placed a m × NumberPlaced n m
CondPlaced (Under a n) m = Placed a m × NumberPlaced n m
CondPlaced (AtLeast a n) m = Placed a m × NumberPlaced n m

abbrev pub CountPlaced : Count → List ℕ → Type 0
CountPlaced (Fixed n) m = Unit {0}
CountPlaced (Held a) m = Placed a m

abbrev pub ValueFits : Value → List ℕ → Type 0
ValueFits Here m = Unit {0}
ValueFits (Let x y a) m = Placed a m
ValueFits (Less x y a) m = Placed a m × (x ≤ y * held_of a m)
ValueFits (Plus a k) m = Placed a m × (k < 1024)
ValueFits (Minus a k) m = Placed a m × (k < 1024) × (cell_of m k ≤ held_of a m)

-- the bins of a block: at most five channels, no range ends past bin 253, and that of coupling has a bin
pub record RangesFit (m : List ℕ) : Type 0 where
  pub channels : cell_of m NFCHANS ≤ 5
  pub ends : (ch : ℕ) → ch < cell_of m NFCHANS → cell_of m (ENDMANT + ch) ≤ 253
  pub coupling_ends : cell_of m CPLEND ≤ 253
  pub coupling : cell_of m CPLINU ≡ 1 → cell_of m CPLSTRT < cell_of m CPLEND

-- what an allocation takes from the cells: the codes of its parameters, of the offsets, gains and leaks, and the delta segments
pub record CodesFit (m : List ℕ) : Type 0 where
  pub ranges : RangesFit m
  pub some : 1 ≤ cell_of m NFCHANS
  pub rate : cell_of m FSCOD < 3
  pub parameters : (cell_of m SDCYCOD ≤ 3) × (cell_of m FDCYCOD ≤ 3) × (cell_of m SGAINCOD ≤ 3) × (cell_of m DBPBCOD ≤ 3) × (cell_of m FLOORCOD ≤ 7)
  pub coarse : cell_of m CSNROFFST ≤ 63
  pub fine : (slot : ℕ) → slot < 7 → (cell_of m (FSNROFFST + slot) ≤ 15) × (cell_of m (FGAINCOD + slot) ≤ 7)
  pub leaks : (cell_of m CPLFLEAK < 8) × (cell_of m CPLSLEAK < 8)
  pub segments : (slot : ℕ) → slot < 6 → cell_of m (DELTNSEG + slot) ≤ 8
  pub segment : (i : ℕ) → i < 48 → (cell_of m (DELTOFFST + i) ≤ 31) × (cell_of m (DELTLEN + i) ≤ 15) × (cell_of m (DELTBA + i) ≤ 7)

-- what each derivation takes for granted: codes that its table or its formula has, and differences that do not go below 0
pub record DerivationFits (k : ℕ) (m : List ℕ) : Type 0 where
  pub numblks : k ≡ Numblks → cell_of m NUMBLKSCOD ≤ 3
  pub nfchans : k ≡ Nfchans → cell_of m ACMOD ≤ 7
  pub cpl_strategies : k ≡ CplStrategies → cell_of m FRMCPLEXPSTR ≤ 31
  pub ch_strategies : k ≡ ChStrategies → (cell_of m FRMCHEXPSTR ≤ 31) × (cell_of m CH ≤ 4)
  pub blkstrtinfo : k ≡ Blkstrtinfo → (1 ≤ cell_of m NUMBLKS) × (cell_of m FRMSIZ ≤ 2047)
  pub spx_range : k ≡ SpxRange → (cell_of m SPXBEGF ≤ 7) × (cell_of m SPXENDF ≤ 7)
  pub nspxbnds : k ≡ Nspxbnds → (cell_of m SPX_BEGIN < cell_of m SPX_END) × (cell_of m SPX_END ≤ 17)
  pub cpl_range : k ≡ CplRange → (cell_of m SPXBEGF ≤ 7) × (cell_of m CPLENDF ≤ 15)
  pub ncplbnd : k ≡ Ncplbnd → (cell_of m CPLBEGF < cell_of m CPL_SUBND_END) × (cell_of m CPL_SUBND_END ≤ 18)
  pub endmants : k ≡ Endmants → cell_of m NFCHANS ≤ 5
  pub allocation : k ≡ Allocation → CodesFit m
  pub aht_read : k ≡ AhtRead → cell_of m NFCHANS ≤ 5

abbrev pub Unclamped : Item → Point
Unclamped (element name i w a) st p es = PartFits i st.cells × Placed a st.cells
Unclamped (elements name i w a k f n) st p es = (k < 1024) × (n < 1024)
Unclamped (span name k) st p es = PartFits none st.cells × (k < 1024)
Unclamped (mantissas name a) st p es = PartFits none st.cells × Placed a st.cells × RangesFit st.cells
Unclamped (exponents s name i) st p es = PartFits i st.cells × (sum_of s st.cells < 7) × (cell_of st.cells ABSEXP < 16)
Unclamped (when c b) st p es = CondPlaced c st.cells
Unclamped (each k i n b) st p es = (k < 1024) × CountPlaced n st.cells
Unclamped (reject c n) st p es = CondPlaced c st.cells
Unclamped (reject_at c n k) st p es = CondPlaced c st.cells × (k < 1024)
Unclamped (put a v) st p es = Placed a st.cells × ValueFits v st.cells
Unclamped (fill k n x y a) st p es = (k + n ≤ 1024) × Placed a st.cells
Unclamped (derive k) st p es = DerivationFits k st.cells

-- whatever the buffer, wherever the reading of its header and its body comes
pub record NothingClamped : Type 0 where
  pub in_header : (s : List ℕ) → Along s 48 Unclamped header start 0 []
  pub in_body : (s : List ℕ) (h : State) → (headed eac3 s).result ≡ accepted h
      → Along s (8 * bytes_of h) Unclamped body h (headed eac3 s).place (headed eac3 s).records
