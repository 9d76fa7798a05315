-- Nothing wraps: wherever a reading comes, what is put into a cell is below 65,536, so that the modulus of a put (cells/specs/Cells.antt) never acts.
-- Proved in proofs/Unwrapped.antt.
use Rattle.std.specs.Prelude.{◌≡◌, List, [], ℕ, ◌+◌, ◌*◌, ◌-◌, ◌^◌, ◌≤◌, ◌<◌, get_or}
use Rattle.reading.specs.Run.{accepted, skim}
use Rattle.reading.specs.Frame.{headed}
use Rattle.cells.specs.Cells.{State, cell_of, held_of}
use Rattle.cells.specs.Names.{AHT_TAGS, CHBWCOD, CPL_SUBND_END, CPLBEGF, CPLBNDSTRC, CPLENDF, CPLINUS, FRMSIZ, NUMBLKS, NUMBLKSCOD, SPX_BEGIN, SPX_END, SPXBEGF, SPXBNDSTRC, SPXENDF, TAGS}
use Rattle.sideinfo.specs.Frames.{holding, powers_below}
use Rattle.sideinfo.specs.Blocks.{bands_of}
use Rattle.derivations.specs.Derivations.{Numblks, Ncplblks, Blkstrtinfo, SpxRange, Nspxbnds, CplRange, Ncplbnd, Endmants, AhtRead}
use Rattle.derivations.specs.Mantissas.{mantissas_in}
use Rattle.rows.specs.Syntax.{Item, element, elements, span, mantissas, exponents, when, each, reject, reject_at, put, fill, derive, count_of, amount_of}
use Rattle.annex.specs.Annex.{header, body}
use Rattle.annex.specs.Frame.{start, bytes_of, eac3}
use Rattle.bounds.specs.Along.{Point, Along}

-- a cell has 16 bits
abbrev pub word : ℕ
word = 65536

-- the sums and products that derivations put. The others put entries of tables, numbers that are written out, and counts of at most six blocks
pub record PutsFit (k : ℕ) (m : List ℕ) : Type 0 where
  pub numblks : k ≡ Numblks → cell_of m NUMBLKSCOD + 1 < word
  pub ncplblks : k ≡ Ncplblks → holding m CPLINUS 1 (cell_of m NUMBLKS) < word
  pub blkstrtinfo : k ≡ Blkstrtinfo → (cell_of m NUMBLKS - 1) * (4 + powers_below (cell_of m FRMSIZ + 1) 17) < word
  pub spx_range : k ≡ SpxRange → (2 * cell_of m SPXBEGF + 2 < word) × (2 * cell_of m SPXENDF + 5 < word)
  pub nspxbnds : k ≡ Nspxbnds → bands_of m SPXBNDSTRC (cell_of m SPX_BEGIN) (cell_of m SPX_END) < word
  pub cpl_range : k ≡ CplRange → (2 * cell_of m SPXBEGF + 1 < word) × (cell_of m CPLENDF + 3 < word)
  pub ncplbnd : k ≡ Ncplbnd → bands_of m CPLBNDSTRC (cell_of m CPLBEGF) (cell_of m CPL_SUBND_END) < word
  pub endmants : k ≡ Endmants → (37 + 12 * cell_of m CPLBEGF < word) × (37 + 12 * cell_of m CPL_SUBND_END < word) × (25 + 12 * cell_of m SPX_BEGIN < word)
  pub codes : k ≡ Endmants → (ch : ℕ) → ch < 5 → 37 + 3 * (cell_of m (CHBWCOD + ch) + 12) < word
  pub aht_read : k ≡ AhtRead → cell_of m AHT_TAGS + cell_of m TAGS < word

-- an element's value is below a power of 2; a loop puts its numbers into its counter
abbrev pub Unwrapped : List ℕ → ℕ → Item → Point
Unwrapped s l (element name i w a) st p es = 2 ^ w ≤ word
Unwrapped s l (elements name i w a k f n) st p es = cell_of st.cells n ≤ word
Unwrapped s l (span name k) st p es = Unit {0}
Unwrapped s l (mantissas name a) st p es = (v : List ℕ) → (skim (mantissas_in st) s p l).result ≡ accepted v → (i : ℕ) → get_or v i 0 < word
Unwrapped s l (exponents x name i) st p es = Unit {0}
Unwrapped s l (when c b) st p es = Unit {0}
Unwrapped s l (each k i n b) st p es = count_of n st.cells ≤ word
Unwrapped s l (reject c n) st p es = Unit {0}
Unwrapped s l (reject_at c n k) st p es = Unit {0}
Unwrapped s l (put a v) st p es = amount_of v p st.cells < word
Unwrapped s l (fill k n x y a) st p es = x + y * held_of a st.cells < word
Unwrapped s l (derive k) st p es = PutsFit k st.cells

-- whatever the buffer, wherever the reading of its header and its body comes
pub record NothingWraps : Type 0 where
  pub in_header : (s : List ℕ) → Along s 48 (Unwrapped s 48) header start 0 []
  pub in_body : (s : List ℕ) (h : State) → (headed eac3 s).result ≡ accepted h
      → Along s (8 * bytes_of h) (Unwrapped s (8 * bytes_of h)) body h (headed eac3 s).place (headed eac3 s).records
