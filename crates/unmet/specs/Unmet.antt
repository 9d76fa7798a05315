-- The tests of the reference that no input meets, where it makes them: at the bsid record, at the test of the coupling sub-bands, at a set of exponents, at
-- the allocation of a block, and at its mantissas.
-- Proved in proofs/Bsid.antt, proofs/Unmet.antt, proofs/Pointed.antt and proofs/Visited.antt.
use Rattle.std.specs.Prelude.{◌≡◌, Bool, true, false, cond, List, ◌⊎◌, ℕ, ◌+◌, ◌*◌, ◌%◌, ◌≤◌, ◌<◌, get_or}
use Rattle.names.specs.Names.{bsid, cplfleak, cplsleak, csnroffst, frmcsnroffst}
use Rattle.reading.specs.Run.{Entry, accepted}
use Rattle.reading.specs.Records.{All}
use Rattle.reading.specs.Frame.{headed, parse}
use Rattle.slots.specs.Slots.{requested_of, pointer}
use Rattle.exponents.specs.Exponents.{size_of, groups_of, first_of}
use Rattle.cells.specs.Cells.{State, Addr, cell_of, sum_of}
use Rattle.cells.specs.Names.{CPL_SUBND_END, CPLEND, CPLINU, CPLSTRT, ENDMANT, FSCOD, HELDEND, HELDSTRT, LFEON, NFCHANS}
use Rattle.derivations.specs.Derivations.{Allocation}
use Rattle.derivations.specs.Sets.{strategy_of, start_of, end_of}
use Rattle.sideinfo.specs.Shapes.{shape_of}
use Rattle.plan.specs.Plan.{mantissas_of}
use Rattle.slots.specs.declared.Shape.{Shape}
use Rattle.rows.specs.Syntax.{Item, element, elements, span, mantissas, exponents, when, each, reject, reject_at, put, fill, derive}
use Rattle.annex.specs.Annex.{body}
use Rattle.annex.specs.Frame.{bytes_of, eac3}
use Rattle.bounds.specs.Along.{Point, Has, Along}

-- whatever the buffer, a bsid record holds 11 to 16
abbrev pub BsidFits : Entry → Type 0
BsidFits e = e.field.name ≡ bsid → (11 ≤ e.field.value) × (e.field.value ≤ 16)

abbrev pub BsidsFit : Type 0
BsidsFit = (s : List ℕ) → All BsidFits (parse eac3 s).records

-- SNR offsets were sent; and coupling leaks
abbrev pub Offsets : List Entry → Type 0
Offsets es = Has frmcsnroffst es ⊎ Has csnroffst es

abbrev pub Leaks : List Entry → Type 0
Leaks es = Has cplfleak es × Has cplsleak es

-- the exponents that are held end where the ranges end, whether they are new or reused
abbrev pub Channels : List ℕ → Type 0
Channels m = (ch : ℕ) → ch < cell_of m NFCHANS → cell_of m (HELDEND + ch) ≡ cell_of m (ENDMANT + ch)

abbrev pub Coupling : List ℕ → Type 0
Coupling m = cell_of m CPLINU ≡ 1 → (cell_of m HELDSTRT ≡ cell_of m CPLSTRT) × (cell_of m (HELDEND + 5) ≡ cell_of m CPLEND)

abbrev pub Lfe : List ℕ → Type 0
Lfe m = cell_of m LFEON ≡ 1 → cell_of m (HELDEND + 6) ≡ 7

-- no range of a channel ends past bin 253, and that of coupling has a bin
pub record EndsFit (m : List ℕ) : Type 0 where
  pub channels : (ch : ℕ) → ch < cell_of m NFCHANS → cell_of m (ENDMANT + ch) ≤ 253
  pub coupling : cell_of m CPLINU ≡ 1 → cell_of m CPLSTRT < cell_of m CPLEND

-- what an allocation asks for, so that three tests are not met: reused exponents that end elsewhere; SNR offsets, and leaks, that were never sent. Its sample
-- rate is one of three, it has a channel, and no range ends past bin 253
pub record Ready (es : List Entry) (m : List ℕ) : Type 0 where
  pub channels : Channels m
  pub coupling : Coupling m
  pub lfe : Lfe m
  pub offsets : Offsets es
  pub leaks : cell_of m CPLINU ≡ 1 → Leaks es
  pub rate : cell_of m FSCOD < 3
  pub some : 1 ≤ cell_of m NFCHANS
  pub ends : EndsFit m

-- the bin past the groups of a set of exponents
abbrev pub past_groups : List ℕ → ℕ → ℕ
past_groups m slot = first_of slot (start_of m slot) + 3 * size_of (strategy_of m slot) * groups_of slot (strategy_of m slot) (start_of m slot) (end_of m slot)

-- a set of exponents that is read: it is of one of the seven slots, its strategy is D15, D25 or D45, its range has a bin and ends by bin 253, its groups
-- reach the end, and do not pass bin 253
pub record SetFits (m : List ℕ) (slot : ℕ) : Type 0 where
  pub among : slot < 7
  pub strategy : (1 ≤ strategy_of m slot) × (strategy_of m slot ≤ 3)
  pub range : (start_of m slot < end_of m slot) × (end_of m slot ≤ 253)
  pub reaches : end_of m slot ≤ past_groups m slot
  pub inside : past_groups m slot ≤ 253

-- at the rejection 22 cplbegf + ncplsubnd, which is cplendf + 3, is at most 18: the upper half of that test is not met
abbrev pub Unmet : Item → Point
Unmet (element name i w a) st p es = Unit {0}
Unmet (elements name i w a k f n) st p es = Unit {0}
Unmet (span name k) st p es = Unit {0}
Unmet (mantissas name a) st p es = EndsFit st.cells
Unmet (exponents s name i) st p es = SetFits st.cells (sum_of s st.cells % 256)
Unmet (when c b) st p es = Unit {0}
Unmet (each k i n b) st p es = Unit {0}
Unmet (reject c n) st p es = n ≡ 22 → cell_of st.cells CPL_SUBND_END ≤ 18
Unmet (reject_at c n k) st p es = Unit {0}
Unmet (put a v) st p es = Unit {0}
Unmet (fill k n x y a) st p es = Unit {0}
Unmet (derive k) st p es = k ≡ Allocation → Ready es st.cells

-- at the mantissas of a block: the pointers of the slots that are asked for are at most 15, in a slot of the adaptive hybrid transform at most 19
abbrev pub most_pointer : Bool → ℕ
most_pointer aht = cond aht 19 15

abbrev pub Pointers : List ℕ → List ℕ → Type 0
Pointers m baps = (slot bin : ℕ) → slot < 7 → bin < 256 → requested_of (shape_of m) slot ≡ true → pointer baps slot bin ≤ most_pointer (get_or (shape_of m).ahtinu slot false)

-- no others are looked at: where the pointers of those slots are the same, so is the reading of the mantissas
abbrev pub OnlyAskedFor : Type 0
OnlyAskedFor =
    (shape : Shape) (x y : List ℕ) → ((slot bin : ℕ) → slot < 7 → bin < 256 → requested_of shape slot ≡ true → pointer x slot bin ≡ pointer y slot bin)
    → mantissas_of x shape ≡ mantissas_of y shape

abbrev pub Pointed : Item → Point
Pointed i st p es = (name : ℕ) (a : Addr) → i ≡ mantissas name a → Pointers st.cells st.bins.baps

-- whatever the buffer, wherever the reading of its body comes
abbrev pub NoneMet : Type 0
NoneMet =
    (s : List ℕ) (h : State) → (headed eac3 s).result ≡ accepted h
    → Along s (8 * bytes_of h) Unmet body h (headed eac3 s).place (headed eac3 s).records

abbrev pub AllPointed : Type 0
AllPointed =
    (s : List ℕ) (h : State) → (headed eac3 s).result ≡ accepted h
    → Along s (8 * bytes_of h) Pointed body h (headed eac3 s).place (headed eac3 s).records
