-- Wherever the reading of a frame comes, its cells are within the bounds. Assumes nothing.
use mathlib.Core.Path.{◌≡◌, refl}
use mathlib.Core.Bool.{Bool, true}
use mathlib.Core.List.{List, []}
use Prim.Native.Nat.{ℕ}
use Rattle.reading.specs.Run.{Entry, accepted}
use Rattle.reading.specs.Frame.{headed}
use Rattle.cells.specs.Cells.{State}
use Rattle.rows.specs.Syntax.{Item, Block, ◌⧺◌}
use Rattle.annex.specs.Syncinfo.{syncinfo, bsi_size}
use Rattle.annex.specs.Bsi.{mixdef3, mixing_metadata, informational_metadata, bsi}
use Rattle.annex.specs.Audfrm.{flags, coupling, strategies, hybrid, offsets, audfrm}
use Rattle.annex.specs.Audblk.{dynamics, spx_strategy, spx_coordinates, cpl_strategy, cpl_coordinates, rematrixing, bandwidth, exponents_of_block, parameters, deltas, skip_field, quantized, audblk}
use Rattle.annex.specs.Annex.{header, audblks, body}
use Rattle.annex.specs.Frame.{start, eac3}
use Rattle.annex.proofs.Header.{headed-gives}
use Rattle.bounds.specs.Along.{Along}
use Rattle.bounds.specs.Bounds.{bounds, most_in, most, Within, Bounded, BodyBounded}
use Rattle.bounds.proofs.Bounds.{Test, allow, allow_each, may, up_to, sum_to, forget, spread, most_over, value_at, least_of, greatest_of, held_least, held_most, none_within}
use Rattle.bounds.proofs.Derived.{may_all, fits_fresh, fits_derived}
use Rattle.bounds.proofs.Fits.{count_most, sums_to, loop_sums, apart, learn, learn_sum, next_of, may_fill, fits, fits-block}
use Rattle.bounds.proofs.Walking.{Walks, walks-map}

-- the test, from nothing known
unfoldable pub fitting : (Item → Bool) → Test → Block → Bool
unfolding bounds most_in most allow allow_each may up_to sum_to forget spread most_over value_at least_of greatest_of held_least held_most may_all fits_fresh fits_derived count_most sums_to loop_sums apart learn learn_sum next_of may_fill fits
fitting by_bounds permits b = fits by_bounds permits b []

-- unfolding this unfolds the pages of the body
unfoldable pub pages : Block
unfolding ◌⧺◌ mixdef3 mixing_metadata informational_metadata bsi flags coupling strategies hybrid offsets audfrm dynamics spx_strategy spx_coordinates cpl_strategy cpl_coordinates rematrixing bandwidth exponents_of_block parameters deltas skip_field quantized audblk audblks body
pages = body

-- every item, and every put
every : Item → Bool
every i = true

everything : Test
everything j a z = true

opening-fits : fitting every everything syncinfo ≡ true
unfolding fitting every everything syncinfo
opening-fits = refl

header-fits : fitting every everything header ≡ true
unfolding fitting every everything header syncinfo bsi_size ◌⧺◌
header-fits = refl

body-fits : fitting every everything body ≡ true
unfolding fitting every everything pages
body-fits = refl

module _ (s : List ℕ) (l : ℕ) where
  bounded-by : (b : Block) → fitting every everything b ≡ true → (st : State) (p : ℕ) (es : List Entry) → Within st.cells → Walks s l Bounded b st p es (λ a q fs. Within a.cells)
  unfolding fitting
  bounded-by b h st p es w =
      walks-map s l Bounded (λ a q fs r. r.changed.within) (fits-block every s l Bounded (λ i x q fs _ k. k) everything b [] h st p es w tt)

pub start-within : Within start.cells
unfolding start
start-within = none_within

-- the header, and its opening alone
pub opening-along : (s : List ℕ) → Along s 48 Bounded syncinfo start 0 []
opening-along s = (bounded-by s 48 syncinfo opening-fits start 0 [] start-within).along

header-walks : (s : List ℕ) → Walks s 48 Bounded header start 0 [] (λ a q fs. Within a.cells)
header-walks s = bounded-by s 48 header header-fits start 0 [] start-within

pub header-along : (s : List ℕ) → Along s 48 Bounded header start 0 []
header-along s = (header-walks s).along

pub header-within : (s : List ℕ) (h : State) → (headed eac3 s).result ≡ accepted h → Within h.cells
header-within s h e = (header-walks s).ends h (headed-gives s h e)

pub body-bounded : BodyBounded
body-bounded s h e = (bounded-by s _ body body-fits h _ _ (header-within s h e)).along
