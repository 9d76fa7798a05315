-- Sections of the syntax that leave some cells as they are, one after another. Assumes nothing.
use mathlib.Core.Path.{◌≡◌}
use mathlib.Core.Bool.{Bool, true, ◌&&◌}
use mathlib.Core.List.{List, [], ◌∷◌, ◌++◌}
use Prim.Native.Nat.{ℕ, ◌*◌, ◌≤◌}
use native.Mathlib.Omega.{arith}
use Rattle.reading.specs.Run.{Entry, accepted, run}
use Rattle.reading.specs.Frame.{header_by, seen, headed}
use Rattle.cells.specs.Cells.{State}
use Rattle.cells.specs.Names.{FRMSIZ}
use Rattle.rows.specs.Syntax.{Item, Block, ◌⧺◌, meaning}
use Rattle.annex.specs.Annex.{body}
use Rattle.annex.specs.Frame.{bytes_of, eac3}
use Rattle.bounds.specs.Along.{Point}
use Rattle.bounds.specs.Bounds.{Within}
use Rattle.outcomes.specs.Outcomes.{farthest}
use Rattle.bounds.proofs.Bounds.{both, frmsiz-most, Changed}
use Rattle.bounds.proofs.Bounded.{fitting, header-within}
use Rattle.bounds.proofs.Fits.{fits-block}
use Rattle.bounds.proofs.Reaches.{run-reaches}
use Rattle.bounds.proofs.Walking.{Grows, Walks, walks-map, walks-append}
use Rattle.unmet.proofs.Leaves.{Ranges, outside, leaves}

every : Item → Bool
every i = true

-- a section leaves such cells
unfoldable pub clear : Ranges → Block → Bool
unfolding fitting outside leaves every
clear rs b = fitting every (leaves rs) b

unfoldable pub all_clear : Ranges → List Block → Bool
all_clear rs [] = true
all_clear rs (b ∷ bs) = clear rs b && all_clear rs bs

-- of no item anything is asked
unfoldable pub Any : Item → Point
Any i st p es = Unit {0}

-- sections, and what follows them
unfoldable pub joined : List Block → Block → Block
joined [] c = c
joined (b ∷ bs) c = b ⧺ joined bs c

-- what holds after items that leave the cells
pub record After (rs : Ranges) (st : State) (es : List Entry) (a : State) (q : ℕ) (fs : List Entry) : Type 0 where
  pub changed : Changed (leaves rs) st.cells a.cells
  pub grows : Grows es fs
  pub far : q ≤ farthest

-- what stays where these cells do
pub record Stays (rs : Ranges) (P : Point) : Type 0 where
  pub within : (a : State) (q : ℕ) (es : List Entry) → P a q es → Within a.cells × (q ≤ farthest)
  pub stays : (a b : State) (q r : ℕ) (es fs : List Entry) → Changed (leaves rs) a.cells b.cells → Grows es fs → r ≤ farthest → P a q es → P b r fs

module _ (s : List ℕ) (l : ℕ) (short : l ≤ farthest) where
  pub walk-by : (rs : Ranges) (b : Block) → clear rs b ≡ true → (st : State) (p : ℕ) (es : List Entry) → Within st.cells → p ≤ farthest → Walks s l Any b st p es (After rs st es)
  unfolding clear Any
  walk-by rs b h st p es w i =
      let z = fits-block every s l Any (λ _ _ _ _ _ _. tt) (leaves rs) b [] h st p es w tt in
      record {
        along = z.along;
        ends = λ a e. record { changed = (z.ends a e).changed; grows = (z.ends a e).grows; far = let r = (run-reaches (meaning b st) s p l).reaches a e in omega arith };
      }

  pub walk-on : (rs : Ranges) (P : Point) → Stays rs P → (b : Block) → clear rs b ≡ true → (st : State) (p : ℕ) (es : List Entry) → P st p es → Walks s l Any b st p es P
  walk-on rs P t b h st p es g =
      let w = t.within st p es g in
      walks-map s l Any (λ a q fs d. t.stays st a p q es fs d.changed d.grows d.far g) (walk-by rs b h st p es w.0 w.1)

  pub pass : (rs : Ranges) (P : Point) → Stays rs P → (bs : List Block) (c : Block) → all_clear rs bs ≡ true → (st : State) (p : ℕ) (es : List Entry) → P st p es → {R : Point}
      → ((a : State) (q : ℕ) (fs : List Entry) → P a q fs → Walks s l Any c a q fs R) → Walks s l Any (joined bs c) st p es R
  unfolding joined all_clear
  pass rs P t [] c h st p es g k = k st p es g
  pass rs P t (b ∷ bs) c h st p es g k =
      let u = both (clear rs b) (all_clear rs bs) h in
      walks-append s l Any b (joined bs c) st p es {M = P} (walk-on rs P t b u.0 st p es g) (λ a q fs i. pass rs P t bs c u.1 a q fs i k)

-- what holds of a body that is read to its end, whatever the buffer
abbrev pub AfterBody : Point → Type 0
AfterBody R =
    (s : List ℕ) (h st : State) → (headed eac3 s).result ≡ accepted h
    → (run (meaning body h) s (headed eac3 s).place (8 * bytes_of h)).result ≡ accepted st
    → R st (run (meaning body h) s (headed eac3 s).place (8 * bytes_of h)).place
    ((headed eac3 s).records ++ (run (meaning body h) s (headed eac3 s).place (8 * bytes_of h)).records)

-- by a walk through it
pub body-ends : (R : Point) → ((s : List ℕ) (h : State) → (headed eac3 s).result ≡ accepted h → 8 * bytes_of h ≤ farthest → (p : ℕ) (es : List Entry) → p ≤ farthest
    → Walks s (8 * bytes_of h) Any body h p es R) → AfterBody R
body-ends R walk s h st e d =
    let r = (run-reaches (header_by eac3 (seen eac3 s)) s 0 48).reaches h e in
    (walk s h e (omega (arith, (header-within s h e).below FRMSIZ, frmsiz-most)) (headed eac3 s).place (headed eac3 s).records (omega arith)).ends st d
