-- Cells that a part of the syntax leaves as they are. Assumes nothing.
use mathlib.Core.Path.{◌≡◌, refl, ap, sym, ◌∙◌, subst}
use mathlib.Core.Bool.{Bool, true, false, not, ◌&&◌, ◌||◌, true≢false}
use mathlib.Core.List.{List, [], ◌∷◌}
use mathlib.Core.Logic.{◌⊎◌, inl, inr}
use Prim.Native.Nat.{ℕ, zero, suc, ◌+◌, ◌-◌, ◌%◌, ◌^◌, ◌≤◌, ◌<◌}
use native.Mathlib.Omega.{arith}
use lib.Dec.{eqb, leb}
use borrow.Author.Tests.{leb-true, le-leb, eqb-true, eqb-false, not-true, not-false}
use Rattle.reading.specs.Run.{Entry}
use Rattle.cells.specs.Cells.{State, Addr, Sum, cell_of, put_in, stored, place_of, held_of}
use Rattle.cells.specs.Names.{CPL_SUBND_END, FIRSTCPLLEAK}
use Rattle.derivations.specs.Derivations.{Allocation}
use Rattle.rows.specs.Syntax.{Cell, Is, Not, Differs, Value, Let, Item, Block, element, elements, span, mantissas, exponents, when, each, reject, reject_at, put, fill, derive, end, ◌⨾◌, ◌⧺◌, cell, at, no, holds_of, amount_of}
use Rattle.bounds.specs.Along.{Point, Has}
use Rattle.bounds.specs.Bounds.{bounds, most_in, most, Within}
use Rattle.unmet.specs.Unmet.{Unmet}
use Rattle.bounds.proofs.Cells.{cell-zero, cell_at, cell-beside}
use Rattle.bounds.proofs.Bounds.{both, Test, may, spread, spreads, held_least, held_most, held-range, word, Permitted, Changed, changed-more, puts}
use Rattle.bounds.proofs.Bounded.{fitting}
use Rattle.bounds.proofs.Fits.{fits-block, Reached}
use Rattle.bounds.proofs.Walking.{Grows, Walks, Walked, walks-append, walks-map, walks_next, walks-end, walked-element, walked-exponents, walked-when, walked_put}

-- cells, from one to another
abbrev pub Ranges : Type 0
Ranges = List (ℕ × ℕ)

unfoldable pub outside : Ranges → ℕ → Bool
outside [] j = true
outside (r ∷ rs) j = not (leb r.0 j && leb j r.1) && outside rs j

abbrev pub In : Ranges → ℕ → Type 0
In [] j = ⊥
In (r ∷ rs) j = ((r.0 ≤ j) × (j ≤ r.1)) ⊎ In rs j

-- nothing is put into these cells
unfoldable pub leaves : Ranges → Test
leaves rs j a z = outside rs j

-- and nothing but 1 or more into FIRSTCPLLEAK
unfoldable pub leaves_unsent : Ranges → Test
leaves_unsent rs j a z = outside rs j && (not (eqb j FIRSTCPLLEAK) || leb 1 a)

inside-not : (rs : Ranges) (j : ℕ) → In rs j → outside rs j ≡ true → ⊥
unfolding outside
inside-not [] j x e = elim x [ ]
inside-not (r ∷ rs) j (inl h) e =
    let b : not (leb r.0 j && leb j r.1) ≡ true = (both (not (leb r.0 j && leb j r.1)) (outside rs j) e).0 in
    let c : not (true && true) ≡ true = subst (λ x. not (x && true) ≡ true) (le-leb r.0 j h.0) (subst (λ x. not (leb r.0 j && x) ≡ true) (le-leb j r.1 h.1) b) in
    true≢false (sym c)
inside-not (r ∷ rs) j (inr h) e = inside-not rs j h (both (not (leb r.0 j && leb j r.1)) (outside rs j) e).1

pub leaves-same : (rs : Ranges) (x y : List ℕ) (j : ℕ) → Changed (leaves rs) x y → j < 1024 → In rs j → cell_of y j ≡ cell_of x j
unfolding leaves
leaves-same rs x y j g b h = go (g.each j b)
  where
    go : (cell_of y j ≡ cell_of x j) ⊎ Permitted (leaves rs) j (cell_of y j) → cell_of y j ≡ cell_of x j
    go (inl e) = e
    go (inr a) = absurd (inside-not rs j h a.okay)

-- what leaves more leaves fewer
pub unsent-leaves : (rs : Ranges) (x y : List ℕ) → Changed (leaves_unsent rs) x y → Changed (leaves rs) x y
unfolding leaves_unsent leaves
unsent-leaves rs = changed-more (leaves_unsent rs) (leaves rs) (λ j a z h. (both (outside rs j) (not (eqb j FIRSTCPLLEAK) || leb 1 a) h).0)

pub unsent-fewer : (r : ℕ × ℕ) (rs : Ranges) (x y : List ℕ) → Changed (leaves_unsent (r ∷ rs)) x y → Changed (leaves_unsent rs) x y
unfolding leaves_unsent outside
unsent-fewer r rs =
    changed-more (leaves_unsent (r ∷ rs)) (leaves_unsent rs) (λ j a z h. fewer (not (leb r.0 j && leb j r.1)) (outside rs j) (not (eqb j FIRSTCPLLEAK) || leb 1 a) h)
  where
    fewer : (a b c : Bool) → ((a && b) && c) ≡ true → (b && c) ≡ true
    fewer true b c h = h
    fewer false b c h = absurd (true≢false (sym h))

pub unsent-none : (rs : Ranges) (x y : List ℕ) → Changed (leaves_unsent rs) x y → Changed (leaves_unsent []) x y
unfolding leaves_unsent outside
unsent-none rs = changed-more (leaves_unsent rs) (leaves_unsent []) (λ j a z h. (both (outside rs j) (not (eqb j FIRSTCPLLEAK) || leb 1 a) h).1)

pub unsent-same : (rs : Ranges) (x y : List ℕ) (j : ℕ) → Changed (leaves_unsent rs) x y → j < 1024 → In rs j → cell_of y j ≡ cell_of x j
unsent-same rs x y j g b h = leaves-same rs x y j (unsent-leaves rs x y g) b h

-- FIRSTCPLLEAK is 0 only where it was
pub first-leak : (rs : Ranges) (x y : List ℕ) → Changed (leaves_unsent rs) x y → cell_of y FIRSTCPLLEAK ≡ 0 → cell_of x FIRSTCPLLEAK ≡ 0
unfolding leaves_unsent
first-leak rs x y g e = go (g.each FIRSTCPLLEAK (omega arith))
  where
    go : (cell_of y FIRSTCPLLEAK ≡ cell_of x FIRSTCPLLEAK) ⊎ Permitted (leaves_unsent rs) FIRSTCPLLEAK (cell_of y FIRSTCPLLEAK) → cell_of x FIRSTCPLLEAK ≡ 0
    go (inl q) = sym q ∙ e
    go (inr a) =
        let b : leb 1 a.least ≡ true = (both (outside rs FIRSTCPLLEAK) (leb 1 a.least) a.okay).1 in
        absurd (let z : ⊥ = omega (arith, leb-true 1 a.least b, a.above) in z)

-- all items but the mantissas, a set of exponents and the allocation ask for no more than the bounds
abbrev pub by_bounds : Item → Bool
by_bounds (element name i w a) = true
by_bounds (elements name i w a k f n) = true
by_bounds (span name k) = true
by_bounds (mantissas name a) = false
by_bounds (exponents s name i) = false
by_bounds (when c b) = true
by_bounds (each k i n b) = true
by_bounds (reject c n) = true
by_bounds (reject_at c n k) = true
by_bounds (put a v) = true
by_bounds (fill k n x y a) = true
by_bounds (derive k) = not (eqb k Allocation)

sub-bands : most CPL_SUBND_END ≡ 18
unfolding most most_in bounds
sub-bands = refl

pub by-bounds : (i : Item) (st : State) (p : ℕ) (es : List Entry) → by_bounds i ≡ true → Within st.cells → Unmet i st p es
by-bounds (element name i w a) st p es h k = tt
by-bounds (elements name i w a c f n) st p es h k = tt
by-bounds (span name c) st p es h k = tt
by-bounds (mantissas name a) st p es h k = absurd (true≢false (sym h))
by-bounds (exponents s name i) st p es h k = absurd (true≢false (sym h))
by-bounds (when c b) st p es h k = tt
by-bounds (each c i n b) st p es h k = tt
by-bounds (reject c n) st p es h k = λ _. omega (arith, k.below CPL_SUBND_END, sub-bands)
by-bounds (reject_at c n j) st p es h k = tt
by-bounds (put a v) st p es h k = tt
by-bounds (fill j n x y a) st p es h k = tt
by-bounds (derive j) st p es h k = λ e. absurd (true≢false (sym (subst (λ x. not (eqb x Allocation) ≡ true) e h)))

-- the first items of a block, and those after them
unfoldable pub first_items : ℕ → Block → Block
first_items zero b = end
first_items (suc n) end = end
first_items (suc n) (i ⨾ b) = i ⨾ first_items n b

unfoldable pub after_items : ℕ → Block → Block
after_items zero b = b
after_items (suc n) end = end
after_items (suc n) (i ⨾ b) = after_items n b

-- the items inside an item; inside the first of a block
abbrev inside_of : Item → Block
inside_of (element name i w a) = end
inside_of (elements name i w a k f n) = end
inside_of (span name k) = end
inside_of (mantissas name a) = end
inside_of (exponents s name i) = end
inside_of (when c b) = b
inside_of (each k i n b) = b
inside_of (reject c n) = end
inside_of (reject_at c n k) = end
inside_of (put a v) = end
inside_of (fill k n x y a) = end
inside_of (derive k) = end

unfoldable pub inner : Block → Block
inner end = end
inner (i ⨾ b) = inside_of i

pub first-after : (n : ℕ) (b : Block) → (first_items n b ⧺ after_items n b) ≡ b
unfolding first_items after_items ◌⧺◌
first-after zero b = refl
first-after (suc n) end = refl
first-after (suc n) (i ⨾ b) = ap (λ c. i ⨾ c) (first-after n b)

-- the test
unfoldable pub passes : Test → Block → Bool
unfolding fitting outside leaves leaves_unsent first_items
passes permits b = fitting by_bounds permits b

-- an address without counters
pub place-cell : (k : ℕ) (m : List ℕ) → place_of (cell k) m ≡ k
place-cell k m = omega (arith, cell-zero m)

pub held-cell : (k : ℕ) (m : List ℕ) → held_of (cell k) m ≡ cell_of m k
held-cell k m = ap (cell_of m) (place-cell k m)

-- with one counter
pub place_at : (k by : ℕ) (m : List ℕ) → place_of (at k by) m ≡ k + cell_of m by
place_at k by m = omega (arith, cell-zero m)

-- what conditions say
pub is_true : (k x : ℕ) (m : List ℕ) → holds_of (Is (cell k) x) m ≡ true → cell_of m k ≡ x
is_true k x m h = sym (held-cell k m) ∙ eqb-true (held_of (cell k) m) x h

pub is_false : (k x : ℕ) (m : List ℕ) → holds_of (Is (cell k) x) m ≡ false → ¬ (cell_of m k ≡ x)
is_false k x m h e = eqb-false (held_of (cell k) m) x h (held-cell k m ∙ e)

pub picked-true : (a : Addr) (x : ℕ) (m : List ℕ) → holds_of (Not a x) m ≡ true → ¬ (held_of a m ≡ x)
picked-true a x m h = eqb-false (held_of a m) x (not-true (eqb (held_of a m) x) h)

pub not-true-at : (k x : ℕ) (m : List ℕ) → holds_of (Not (cell k) x) m ≡ true → ¬ (cell_of m k ≡ x)
not-true-at k x m h = is_false k x m (not-true (eqb (held_of (cell k) m) x) h)

pub not-false-at : (k x : ℕ) (m : List ℕ) → holds_of (Not (cell k) x) m ≡ false → cell_of m k ≡ x
not-false-at k x m h = is_true k x m (not-false (eqb (held_of (cell k) m) x) h)

pub differs_false : (a b : Addr) (m : List ℕ) → holds_of (Differs a (Cell b)) m ≡ false → held_of a m ≡ held_of b m
differs_false a b m h = eqb-true (held_of a m) (held_of b m) (not-false (eqb (held_of a m) (held_of b m)) h)

module _ (s : List ℕ) (l : ℕ) where
  fits_by : (permits : Test) (b : Block) → passes permits b ≡ true → (st : State) (p : ℕ) (es : List Entry) → Within st.cells
      → Walks s l Unmet b st p es (Reached by_bounds s l Unmet by-bounds permits st es)
  unfolding passes
  fits_by permits b h st p es w = fits-block by_bounds s l Unmet by-bounds permits b [] h st p es w tt

  -- the first items, and those after them
  pub parts : (n : ℕ) (b : Block) (st : State) (p : ℕ) (es : List Entry) {M R : Point} → Walks s l Unmet (first_items n b) st p es M
      → ((a : State) (q : ℕ) (fs : List Entry) → M a q fs → Walks s l Unmet (after_items n b) a q fs R) → Walks s l Unmet b st p es R
  parts n b st p es {M} {R} h k =
      subst (λ c. Walks s l Unmet c st p es R) (first-after n b) (walks-append s l Unmet (first_items n b) (after_items n b) st p es h k)

  -- a part that passes the test
  pub skip : (permits : Test) (n : ℕ) (b : Block) → passes permits (first_items n b) ≡ true → (st : State) (p : ℕ) (es : List Entry) → Within st.cells → {R : Point}
      → ((a : State) (q : ℕ) (fs : List Entry) → Changed permits st.cells a.cells → Grows es fs → Walks s l Unmet (after_items n b) a q fs R)
      → Walks s l Unmet b st p es R
  skip permits n b h st p es w k = parts n b st p es (fits_by permits (first_items n b) h st p es w) (λ a q fs c. k a q fs c.changed c.grows)

  pub whole : (permits : Test) (b : Block) → passes permits b ≡ true → (st : State) (p : ℕ) (es : List Entry) → Within st.cells → {R : Point}
      → ((a : State) (q : ℕ) (fs : List Entry) → Changed permits st.cells a.cells → Grows es fs → R a q fs) → Walks s l Unmet b st p es R
  whole permits b h st p es w k =
      walks-map s l Unmet (λ a q fs c. k a q fs c.changed c.grows) (fits_by permits b h st p es w)

  -- a put that passes the test: the cell k has the value x then, and all others are as they were
  pub put-by : (permits : Test) (a : Addr) (v : Value) → passes permits (put a v ⨾ end) ≡ true → (st : State) (p : ℕ) (es : List Entry) → Within st.cells → (k x : ℕ)
      → place_of a st.cells ≡ k → amount_of v p st.cells ≡ x → 0 < k → k < 1024 → x < 65536 → {R : Point}
      → ((y : State) → Changed permits st.cells y.cells → cell_of y.cells k ≡ x → ((j : ℕ) → j < 1024 → ¬ (j ≡ k) → cell_of y.cells j ≡ cell_of st.cells j) → R y p es)
      → Walked s l Unmet (put a v) st p es R
  unfolding passes
  put-by permits a v h st p es w k x ek ex i j f {R} r =
      let t = both (may permits a.base (spread a []) (held_least v []) (held_most v [])) true h in
      let d = held-range v [] m p w tt in
      let e = spreads a [] m w tt in
      let g : Changed permits m (put_in m c n) = puts permits m c n a.base (spread a []) (held_least v []) (held_most v []) w t.0 e.0 e.1 d.0 d.1 in
      let z : n % 65536 ≡ x = omega arith in
      walked_put s l Unmet a v st p es
      (r (stored st c n) g
      (subst (λ y. cell_of (put_in m c n) y ≡ x) ek (cell_at m c n w.sized (omega arith) (omega arith) ∙ z))
      (λ y b q. cell-beside m c n y b (omega arith) (λ u. q (u ∙ ek))))
    where
      m : List ℕ
      m = st.cells

      c : ℕ
      c = place_of a m

      n : ℕ
      n = amount_of v p m

  -- a copy of a cell
  pub copy-by : (permits : Test) (k c : ℕ) → passes permits (put (cell k) (Let 0 1 (cell c)) ⨾ end) ≡ true → (st : State) (p : ℕ) (es : List Entry) → Within st.cells → 0 < k → k < 1024 → {R : Point}
      → ((y : State) → Changed permits st.cells y.cells → cell_of y.cells k ≡ cell_of st.cells c → ((j : ℕ) → j < 1024 → ¬ (j ≡ k) → cell_of y.cells j ≡ cell_of st.cells j) → R y p es)
      → Walked s l Unmet (put (cell k) (Let 0 1 (cell c))) st p es R
  copy-by permits k c h st p es w i j r =
      let d = held-cell c st.cells in
      put-by permits (cell k) (Let 0 1 (cell c)) h st p es w k (cell_of st.cells c) (place-cell k st.cells) (omega arith) i j (word st.cells c w) r

  -- a number
  pub number_by : (permits : Test) (k x : ℕ) → passes permits (put (cell k) (Let x 0 no) ⨾ end) ≡ true → (st : State) (p : ℕ) (es : List Entry) → Within st.cells → 0 < k → k < 1024 → x < 65536 → {R : Point}
      → ((y : State) → Changed permits st.cells y.cells → cell_of y.cells k ≡ x → ((j : ℕ) → j < 1024 → ¬ (j ≡ k) → cell_of y.cells j ≡ cell_of st.cells j) → R y p es)
      → Walked s l Unmet (put (cell k) (Let x 0 no)) st p es R
  number_by permits k x h st p es w i j f r = put-by permits (cell k) (Let x 0 no) h st p es w k x (place-cell k st.cells) (omega arith) i j f r

  -- a set of exponents changes no cell
  pub set-by : (x : Sum) (name : ℕ) (i : Sum) (b : Block) (st : State) (p : ℕ) (es : List Entry) {R : Point} → Unmet (exponents x name i) st p es
      → ((y : State) (q : ℕ) (fs : List Entry) → st.cells ≡ y.cells → Grows es fs → Walks s l Unmet b y q fs R) → Walks s l Unmet (exponents x name i ⨾ b) st p es R
  set-by x name i b st p es h k =
      walks_next s l Unmet _ _ st p es {M = λ y q fs. (st.cells ≡ y.cells) × Grows es fs} h
      (walked-exponents s l Unmet x name i st p es (λ c q fs g. (refl, g))) (λ y q fs m. k y q fs m.0 m.1)

  -- an element
  pub element-by : (permits : Test) (name : ℕ) (i : Sum) (n : ℕ) (a : Addr) → passes permits (element name i n a ⨾ end) ≡ true → (st : State) (p : ℕ) (es : List Entry) → Within st.cells → {R : Point}
      → ((y : State) (q : ℕ) (fs : List Entry) → Changed permits st.cells y.cells → Grows es fs → Has name fs → R y q fs) → Walked s l Unmet (element name i n a) st p es R
  unfolding passes
  element-by permits name i n a h st p es w r =
      let t = both (may permits a.base (spread a []) 0 (2 ^ n - 1)) true h in
      let d = spreads a [] st.cells w tt in
      walked-element s l Unmet name i n a st p es
      (λ v fs k g f. r (stored st (place_of a st.cells) v) (p + n) fs
      (puts permits st.cells (place_of a st.cells) v a.base (spread a []) 0 (2 ^ n - 1) w t.0 d.0 d.1 (omega arith) (omega arith)) g f)

  -- one of two parts, by whether a cell is 0: the first may change the cell, so the second may follow it
  pub either : (a : Addr) (b c : Block) (st : State) (p : ℕ) (es : List Entry) {R : Point} → (holds_of (Not a 0) st.cells ≡ true → Walks s l Unmet b st p es R)
      → ((x : State) (q : ℕ) (fs : List Entry) → R x q fs → Walks s l Unmet c x q fs R) → (holds_of (Is a 0) st.cells ≡ true → Walks s l Unmet c st p es R)
      → Walks s l Unmet (when (Not a 0) b ⨾ when (Is a 0) c ⨾ end) st p es R
  either a b c st p es {R} h k j =
      walks_next s l Unmet _ _ st p es {M = M} tt
      (walked-when s l Unmet (Not a 0) b st p es (λ e. walks-map s l Unmet (λ x q fs r. inl r) (h e)) (λ e. inr (j (not-false _ e), not-false _ e)))
      (λ x q fs m. walks_next s l Unmet _ _ x q fs {M = R} tt (walked-when s l Unmet (Is a 0) c x q fs (λ e. then-c x q fs m) (λ e. then-not x q fs m e))
      (λ y r gs d. walks-end s l Unmet y r gs d))
    where
      M : Point
      M x q fs = R x q fs ⊎ (Walks s l Unmet c x q fs R × (holds_of (Is a 0) x.cells ≡ true))

      then-c : (x : State) (q : ℕ) (fs : List Entry) → M x q fs → Walks s l Unmet c x q fs R
      then-c x q fs (inl r) = k x q fs r
      then-c x q fs (inr r) = r.0

      then-not : (x : State) (q : ℕ) (fs : List Entry) → M x q fs → holds_of (Is a 0) x.cells ≡ false → R x q fs
      then-not x q fs (inl r) e = r
      then-not x q fs (inr r) e = absurd (true≢false (sym r.1 ∙ e))
