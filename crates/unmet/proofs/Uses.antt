-- The use of coupling by block, as the frame says it: a block that sends no strategy is coupled as the block before it. Assumes nothing.
use mathlib.Core.Path.{◌≡◌, refl, ap, sym, ◌∙◌, subst}
use mathlib.Core.Bool.{Bool, true, ◌&&◌}
use mathlib.Core.List.{List, [], ◌∷◌}
use mathlib.Core.Logic.{◌⊎◌, inl, inr, by_cases}
use Prim.Native.Nat.{ℕ, zero, suc, ◌+◌, ◌-◌, ◌*◌, ◌%◌, ◌≤◌, ◌<◌}
use native.Mathlib.Omega.{arith}
use native.Mathlib.Decide.{ℕ_discrete}
use lib.Dec.{leb}
use lib.ListN.{length, get_or}
use borrow.Author.Tests.{eqb-true, eqb-false, leb-true}
use Rattle.tables.specs.Small.{nfchans}
use Rattle.reading.specs.Run.{Entry, accepted, run}
use Rattle.cells.specs.Cells.{State, cell_of, put_in, stored, place_of, held_of}
use Rattle.cells.specs.Names.{ACMOD, BLK, CHBWCOD, CPLINUS, CPLSTRE, FSCOD, NFCHANS, NUMBLKS}
use Rattle.sideinfo.specs.Frames.{nfchans_by}
use Rattle.derivations.specs.Derivations.{Nfchans, derived}
use Rattle.rows.specs.Syntax.{Let, ◌⧺◌, at, meaning}
use Rattle.annex.specs.Syncinfo.{syncinfo, bsi_size}
use Rattle.annex.specs.Bsi.{mixdef3, mixing_metadata, informational_metadata, bsi}
use Rattle.annex.specs.Audfrm.{coupling}
use Rattle.annex.specs.Annex.{header}
use Rattle.annex.specs.Frame.{start}
use Rattle.bounds.specs.Along.{Along}
use Rattle.bounds.specs.Bounds.{bounds, most_in, most, Within}
use Rattle.unmet.specs.Unmet.{Unmet}
use Rattle.cells.proofs.Cells.{cell-none}
use Rattle.bounds.proofs.Cells.{cell-zero, cell_at, cell-beside}
use Rattle.bounds.proofs.Bounds.{both, word, numblks-most, may, Changed, changed-none, changed_then, puts, none_within}
use Rattle.bounds.proofs.Derived.{fits_derived, derived-changes, nfchans-most}
use Rattle.unmet.proofs.Exponents.{passed}
use Rattle.unmet.proofs.Ranges.{Rated, rated-stays}
use Rattle.unmet.proofs.Leaves.{Ranges, leaves_unsent, passes, unsent-same, unsent-fewer, unsent-none, first_items, after_items, inner, place_at, held-cell, is_false, skip, whole, put-by, number_by}
use Rattle.bounds.proofs.Walking.{Grows, grows-refl, grows-trans, Walks, walks_next, walks-end, walks-map, walked-element, walked-when, walked-derive, walked-each}

-- the cells of the uses, and the bandwidth codes
unfoldable pub blank : Ranges
blank = (CPLSTRE, CPLINUS + 5) ∷ (CHBWCOD, CHBWCOD + 4) ∷ []

-- and the sample rate and the number of channels
unfoldable pub unset : Ranges
unset = (CPLSTRE, CPLINUS + 5) ∷ (CHBWCOD, CHBWCOD + 4) ∷ (FSCOD, FSCOD) ∷ (NFCHANS, NFCHANS) ∷ []

-- and the number of blocks
unfoldable pub uses : Ranges
unfolding unset
uses = (NUMBLKS, NUMBLKS) ∷ unset

-- nothing of them is sent yet
pub record Blank (m : List ℕ) : Type 0 where
  pub none : (j : ℕ) → CPLSTRE ≤ j → j ≤ CPLINUS + 5 → cell_of m j ≡ 0
  pub coded : (ch : ℕ) → ch < 5 → cell_of m (CHBWCOD + ch) ≤ 60

pub blank-stays : (x y : List ℕ) → Changed (leaves_unsent blank) x y → Blank x → Blank y
unfolding blank
blank-stays x y g u = record {
  none = λ j h k. unsent-same blank x y j g (omega arith) (inl (h, k)) ∙ u.none j h k;
  coded = λ ch h. rw (unsent-same blank x y (CHBWCOD + ch) g (omega arith) (inr (inl (omega arith, omega arith)))) (u.coded ch h);
}

-- but the sample rate and the channels are
pub record Unset (m : List ℕ) : Type 0 where
  pub none : (j : ℕ) → CPLSTRE ≤ j → j ≤ CPLINUS + 5 → cell_of m j ≡ 0
  pub coded : (ch : ℕ) → ch < 5 → cell_of m (CHBWCOD + ch) ≤ 60
  pub rated : Rated m

pub unset-stays : (x y : List ℕ) → Changed (leaves_unsent unset) x y → Unset x → Unset y
unfolding unset
unset-stays x y g u = record {
  none = λ j h k. unsent-same unset x y j g (omega arith) (inl (h, k)) ∙ u.none j h k;
  coded = λ ch h. rw (unsent-same unset x y (CHBWCOD + ch) g (omega arith) (inr (inl (omega arith, omega arith)))) (u.coded ch h);
  rated = rated-stays x y (unsent-same unset x y FSCOD g (omega arith) (inr (inr (inl (omega arith, omega arith))))) (unsent-same unset x y NFCHANS g (omega arith) (inr (inr (inr (inl (omega arith, omega arith)))))) u.rated;
}

-- the first block sends a strategy if it is coupled; each other one of n blocks, or the one before it is coupled
pub record Linked (n : ℕ) (m : List ℕ) : Type 0 where
  pub first : cell_of m CPLSTRE ≡ 0 → ¬ (cell_of m CPLINUS ≡ 1)
  pub next : (c : ℕ) → suc c < n → cell_of m (CPLSTRE + suc c) ≡ 0 → cell_of m (CPLINUS + suc c) ≡ 1 → cell_of m (CPLINUS + c) ≡ 1

-- it stays with those cells
pub linked-stays : (n : ℕ) (x y : List ℕ) → n ≤ 6 → ((j : ℕ) → CPLSTRE ≤ j → j ≤ CPLINUS + 5 → cell_of y j ≡ cell_of x j) → Linked n x → Linked n y
linked-stays n x y b e u = record {
  first = rw (e CPLSTRE (omega arith) (omega arith), e CPLINUS (omega arith) (omega arith)) u.first;
  next = λ c h. rw (e (CPLSTRE + suc c) (omega arith) (omega arith), e (CPLINUS + suc c) (omega arith) (omega arith), e (CPLINUS + c) (omega arith) (omega arith)) (u.next c h);
}

pub record Uses (m : List ℕ) : Type 0 where
  pub linked : Linked (cell_of m NUMBLKS) m
  pub coded : (ch : ℕ) → ch < 5 → cell_of m (CHBWCOD + ch) ≤ 60
  pub rated : Rated m

pub uses-stay : (x y : List ℕ) → Changed (leaves_unsent uses) x y → Uses x → Uses y
unfolding uses
uses-stay x y g u =
    let n : cell_of y NUMBLKS ≡ cell_of x NUMBLKS = unsent-same uses x y NUMBLKS g (omega arith) (inl (omega arith, omega arith)) in
    let b : cell_of y NUMBLKS ≤ 6 = omega (arith, g.within.below NUMBLKS, numblks-most) in
    record {
      linked = linked-stays (cell_of y NUMBLKS) x y b (λ j h k. unsent-same uses x y j g (omega arith) (inr (inl (h, k)))) (subst (λ i. Linked i x) (sym n) u.linked);
      coded = λ ch h. rw (unsent-same uses x y (CHBWCOD + ch) g (omega arith) (inr (inr (inl (omega arith, omega arith))))) (u.coded ch h);
      rated = rated-stays x y (unsent-same uses x y FSCOD g (omega arith) (inr (inr (inr (inl (omega arith, omega arith)))))) (unsent-same uses x y NFCHANS g (omega arith) (inr (inr (inr (inr (inl (omega arith, omega arith))))))) u.rated;
    }

module _ (s : List ℕ) (l : ℕ) where
  -- the header sends nothing of them
  pub header-blank : (h : State) → (run (meaning header start) s 0 l).result ≡ accepted h → Blank h.cells
  unfolding header syncinfo bsi_size ◌⧺◌ passes blank start
  header-blank h e =
      (whole s l (leaves_unsent blank) header refl start 0 [] none_within {R = λ a q fs. Blank a.cells}
      (λ a q fs g _. blank-stays start.cells a.cells g (record { none = λ j _ _. cell-none j; coded = λ ch _. let z = cell-none (CHBWCOD + ch) in omega arith }))
      ).ends h e

  -- and asks for nothing that was left out
  pub header-unmet : Along s l Unmet header start 0 []
  unfolding header syncinfo bsi_size ◌⧺◌ passes start
  header-unmet = (whole s l (leaves_unsent []) header refl start 0 [] none_within {R = λ a q fs. Unit {0}} (λ a q fs g _. tt)).along

  -- what the section leaves: the number of blocks and the codes; and its first flag
  kept : Ranges
  kept = (NUMBLKS, NUMBLKS) ∷ (CHBWCOD, CHBWCOD + 4) ∷ (FSCOD, FSCOD) ∷ (NFCHANS, NFCHANS) ∷ []

  flagged : Ranges
  unfolding kept
  flagged = (CPLSTRE, CPLSTRE) ∷ kept

  flagged-kept : (x y : List ℕ) → Changed (leaves_unsent flagged) x y → Changed (leaves_unsent kept) x y
  unfolding flagged
  flagged-kept x y g = unsent-fewer _ _ x y g

  pub record CouplingUses (st : State) (es : List Entry) (a : State) (q : ℕ) (fs : List Entry) : Type 0 where
    pub changed : Changed (leaves_unsent []) st.cells a.cells
    pub grows : Grows es fs
    pub uses-now : Uses a.cells

  -- the blocks before the block j, and after a first flag
  record To (st : State) (es : List Entry) (j : ℕ) (a : State) (q : ℕ) (fs : List Entry) : Type 0 where
    changed : Changed (leaves_unsent kept) st.cells a.cells
    grows : Grows es fs
    some : 1 ≤ j
    flag : cell_of a.cells CPLSTRE ≡ 1
    next : (c : ℕ) → suc c < j → cell_of a.cells (CPLSTRE + suc c) ≡ 0 → cell_of a.cells (CPLINUS + suc c) ≡ 1 → cell_of a.cells (CPLINUS + c) ≡ 1

  record Flag (st : State) (es : List Entry) (a : State) (q : ℕ) (fs : List Entry) : Type 0 where
    changed : Changed (leaves_unsent kept) st.cells a.cells
    grows : Grows es fs
    flag : cell_of a.cells CPLSTRE ≡ 1

  -- in the block j nothing but its two cells changes
  record Turn (x : State) (fs : List Entry) (j : ℕ) (y : State) (r : ℕ) (gs : List Entry) : Type 0 where
    changed : Changed (leaves_unsent kept) x.cells y.cells
    grows : Grows fs gs
    number : cell_of y.cells BLK ≡ j
    same : (k : ℕ) → k < 1024 → ¬ (k ≡ CPLSTRE + j) → ¬ (k ≡ CPLINUS + j) → cell_of y.cells k ≡ cell_of x.cells k

  -- with a new strategy, or with none so far; at last
  record New (x : State) (fs : List Entry) (j : ℕ) (y : State) (r : ℕ) (gs : List Entry) : Type 0 where
    turn : Turn x fs j y r gs
    either : (cell_of y.cells (CPLSTRE + j) ≡ 1) ⊎ Unit {0}

  record Done (x : State) (fs : List Entry) (j : ℕ) (y : State) (r : ℕ) (gs : List Entry) : Type 0 where
    turn : Turn x fs j y r gs
    copied : cell_of y.cells (CPLSTRE + j) ≡ 0 → cell_of y.cells (CPLINUS + j) ≡ cell_of y.cells (CPLINUS - 1 + j)

  may-flag : may (leaves_unsent kept) CPLSTRE 5 0 1 ≡ true
  unfolding passes kept
  may-flag = refl

  may-use : may (leaves_unsent kept) CPLINUS 5 0 1 ≡ true
  unfolding passes kept
  may-use = refl

  -- a put into one of the two cells
  turn-put : (x : State) (fs : List Entry) (j k v : ℕ) (y : State) (r u : ℕ) (gs hs : List Entry) → j < 6 → (k ≡ CPLSTRE + j) ⊎ (k ≡ CPLINUS + j) → Changed (leaves_unsent kept) y.cells (put_in y.cells k v)
      → Turn x fs j y r gs → Grows gs hs → Turn x fs j (stored y k v) u hs
  turn-put x fs j k v y r u gs hs b p g t h = record {
    changed = changed_then (leaves_unsent kept) x.cells y.cells (put_in y.cells k v) t.changed g;
    grows = grows-trans fs gs hs t.grows h;
    number = cell-beside y.cells k v BLK (omega arith) (bound p) (λ z. not-blk p z) ∙ t.number;
    same = λ i c d e. cell-beside y.cells k v i c (bound p) (λ z. not-it i d e p z) ∙ t.same i c d e;
  }
    where
      bound : (k ≡ CPLSTRE + j) ⊎ (k ≡ CPLINUS + j) → k < 1024
      bound (inl z) = omega arith
      bound (inr z) = omega arith

      not-blk : (k ≡ CPLSTRE + j) ⊎ (k ≡ CPLINUS + j) → BLK ≡ k → ⊥
      not-blk (inl z) o = omega arith
      not-blk (inr z) o = omega arith

      not-it : (i : ℕ) → ¬ (i ≡ CPLSTRE + j) → ¬ (i ≡ CPLINUS + j) → (k ≡ CPLSTRE + j) ⊎ (k ≡ CPLINUS + j) → i ≡ k → ⊥
      not-it i d e (inl z) o = d (o ∙ z)
      not-it i d e (inr z) o = e (o ∙ z)

  turn-walk : (x : State) (q : ℕ) (fs : List Entry) (j : ℕ) → Within x.cells → 1 ≤ j → j < 6 → cell_of x.cells BLK ≡ j
      → Walks s l Unmet (inner (after_items 2 (inner coupling))) x q fs (Done x fs j)
  unfolding coupling inner after_items passes kept
  turn-walk x q fs j w low high e =
      let m = x.cells in
      let pa : place_of (at CPLSTRE BLK) m ≡ CPLSTRE + j = place_at CPLSTRE BLK m ∙ ap (λ u. CPLSTRE + u) e in
      walks_next s l Unmet _ _ x q fs {M = Turn x fs j} tt
      (walked-element s l Unmet _ _ 1 (at CPLSTRE BLK) x q fs
      (λ v gs b h _. turn-put x fs j (place_of (at CPLSTRE BLK) m) v x q (q + 1) fs gs high (inl pa)
      (puts (leaves_unsent kept) m (place_of (at CPLSTRE BLK) m) v CPLSTRE 5 0 1 w may-flag (omega arith) (omega arith) (omega arith) (omega arith))
      (record { changed = changed-none (leaves_unsent kept) m w; grows = grows-refl fs; number = e; same = λ k _ _ _. refl }) h))
      (λ y r gs t.
      let ps : place_of (at CPLSTRE BLK) y.cells ≡ CPLSTRE + j = place_at CPLSTRE BLK y.cells ∙ ap (λ u. CPLSTRE + u) t.number in
      let pi : place_of (at CPLINUS BLK) y.cells ≡ CPLINUS + j = place_at CPLINUS BLK y.cells ∙ ap (λ u. CPLINUS + u) t.number in
      walks_next s l Unmet _ _ y r gs {M = New x fs j} tt
      (walked-when s l Unmet _ _ y r gs
      (λ o. walks_next s l Unmet _ _ y r gs {M = New x fs j} tt
      (walked-element s l Unmet _ _ 1 (at CPLINUS BLK) y r gs
      (λ v hs b h _. record {
        turn = turn-put x fs j (place_of (at CPLINUS BLK) y.cells) v y r (r + 1) gs hs high (inr pi)
            (puts (leaves_unsent kept) y.cells (place_of (at CPLINUS BLK) y.cells) v CPLINUS 5 0 1 t.changed.within may-use (omega arith) (omega arith) (omega arith) (omega arith)) t h;
        either = inl (cell-beside y.cells (place_of (at CPLINUS BLK) y.cells) v (CPLSTRE + j) (omega arith) (omega arith) (λ z. omega arith)
            ∙ ap (cell_of y.cells) (sym ps) ∙ eqb-true (held_of (at CPLSTRE BLK) y.cells) 1 o);
      }))
      (λ z u hs d. walks-end s l Unmet z u hs d))
      (λ _. record { turn = t; either = inr tt }))
      (λ z u hs d.
      let qs : place_of (at CPLSTRE BLK) z.cells ≡ CPLSTRE + j = place_at CPLSTRE BLK z.cells ∙ ap (λ u. CPLSTRE + u) d.turn.number in
      walks_next s l Unmet _ _ z u hs {M = Done x fs j} tt
      (walked-when s l Unmet _ _ z u hs
      (λ o.
      let qi : place_of (at CPLINUS BLK) z.cells ≡ CPLINUS + j = place_at CPLINUS BLK z.cells ∙ ap (λ u. CPLINUS + u) d.turn.number in
      let qc : place_of (at (CPLINUS - 1) BLK) z.cells ≡ CPLINUS - 1 + j = place_at (CPLINUS - 1) BLK z.cells ∙ ap (λ u. CPLINUS - 1 + u) d.turn.number in
      walks_next s l Unmet _ _ z u hs {M = Done x fs j} tt
      (put-by s l (leaves_unsent kept) (at CPLINUS BLK) (Let 0 1 (at (CPLINUS - 1) BLK)) refl z u hs d.turn.changed.within (CPLINUS + j) (cell_of z.cells (CPLINUS - 1 + j)) qi
      (let f = ap (cell_of z.cells) qc in let k : 0 + 1 * held_of (at (CPLINUS - 1) BLK) z.cells ≡ cell_of z.cells (CPLINUS - 1 + j) = omega arith in k)
      (omega arith) (omega arith) (word z.cells (CPLINUS - 1 + j) d.turn.changed.within)
      (λ v g here others. record {
        turn = record {
          changed = changed_then (leaves_unsent kept) m z.cells v.cells d.turn.changed g;
          grows = d.turn.grows;
          number = others BLK (omega arith) (λ y. omega arith) ∙ d.turn.number;
          same = λ k a b c. others k a c ∙ d.turn.same k a b c;
        };
        copied = λ _. here ∙ sym (others (CPLINUS - 1 + j) (omega arith) (λ y. omega arith));
      }))
      (λ v a is d. walks-end s l Unmet v a is d))
      (λ o. record { turn = d.turn; copied = λ k. absurd (eqb-false (held_of (at CPLSTRE BLK) z.cells) 0 o (ap (cell_of z.cells) qs ∙ k)) }))
      (λ v a is d. walks-end s l Unmet v a is d)))

  may-blk : may (leaves_unsent flagged) BLK 0 0 5 ≡ true
  unfolding passes flagged
  may-blk = refl

  record Counted (st : State) (es : List Entry) (a : State) (q : ℕ) (fs : List Entry) : Type 0 where
    changed : Changed (leaves_unsent kept) st.cells a.cells
    grows : Grows es fs
    linked : Linked (cell_of a.cells NUMBLKS) a.cells

  module _ (st : State) (a : State) (g : Changed (leaves_unsent kept) st.cells a.cells) where
    blocks-same : cell_of a.cells NUMBLKS ≡ cell_of st.cells NUMBLKS
    unfolding kept
    blocks-same = unsent-same kept st.cells a.cells NUMBLKS g (omega arith) (inl (omega arith, omega arith))

    codes_same : (ch : ℕ) → ch < 5 → cell_of a.cells (CHBWCOD + ch) ≡ cell_of st.cells (CHBWCOD + ch)
    unfolding kept
    codes_same ch h = unsent-same kept st.cells a.cells (CHBWCOD + ch) g (omega arith) (inr (inl (omega arith, omega arith)))

    rated-same : Rated st.cells → Rated a.cells
    unfolding kept
    rated-same = rated-stays st.cells a.cells (unsent-same kept st.cells a.cells FSCOD g (omega arith) (inr (inr (inl (omega arith, omega arith)))))
        (unsent-same kept st.cells a.cells NFCHANS g (omega arith) (inr (inr (inr (inl (omega arith, omega arith))))))

  -- all blocks
  counted : (st : State) (es : List Entry) (j : ℕ) (a : State) (q : ℕ) (fs : List Entry) → cell_of a.cells NUMBLKS ≤ j → To st es j a q fs → Counted st es a q fs
  counted st es j a q fs h t = record {
    changed = t.changed;
    grows = t.grows;
    linked = record { first = λ z. absurd (let y = t.flag in let o : ⊥ = omega arith in o); next = λ c i. t.next c (omega arith) };
  }

  -- one more
  turned : (st : State) (es : List Entry) (j : ℕ) (a : State) (q : ℕ) (fs : List Entry) → j < 6 → To st es j a q fs
      → Walks s l Unmet (inner (after_items 2 (inner coupling))) (stored a BLK j) q fs (To st es (suc j))
  unfolding flagged
  turned st es j a q fs b t =
      let m = put_in a.cells BLK j in
      let w = t.changed.within in
      let g : Changed (leaves_unsent flagged) a.cells m = puts (leaves_unsent flagged) a.cells BLK j BLK 0 0 5 w may-blk (omega arith) (omega arith) (omega arith) (omega arith) in
      let n : cell_of m BLK ≡ j = cell_at a.cells BLK j w.sized (omega arith) (omega arith) ∙ (let z : j % 65536 ≡ j = omega arith in z) in
      walks-map s l Unmet
      (λ y r gs d.
      let old : (k : ℕ) → k < 1024 → ¬ (k ≡ BLK) → ¬ (k ≡ CPLSTRE + j) → ¬ (k ≡ CPLINUS + j) → cell_of y.cells k ≡ cell_of a.cells k =
      λ k c o e f. d.turn.same k c e f ∙ cell-beside a.cells BLK j k c (omega arith) o in
      let low = t.some in
      record {
        changed = changed_then (leaves_unsent kept) st.cells a.cells y.cells t.changed (changed_then (leaves_unsent kept) a.cells m y.cells (flagged-kept a.cells m g) d.turn.changed);
        grows = grows-trans es fs gs t.grows d.turn.grows;
        some = omega arith;
        flag = old CPLSTRE (omega arith) (λ z. omega arith) (λ z. omega arith) (λ z. omega arith) ∙ t.flag;
        next = λ c i. by_cases (ℕ_discrete (suc c) j)
            (λ e z o.
            let f : cell_of y.cells (CPLSTRE + j) ≡ 0 = subst (λ k. cell_of y.cells (CPLSTRE + k) ≡ 0) e z in
            let h : CPLINUS - 1 + j ≡ CPLINUS + c = omega arith in
            ap (cell_of y.cells) (sym h) ∙ sym (d.copied f) ∙ subst (λ k. cell_of y.cells (CPLINUS + k) ≡ 1) e o)
            (λ e z o.
            old (CPLINUS + c) (omega arith) (λ v. omega arith) (λ v. omega arith) (λ v. omega arith)
            ∙ t.next c (omega arith) (sym (old (CPLSTRE + suc c) (omega arith) (λ v. omega arith) (λ v. e (omega arith)) (λ v. omega arith)) ∙ z)
            (sym (old (CPLINUS + suc c) (omega arith) (λ v. omega arith) (λ v. omega arith) (λ v. e (omega arith))) ∙ o));
      })
      (turn-walk (stored a BLK j) q fs j g.within t.some b n)

  pub uses-walk : (st : State) (p : ℕ) (es : List Entry) → Within st.cells → Unset st.cells → Walks s l Unmet coupling st p es (CouplingUses st es)
  unfolding coupling inner first_items after_items passes kept flagged uses
  uses-walk st p es w u =
      walks_next s l Unmet _ _ st p es {M = Counted st es} tt
      (walked-when s l Unmet _ _ st p es
      (λ _. walks_next s l Unmet _ _ st p es {M = Flag st es} tt
      (number_by s l (leaves_unsent kept) CPLSTRE 1 refl st p es w (omega arith) (omega arith) (omega arith)
      (λ y g same others. record { changed = g; grows = grows-refl es; flag = same }))
      (λ a q fs c. skip s l (leaves_unsent flagged) 1 _ refl a q fs c.changed.within
      (λ b r gs g h.
      let f : cell_of b.cells CPLSTRE ≡ 1 = unsent-same flagged a.cells b.cells CPLSTRE g (omega arith) (inl (omega arith, omega arith)) ∙ c.flag in
      let v : Changed (leaves_unsent kept) st.cells b.cells = changed_then (leaves_unsent kept) st.cells a.cells b.cells c.changed (flagged-kept a.cells b.cells g) in
      walks_next s l Unmet _ _ b r gs {M = Counted st es} tt
      (walked-each s l Unmet BLK _ _ _ b r gs (To st es)
      (record {
        changed = v;
        grows = grows-trans es fs gs c.grows h;
        some = omega arith;
        flag = f;
        next = λ i k. absurd (let z : ⊥ = omega (arith, cell-zero b.cells) in z);
      })
      (λ j x u hs i t. turned st es j x u hs (let z = held-cell NUMBLKS b.cells in omega (arith, v.within.below NUMBLKS, numblks-most)) t)
      (λ j x u hs i t. counted st es j x u hs (let z = held-cell NUMBLKS b.cells in
      let y : cell_of x.cells NUMBLKS ≡ cell_of st.cells NUMBLKS = blocks-same st x t.changed in
      let o : cell_of b.cells NUMBLKS ≡ cell_of st.cells NUMBLKS = blocks-same st b v in
      omega arith) t))
      (λ x u hs d. walks-end s l Unmet x u hs d))))
      (λ _. record {
        changed = changed-none (leaves_unsent kept) st.cells w;
        grows = grows-refl es;
        linked = record {
          first = λ _ z. let o = u.none CPLINUS (omega arith) (omega arith) in omega arith;
          next = λ c i _ z. let b : cell_of st.cells NUMBLKS ≤ 6 = omega (arith, w.below NUMBLKS, numblks-most) in absurd (let o = u.none (CPLINUS + suc c) (omega arith) (omega arith) in let y : ⊥ = omega arith in y);
        };
      }))
      (λ a q fs c. whole s l (leaves_unsent uses) _ refl a q fs c.changed.within
      (λ b r gs g h. record {
        changed = changed_then (leaves_unsent []) st.cells a.cells b.cells (unsent-none kept st.cells a.cells c.changed) (unsent-none uses a.cells b.cells g);
        grows = grows-trans es fs gs c.grows h;
        uses-now = uses-stay a.cells b.cells g (record { linked = c.linked; coded = λ ch i. rw (codes_same st a c.changed ch i) (u.coded ch i); rated = rated-same st a c.changed u.rated });
      }))

-- acmod gives a channel at least
all_from : ℕ → List ℕ → Bool
all_from z [] = true
all_from z (v ∷ vs) = leb z v && all_from z vs

at_least : (z : ℕ) (vs : List ℕ) (i : ℕ) → all_from z vs ≡ true → i < length vs → z ≤ get_or vs i 0
unfolding all_from
at_least z [] i h k = absurd (let o : ⊥ = omega arith in o)
at_least z (v ∷ vs) zero h k = leb-true z v (both (leb z v) (all_from z vs) h).0
at_least z (v ∷ vs) (suc i) h k = at_least z vs i (both (leb z v) (all_from z vs) h).1 (omega arith)

modes : (all_from 1 nfchans ≡ true) × (length nfchans ≡ 8) × (most ACMOD ≡ 7)
unfolding all_from nfchans most most_in bounds
modes = (refl, refl, refl)

module _ (s : List ℕ) (l : ℕ) where
  -- bsi: the sample rate, then the channels
  pub record AfterBsi (st : State) (es : List Entry) (a : State) (q : ℕ) (fs : List Entry) : Type 0 where
    pub within : Within a.cells
    pub unset-now : Unset a.cells

  rate_too : Ranges
  unfolding blank
  rate_too = (FSCOD, FSCOD) ∷ blank

  rate-blank : (x y : List ℕ) → Changed (leaves_unsent rate_too) x y → Changed (leaves_unsent blank) x y
  unfolding rate_too
  rate-blank x y g = unsent-fewer _ _ x y g

  rate-same : (x y : List ℕ) → Changed (leaves_unsent rate_too) x y → cell_of y FSCOD ≡ cell_of x FSCOD
  unfolding rate_too
  rate-same x y g = unsent-same rate_too x y FSCOD g (omega arith) (inl (omega arith, omega arith))

  pass-channels : fits_derived (leaves_unsent rate_too) Nfchans ≡ true
  unfolding passes rate_too
  pass-channels = refl

  channels-are : (st : State) → (derived Nfchans st).st.cells ≡ nfchans_by st.cells
  unfolding derived
  channels-are st = refl

  some-channel : (m : List ℕ) → Within m → 1 ≤ cell_of (nfchans_by m) NFCHANS
  unfolding nfchans_by
  some-channel m w =
      let v = get_or nfchans (cell_of m ACMOD) 0 in
      let e = cell_at m NFCHANS v w.sized (omega arith) (omega arith) in
      let a : 1 ≤ v = at_least 1 nfchans (cell_of m ACMOD) modes.0 (omega (arith, w.below ACMOD, modes.1, modes.2)) in
      let b : v ≤ 5 = nfchans-most (cell_of m ACMOD) in
      omega arith

  fscod-most : most FSCOD ≡ 3
  unfolding most most_in bounds
  fscod-most = refl

  pub bsi-walk : (st : State) (p : ℕ) (es : List Entry) → Within st.cells → Blank st.cells → Walks s l Unmet bsi st p es (AfterBsi st es)
  unfolding bsi mixdef3 mixing_metadata informational_metadata first_items after_items passes unset rate_too
  bsi-walk st p es w u =
      skip s l (leaves_unsent blank) 1 _ refl st p es w
      (λ a q fs g h. passed s l _ 5 _ a q fs g.within
      (λ d.
      let r : cell_of a.cells FSCOD < 3 = let z = is_false FSCOD 3 a.cells d in let y = g.within.below FSCOD in omega (arith, fscod-most) in
      skip s l (leaves_unsent rate_too) 3 _ refl a q fs g.within
      (λ b v gs i k.
      let m = b.cells in
      let x = (derived Nfchans b).st.cells in
      let c : Changed (leaves_unsent rate_too) m x = derived-changes (leaves_unsent rate_too) Nfchans b i.within pass-channels in
      let f : Changed (leaves_unsent blank) st.cells x = changed_then (leaves_unsent blank) st.cells a.cells x g (changed_then (leaves_unsent blank) a.cells m x (rate-blank a.cells m i) (rate-blank m x c)) in
      let o = blank-stays st.cells x f u in
      walks_next s l Unmet _ _ b v gs {M = λ y r hs. Within y.cells × Unset y.cells} (λ e. absurd (let z : ⊥ = omega arith in z))
      (walked-derive s l Unmet Nfchans b v gs
      (λ _. (
        c.within,
        record {
          none = o.none;
          coded = o.coded;
          rated = record { rate = rw (rate-same m x c, rate-same a.cells m i) r; some = rw (channels-are b) (some-channel m i.within) };
        },
      )))
      (λ y n hs t. whole s l (leaves_unsent unset) _ refl y n hs t.0 (λ z j is g h. record { within = g.within; unset-now = unset-stays y.cells z.cells g t.1 })))))
