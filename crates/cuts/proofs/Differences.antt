-- No difference goes below 0, wherever a reading comes: of cells that are put, of sub-bands, and of blocks. Assumes nothing.
use mathlib.Core.Path.{◌≡◌, refl, sym, subst}
use mathlib.Core.Bool.{Bool, true, false, cond, not, ◌&&◌, true≢false}
use mathlib.Core.List.{List, [], ◌∷◌}
use mathlib.Core.Logic.{inl, inr}
use Prim.Native.Nat.{ℕ, ◌+◌, ◌-◌, ◌*◌, ◌%◌, ◌≤◌, ◌<◌}
use native.Mathlib.Omega.{arith}
use lib.Dec.{eqb}
use borrow.Author.Tests.{leb-false, ltb-false}
use Rattle.reading.specs.Run.{Entry}
use Rattle.reading.proofs.Laws.{grows}
use Rattle.cells.specs.Cells.{State, Addr, cell_of, put_in, stored, place_of, held_of}
use Rattle.cells.specs.Names.{BLK, CPL_SUBND_END, CPLBEGF, MIXBITS, MIXEND, MIXSTART, MIXUSED, NCPLSUBND, NUMBLKS, NUMBLKSCOD, SPX_BEGIN, SPX_END, WIDTH}
use Rattle.sideinfo.specs.Frames.{numblks_by}
use Rattle.derivations.specs.Derivations.{Numblks, Blkstrtinfo, Nspxbnds, Ncplbnd, derived}
use Rattle.rows.specs.Syntax.{Value, Here, Let, Less, Plus, Minus, Item, Block, element, elements, span, mantissas, exponents, when, each, reject, reject_at, put, fill, derive, ◌⨾◌, ◌⧺◌, cell, meaning}
use Rattle.annex.specs.Syncinfo.{syncinfo, bsi_size}
use Rattle.annex.specs.Bsi.{mixdef3, mixing_metadata, informational_metadata, bsi}
use Rattle.annex.specs.Audfrm.{flags, coupling, strategies, hybrid, offsets, audfrm}
use Rattle.annex.specs.Audblk.{dynamics, spx_strategy, spx_coordinates, cpl_strategy, cpl_coordinates, rematrixing, bandwidth, exponents_of_block, parameters, deltas, skip_field, quantized, audblk}
use Rattle.annex.specs.Annex.{header, audblks, body}
use Rattle.bounds.specs.Along.{Point, Along}
use Rattle.bounds.specs.Bounds.{bounds, most_in, most, Within}
use Rattle.outcomes.specs.Outcomes.{farthest}
use Rattle.bounds.proofs.Cells.{cell_at, cell-beside}
use Rattle.bounds.proofs.Bounds.{numblks-most, may, Changed, puts, Known, Knows}
use Rattle.bounds.proofs.Bounded.{fitting, pages}
use Rattle.bounds.proofs.Derived.{fits_derived, derived-changes}
use Rattle.bounds.proofs.Fits.{fits, fits-block}
use Rattle.unmet.proofs.Leaves.{Ranges, outside, leaves, leaves-same, first_items, after_items, first-after, place-cell, held-cell}
use Rattle.bounds.proofs.Walking.{Walks, walks_next, walks-map, walks-append, Walked, walked-when, walked-reject, walked_put, walked-derive, walked-each}

pub record Taken (i : Item) (st : State) (p : ℕ) (es : List Entry) : Type 0 where
  pub less : (a b : Addr) (x y : ℕ) → i ≡ put a (Less x y b) → x ≤ y * held_of b st.cells
  pub minus : (a b : Addr) (k : ℕ) → i ≡ put a (Minus b k) → cell_of st.cells k ≤ held_of b st.cells
  pub starts : i ≡ derive Blkstrtinfo → 1 ≤ cell_of st.cells NUMBLKS
  pub spx-bands : i ≡ derive Nspxbnds → cell_of st.cells SPX_BEGIN < cell_of st.cells SPX_END
  pub cpl-bands : i ≡ derive Ncplbnd → cell_of st.cells CPLBEGF < cell_of st.cells CPL_SUBND_END

-- where the place is within a frame
abbrev pub Differences : Item → Point
Differences i st p es = p ≤ farthest → Taken i st p es

-- the items that take nothing off
sum : Value → Bool
sum Here = true
sum (Let x y a) = true
sum (Less x y a) = false
sum (Plus a k) = true
sum (Minus a k) = false

takes_nothing : Item → Bool
takes_nothing (element name i w a) = true
takes_nothing (elements name i w a k f n) = true
takes_nothing (span name k) = true
takes_nothing (mantissas name a) = true
takes_nothing (exponents x name i) = true
takes_nothing (when c b) = true
takes_nothing (each k i n b) = true
takes_nothing (reject c n) = true
takes_nothing (reject_at c n k) = true
takes_nothing (put a v) = sum v
takes_nothing (fill k n x y a) = true
takes_nothing (derive k) = not (eqb k Blkstrtinfo) && (not (eqb k Nspxbnds) && not (eqb k Ncplbnd))

nothing-taken : (i : Item) (st : State) (p : ℕ) (es : List Entry) → takes_nothing i ≡ true → Within st.cells → Differences i st p es
unfolding takes_nothing sum
nothing-taken i st p es h w _ = record {
  less = λ a b x y e. absurd (true≢false (sym (subst (λ j. takes_nothing j ≡ true) e h)));
  minus = λ a b k e. absurd (true≢false (sym (subst (λ j. takes_nothing j ≡ true) e h)));
  starts = λ e. absurd (true≢false (sym (subst (λ j. takes_nothing j ≡ true) e h)));
  spx-bands = λ e. absurd (true≢false (sym (subst (λ j. takes_nothing j ≡ true) e h)));
  cpl-bands = λ e. absurd (true≢false (sym (subst (λ j. takes_nothing j ≡ true) e h)));
}

-- one difference that is put, and one derivation
one-minus : (a b : Addr) (k : ℕ) (st : State) (p : ℕ) (es : List Entry) → (p ≤ farthest → cell_of st.cells k ≤ held_of b st.cells) → Differences (put a (Minus b k)) st p es
one-minus a b k st p es h q = record {
  less = λ c d x y e. absurd (let z : ◌≡◌ {A = ℕ} 0 1 = cc in let o : ⊥ = omega arith in o);
  minus = λ c d j e. (let z : b ≡ d = cc in let y : k ≡ j = cc in rw (sym z, sym y) (h q));
  starts = λ e. absurd (let z : ◌≡◌ {A = ℕ} 0 1 = cc in let o : ⊥ = omega arith in o);
  spx-bands = λ e. absurd (let z : ◌≡◌ {A = ℕ} 0 1 = cc in let o : ⊥ = omega arith in o);
  cpl-bands = λ e. absurd (let z : ◌≡◌ {A = ℕ} 0 1 = cc in let o : ⊥ = omega arith in o);
}

one-derived : (k : ℕ) (st : State) (p : ℕ) (es : List Entry) → (k ≡ Blkstrtinfo → 1 ≤ cell_of st.cells NUMBLKS) → (k ≡ Nspxbnds → cell_of st.cells SPX_BEGIN < cell_of st.cells SPX_END)
    → (k ≡ Ncplbnd → cell_of st.cells CPLBEGF < cell_of st.cells CPL_SUBND_END) → Differences (derive k) st p es
one-derived k st p es f g h q = record {
  less = λ c d x y e. absurd (let z : ◌≡◌ {A = ℕ} 0 1 = cc in let o : ⊥ = omega arith in o);
  minus = λ c d j e. absurd (let z : ◌≡◌ {A = ℕ} 0 1 = cc in let o : ⊥ = omega arith in o);
  starts = λ e. f (let z : k ≡ Blkstrtinfo = cc in z);
  spx-bands = λ e. g (let z : k ≡ Nspxbnds = cc in z);
  cpl-bands = λ e. h (let z : k ≡ Ncplbnd = cc in z);
}

-- what stays: the number of blocks, and some cells
record Kept (st : State) : Type 0 where
  within : Within st.cells
  blocks : 1 ≤ cell_of st.cells NUMBLKS

with_blocks : Ranges → Ranges
with_blocks rs = (NUMBLKS, NUMBLKS) ∷ rs

unfoldable quiet : Ranges → Block → Bool
unfolding fitting sum takes_nothing outside leaves with_blocks first_items
quiet rs b = fitting takes_nothing (leaves (with_blocks rs)) b

-- with what is known of sums of cells
unfoldable quiet_with : Ranges → Known → Block → Bool
unfolding quiet
quiet_with rs ks b = fits takes_nothing (leaves (with_blocks rs)) b ks

module _ (s : List ℕ) (l : ℕ) where
  record Onward (rs : Ranges) (st : State) (p : ℕ) (a : State) (q : ℕ) (fs : List Entry) : Type 0 where
    kept : Kept a
    changed : Changed (leaves (with_blocks rs)) st.cells a.cells
    ahead : p ≤ q

  quiet-with : (rs : Ranges) (ks : Known) (b : Block) → quiet_with rs ks b ≡ true → (st : State) (p : ℕ) (es : List Entry) → Kept st → Knows ks st.cells → Walks s l Differences b st p es (Onward rs st p)
  unfolding quiet_with with_blocks
  quiet-with rs ks b h st p es k f =
      let w = fits-block takes_nothing s l Differences nothing-taken (leaves (with_blocks rs)) b ks h st p es k.within f in
      record {
        along = w.along;
        ends = λ a e.
            let g = (w.ends a e).changed in
            record {
              kept = record { within = g.within; blocks = rw (leaves-same (with_blocks rs) st.cells a.cells NUMBLKS g (omega arith) (inl (omega arith, omega arith))) k.blocks };
              changed = g;
              ahead = grows (meaning b st) s p l;
            };
      }

  quiet_walk : (rs : Ranges) (b : Block) → quiet rs b ≡ true → (st : State) (p : ℕ) (es : List Entry) → Kept st → Walks s l Differences b st p es (Onward rs st p)
  unfolding quiet quiet_with
  quiet_walk rs b h st p es k = quiet-with rs [] b h st p es k tt

  Still : Point
  Still a q fs = Kept a

  -- a section without differences; n items of one, and the rest
  whole : (b : Block) → quiet [] b ≡ true → (st : State) (p : ℕ) (es : List Entry) → Kept st → Walks s l Differences b st p es Still
  unfolding Still
  whole b h st p es k = walks-map s l Differences (λ a q fs o. o.kept) (quiet_walk [] b h st p es k)

  skip : (rs : Ranges) (n : ℕ) (b : Block) → quiet rs (first_items n b) ≡ true → (st : State) (p : ℕ) (es : List Entry) → Kept st → {R : Point}
      → ((a : State) (q : ℕ) (fs : List Entry) → Onward rs st p a q fs → Walks s l Differences (after_items n b) a q fs R) → Walks s l Differences b st p es R
  skip rs n b h st p es k {R} f =
      subst (λ c. Walks s l Differences c st p es R) (first-after n b)
      (walks-append s l Differences (first_items n b) (after_items n b) st p es (quiet_walk rs (first_items n b) h st p es k) f)

  skip-with : (rs : Ranges) (ks : Known) (n : ℕ) (b : Block) → quiet_with rs ks (first_items n b) ≡ true → (st : State) (p : ℕ) (es : List Entry) → Kept st → Knows ks st.cells → {R : Point}
      → ((a : State) (q : ℕ) (fs : List Entry) → Onward rs st p a q fs → Walks s l Differences (after_items n b) a q fs R) → Walks s l Differences b st p es R
  skip-with rs ks n b h st p es k o {R} f =
      subst (λ c. Walks s l Differences c st p es R) (first-after n b)
      (walks-append s l Differences (first_items n b) (after_items n b) st p es (quiet-with rs ks (first_items n b) h st p es k o) f)

  -- an item under a condition, and the rest
  under : (i : Item) (c : Block) (st : State) (p : ℕ) (es : List Entry) → quiet [] c ≡ true → Differences i st p es → Walked s l Differences i st p es Still → Walks s l Differences (i ⨾ c) st p es Still
  unfolding Still
  under i c st p es h d w = walks_next s l Differences i c st p es d w (λ a q fs k. whole c h a q fs k)

  -- a value put into a cell; a derivation
  put_on : (k z v : ℕ) (st : State) → Kept st → may (leaves (with_blocks [])) k 0 0 z ≡ true → 0 < k → k < 1024 → v % 65536 ≤ z → Kept (stored st (place_of (cell k) st.cells) v)
  unfolding with_blocks
  put_on k z v st o h i j b =
      let m = st.cells in
      let e = place-cell k m in
      let g : Changed (leaves (with_blocks [])) m (put_in m (place_of (cell k) m) v) = puts (leaves (with_blocks [])) m (place_of (cell k) m) v k 0 0 z o.within h (omega arith) (omega arith) (omega arith) b in
      record { within = g.within; blocks = rw (leaves-same (with_blocks []) m (put_in m (place_of (cell k) m) v) NUMBLKS g (omega arith) (inl (omega arith, omega arith))) o.blocks }

  put-cell : (k v : ℕ) (st : State) → Kept st → 0 < k → k < 1024 → cell_of (put_in st.cells (place_of (cell k) st.cells) v) k ≡ v % 65536
  put-cell k v st o i j = rw (place-cell k st.cells) (cell_at st.cells k v o.within.sized i j)

  put-beside : (k v j : ℕ) (st : State) → k < 1024 → j < 1024 → ¬ (j ≡ k) → cell_of (put_in st.cells (place_of (cell k) st.cells) v) j ≡ cell_of st.cells j
  put-beside k v j st h i n = rw (place-cell k st.cells) (cell-beside st.cells k v j i h n)

  derive-on : (k : ℕ) (st : State) → Kept st → fits_derived (leaves (with_blocks [])) k ≡ true → Kept (derived k st).st
  unfolding with_blocks
  derive-on k st o h =
      let g = derived-changes (leaves (with_blocks [])) k st o.within h in
      record { within = g.within; blocks = rw (leaves-same (with_blocks []) st.cells (derived k st).st.cells NUMBLKS g (omega arith) (inl (omega arith, omega arith))) o.blocks }

  cells-most : (most MIXBITS ≡ 264) × (most CPL_SUBND_END ≡ 18)
  unfolding most most_in bounds
  cells-most = (refl, refl)

  may-cells : (may (leaves (with_blocks [])) MIXSTART 0 0 65535 ≡ true) × (may (leaves (with_blocks [])) MIXEND 0 0 65535 ≡ true) × (may (leaves (with_blocks [])) MIXUSED 0 0 65535 ≡ true)
      × (may (leaves (with_blocks [])) WIDTH 0 0 264 ≡ true) × (may (leaves (with_blocks [])) NCPLSUBND 0 0 18 ≡ true)
  unfolding quiet with_blocks
  may-cells = (refl, refl, refl, refl, refl)

  may-derived : (fits_derived (leaves (with_blocks [])) Blkstrtinfo ≡ true) × (fits_derived (leaves (with_blocks [])) Nspxbnds ≡ true) × (fits_derived (leaves (with_blocks [])) Ncplbnd ≡ true)
  unfolding quiet with_blocks
  may-derived = (refl, refl, refl)

  -- the bits of mixing metadata: where they start is not past the place; where they end is the place
  record Begins (a : State) (q : ℕ) (fs : List Entry) : Type 0 where
    kept : Kept a
    begins : cell_of a.cells MIXSTART ≤ q

  record Ends (a : State) (q : ℕ) (fs : List Entry) : Type 0 where
    kept : Kept a
    begins : cell_of a.cells MIXSTART ≤ q
    ends : cell_of a.cells MIXEND ≡ q % 65536

  record Fewer (j k : ℕ) (a : State) (q : ℕ) (fs : List Entry) : Type 0 where
    kept : Kept a
    fewer : cell_of a.cells j ≤ cell_of a.cells k

  mix-walk : (st : State) (p : ℕ) (es : List Entry) → Kept st → Walks s l Differences mixdef3 st p es Still
  unfolding mixdef3 first_items after_items quiet with_blocks Still
  mix-walk st p es k =
      skip [] 1 _ refl st p es k
      (λ a q fs o. walks_next s l Differences _ _ a q fs {M = Begins} (nothing-taken _ a q fs refl o.kept.within)
      (walked_put s l Differences _ _ a q fs (record { kept = put_on MIXSTART 65535 q a o.kept may-cells.0 (omega arith) (omega arith) (omega arith); begins = let e = put-cell MIXSTART q a o.kept (omega arith) (omega arith) in omega arith }))
      (λ b r gs c. skip ((MIXSTART, MIXSTART) ∷ []) 4 _ refl b r gs c.kept
      (λ d u hs o. walks_next s l Differences _ _ d u hs {M = Ends} (nothing-taken _ d u hs refl o.kept.within)
      (walked_put s l Differences _ _ d u hs
      (record {
        kept = put_on MIXEND 65535 u d o.kept may-cells.1 (omega arith) (omega arith) (omega arith);
        begins =
            let e = put-beside MIXEND u MIXSTART d (omega arith) (omega arith) (λ z. omega arith) in
            let f = leaves-same (with_blocks ((MIXSTART, MIXSTART) ∷ [])) b.cells d.cells MIXSTART o.changed (omega arith) (inr (inl (omega arith, omega arith))) in
            omega (arith, c.begins, o.ahead);
        ends = put-cell MIXEND u d o.kept (omega arith) (omega arith);
      }))
      (λ e v is f. walks_next s l Differences _ _ e v is {M = Still}
      (one-minus _ (cell MIXEND) MIXSTART e v is (λ h. let x = held-cell MIXEND e.cells in omega (arith, f.begins, f.ends)))
      (walked_put s l Differences _ _ e v is (put_on MIXUSED 65535 _ e f.kept may-cells.2 (omega arith) (omega arith) (omega arith)))
      (λ g w js k. skip [] 1 _ refl g w js k
      (λ x y ks o. walks_next s l Differences _ _ x y ks {M = Fewer MIXUSED MIXBITS} (nothing-taken _ x y ks refl o.kept.within)
      (walked-reject s l Differences _ 20 x y ks
      (λ h. record {
        kept = o.kept;
        fewer = let n = ltb-false (held_of (cell MIXBITS) x.cells) (held_of (cell MIXUSED) x.cells) h in
            let i = held-cell MIXBITS x.cells in
            let j = held-cell MIXUSED x.cells in
            omega arith;
      }))
      (λ z t ls f. under _ _ z t ls refl (one-minus _ (cell MIXBITS) MIXUSED z t ls (λ _. let i = held-cell MIXBITS z.cells in omega (arith, f.fewer)))
      (walked_put s l Differences _ _ z t ls
      (put_on WIDTH 264 _ z f.kept may-cells.3 (omega arith) (omega arith)
      (let i = held-cell MIXBITS z.cells in let b = f.kept.within.below MIXBITS in let n : (held_of (cell MIXBITS) z.cells - cell_of z.cells MIXUSED) % 65536 ≤ 264 = omega (arith, cells-most.0) in n))))))))))

  metadata-walk : (st : State) (p : ℕ) (es : List Entry) → Kept st → Walks s l Differences mixing_metadata st p es Still
  unfolding mixing_metadata first_items after_items quiet with_blocks Still
  metadata-walk st p es k =
      skip [] 4 _ refl st p es k
      (λ a q fs o. under _ _ a q fs refl (nothing-taken _ a q fs refl o.kept.within)
      (walked-when s l Differences _ _ a q fs
      (λ _. skip [] 8 _ refl a q fs o.kept
      (λ b r gs o. under _ _ b r gs refl (nothing-taken _ b r gs refl o.kept.within) (walked-when s l Differences _ _ b r gs (λ _. mix-walk b r gs o.kept) (λ _. o.kept))))
      (λ _. o.kept)))

  -- one cell below another, which a rejection leaves
  record Below (j k : ℕ) (a : State) (q : ℕ) (fs : List Entry) : Type 0 where
    kept : Kept a
    less : cell_of a.cells j < cell_of a.cells k

  record Counted (a : State) (q : ℕ) (fs : List Entry) : Type 0 where
    less : Below CPLBEGF CPL_SUBND_END a q fs
    sums : cell_of a.cells NCPLSUBND + cell_of a.cells CPLBEGF ≤ 18

  below : (j k : ℕ) (a : State) (q : ℕ) (fs : List Entry) → Kept a → held_of (cell j) a.cells < held_of (cell k) a.cells → Below j k a q fs
  below j k a q fs o h = record { kept = o; less = let x = held-cell j a.cells in let y = held-cell k a.cells in omega arith }

  -- bsi: the number of blocks first
  any : ℕ → ℕ → ℕ → Bool
  any j a z = true

  numblks-are : (st : State) → (derived Numblks st).st.cells ≡ numblks_by st.cells
  unfolding derived
  numblks-are st = refl

  code-most : most NUMBLKSCOD ≡ 3
  unfolding most most_in bounds
  code-most = refl

  some-blocks : (m : List ℕ) → Within m → 1 ≤ cell_of (numblks_by m) NUMBLKS
  unfolding numblks_by
  some-blocks m w = go (eqb (cell_of m NUMBLKSCOD) 3)
    where
      go : (c : Bool) → 1 ≤ cell_of (put_in m NUMBLKS (cond c 6 (cell_of m NUMBLKSCOD + 1))) NUMBLKS
      go true = let e = cell_at m NUMBLKS 6 w.sized (omega arith) (omega arith) in omega arith
      go false = let e = cell_at m NUMBLKS (cell_of m NUMBLKSCOD + 1) w.sized (omega arith) (omega arith) in let b = w.below NUMBLKSCOD in omega (arith, code-most)

  may-numblks : fits_derived any Numblks ≡ true
  unfolding quiet any
  may-numblks = refl

  begins-quiet : fitting takes_nothing any (first_items 3 bsi) ≡ true
  unfolding bsi quiet any
  begins-quiet = refl

  bsi-rest : (a : State) (q : ℕ) (fs : List Entry) → Within a.cells → Walks s l Differences (after_items 3 bsi) a q fs Still
  unfolding bsi informational_metadata first_items after_items quiet with_blocks Still
  bsi-rest a q fs w =
      walks_next s l Differences _ _ a q fs {M = Still} (nothing-taken _ a q fs refl w)
      (walked-derive s l Differences Numblks a q fs (λ _. record { within = (derived-changes any Numblks a w may-numblks).within; blocks = rw (numblks-are a) (some-blocks a.cells w) }))
      (λ b r gs k. skip [] 10 _ refl b r gs k
      (λ c u hs o. under _ _ c u hs refl (nothing-taken _ c u hs refl o.kept.within) (walked-when s l Differences _ _ c u hs (λ _. metadata-walk c u hs o.kept) (λ _. o.kept))))

  bsi-walk : (st : State) (p : ℕ) (es : List Entry) → Within st.cells → Walks s l Differences bsi st p es Still
  unfolding fitting Still
  bsi-walk st p es w =
      subst (λ c. Walks s l Differences c st p es (λ a q fs. Kept a)) (first-after 3 bsi)
      (walks-append s l Differences (first_items 3 bsi) (after_items 3 bsi) st p es (fits-block takes_nothing s l Differences nothing-taken any (first_items 3 bsi) [] begins-quiet st p es w tt)
      (λ a q fs r. bsi-rest a q fs r.changed.within))

  spx-walk : (st : State) (p : ℕ) (es : List Entry) → Kept st → Walks s l Differences spx_strategy st p es Still
  unfolding spx_strategy first_items after_items quiet with_blocks Still
  spx-walk st p es k =
      skip [] 2 _ refl st p es k
      (λ a q fs o. under _ _ a q fs refl (nothing-taken _ a q fs refl o.kept.within)
      (walked-when s l Differences _ _ a q fs
      (λ _. skip [] 1 _ refl a q fs o.kept
      (λ a q fs o. under _ _ a q fs refl (nothing-taken _ a q fs refl o.kept.within)
      (walked-when s l Differences _ _ a q fs
      (λ _. skip [] 6 _ refl a q fs o.kept
      (λ b r gs o. walks_next s l Differences _ _ b r gs {M = Below SPX_BEGIN SPX_END} (nothing-taken _ b r gs refl o.kept.within)
      (walked-reject s l Differences _ 21 b r gs (λ h. below SPX_BEGIN SPX_END b r gs o.kept (leb-false (held_of (cell SPX_END) b.cells) (held_of (cell SPX_BEGIN) b.cells) h)))
      (λ c u hs d. skip ((SPX_BEGIN, SPX_BEGIN) ∷ (SPX_END, SPX_END) ∷ []) 2 _ refl c u hs d.kept
      (λ e v is o.
      let i = leaves-same (with_blocks ((SPX_BEGIN, SPX_BEGIN) ∷ (SPX_END, SPX_END) ∷ [])) c.cells e.cells SPX_BEGIN o.changed (omega arith) (inr (inl (omega arith, omega arith))) in
      let j = leaves-same (with_blocks ((SPX_BEGIN, SPX_BEGIN) ∷ (SPX_END, SPX_END) ∷ [])) c.cells e.cells SPX_END o.changed (omega arith) (inr (inr (inl (omega arith, omega arith)))) in
      under _ _ e v is refl (one-derived Nspxbnds e v is (λ z. absurd (let y : ⊥ = omega arith in y)) (λ _. omega (arith, d.less)) (λ z. absurd (let y : ⊥ = omega arith in y)))
      (walked-derive s l Differences Nspxbnds e v is (λ _. derive-on Nspxbnds e o.kept may-derived.1))))))
      (λ _. o.kept))))
      (λ _. o.kept)))

  cpl-walk : (st : State) (p : ℕ) (es : List Entry) → Kept st → Walks s l Differences cpl_strategy st p es Still
  unfolding cpl_strategy first_items after_items quiet quiet_with with_blocks Still
  cpl-walk st p es k =
      skip [] 1 _ refl st p es k
      (λ a q fs o. under _ _ a q fs refl (nothing-taken _ a q fs refl o.kept.within)
      (walked-when s l Differences _ _ a q fs
      (λ _. under _ _ a q fs refl (nothing-taken _ a q fs refl o.kept.within)
      (walked-when s l Differences _ _ a q fs
      (λ _. skip [] 7 _ refl a q fs o.kept
      (λ b r gs o. walks_next s l Differences _ _ b r gs {M = Below CPLBEGF CPL_SUBND_END} (nothing-taken _ b r gs refl o.kept.within)
      (walked-reject s l Differences _ 22 b r gs (λ h. below CPLBEGF CPL_SUBND_END b r gs o.kept (leb-false (held_of (cell CPL_SUBND_END) b.cells) (held_of (cell CPLBEGF) b.cells) h)))
      (λ c u hs d.
      let x = held-cell CPL_SUBND_END c.cells in
      let y = d.kept.within.below CPL_SUBND_END in
      walks_next s l Differences _ _ c u hs {M = Counted} (one-minus _ (cell CPL_SUBND_END) CPLBEGF c u hs (λ _. omega (arith, d.less)))
      (walked_put s l Differences _ _ c u hs
      (let v = held_of (cell CPL_SUBND_END) c.cells - cell_of c.cells CPLBEGF in
      let i = put-beside NCPLSUBND v CPLBEGF c (omega arith) (omega arith) (λ z. omega arith) in
      let j = put-beside NCPLSUBND v CPL_SUBND_END c (omega arith) (omega arith) (λ z. omega arith) in
      let k = put-cell NCPLSUBND v c d.kept (omega arith) (omega arith) in
      record {
        less = record {
          kept = put_on NCPLSUBND 18 _ c d.kept may-cells.4 (omega arith) (omega arith)
              (let n : (held_of (cell CPL_SUBND_END) c.cells - cell_of c.cells CPLBEGF) % 65536 ≤ 18 = omega (arith, cells-most.1) in n);
          less = omega (arith, d.less);
        };
        sums = omega (arith, d.less, cells-most.1);
      }))
      (λ c u hs d. skip-with ((CPLBEGF, CPLBEGF) ∷ (CPL_SUBND_END, CPL_SUBND_END) ∷ []) ((NCPLSUBND, CPLBEGF, 18) ∷ []) 2 _ refl c u hs d.less.kept (d.sums, tt)
      (λ e v is o.
      let i = leaves-same (with_blocks ((CPLBEGF, CPLBEGF) ∷ (CPL_SUBND_END, CPL_SUBND_END) ∷ [])) c.cells e.cells CPLBEGF o.changed (omega arith) (inr (inl (omega arith, omega arith))) in
      let j = leaves-same (with_blocks ((CPLBEGF, CPLBEGF) ∷ (CPL_SUBND_END, CPL_SUBND_END) ∷ [])) c.cells e.cells CPL_SUBND_END o.changed (omega arith) (inr (inr (inl (omega arith, omega arith)))) in
      under _ _ e v is refl (one-derived Ncplbnd e v is (λ z. absurd (let y : ⊥ = omega arith in y)) (λ z. absurd (let y : ⊥ = omega arith in y)) (λ _. omega (arith, d.less.less)))
      (walked-derive s l Differences Ncplbnd e v is (λ _. derive-on Ncplbnd e o.kept may-derived.2)))))))
      (λ _. o.kept)))
      (λ _. o.kept)))

  offsets-walk : (st : State) (p : ℕ) (es : List Entry) → Kept st → Walks s l Differences offsets st p es Still
  unfolding offsets first_items after_items quiet with_blocks Still
  offsets-walk st p es k =
      skip [] 3 _ refl st p es k
      (λ a q fs o. under _ _ a q fs refl (nothing-taken _ a q fs refl o.kept.within)
      (walked-when s l Differences _ _ a q fs
      (λ _. skip [] 1 _ refl a q fs o.kept
      (λ a q fs o. under _ _ a q fs refl (nothing-taken _ a q fs refl o.kept.within)
      (walked-when s l Differences _ _ a q fs
      (λ _. under _ _ a q fs refl (one-derived Blkstrtinfo a q fs (λ _. o.kept.blocks) (λ z. absurd (let y : ⊥ = omega arith in y)) (λ z. absurd (let y : ⊥ = omega arith in y)))
      (walked-derive s l Differences Blkstrtinfo a q fs (λ _. derive-on Blkstrtinfo a o.kept may-derived.0)))
      (λ _. o.kept))))
      (λ _. o.kept)))

  -- the blocks, and the body
  sections : (quiet [] dynamics ≡ true) × (quiet [] spx_coordinates ≡ true) × (quiet [] cpl_coordinates ≡ true) × (quiet [] rematrixing ≡ true) × (quiet [] bandwidth ≡ true) × (quiet [] exponents_of_block ≡ true)
      × (quiet [] parameters ≡ true) × (quiet [] deltas ≡ true) × (quiet [] skip_field ≡ true) × (quiet [] quantized ≡ true) × (quiet [] flags ≡ true) × (quiet [] coupling ≡ true) × (quiet [] strategies ≡ true) × (quiet [] hybrid ≡ true)
  unfolding quiet with_blocks pages
  sections = (refl, refl, refl, refl, refl, refl, refl, refl, refl, refl, refl, refl, refl, refl)

  on : (x y : Block) (st : State) (p : ℕ) (es : List Entry) → quiet [] x ≡ true → Kept st → ((z : State) (q : ℕ) (fs : List Entry) → Kept z → Walks s l Differences y z q fs Still) → Walks s l Differences (x ⧺ y) st p es Still
  unfolding Still
  on x y st p es h k f = walks-append s l Differences x y st p es (whole x h st p es k) f

  then : (x y : Block) (st : State) (p : ℕ) (es : List Entry) → Walks s l Differences x st p es Still → ((z : State) (q : ℕ) (fs : List Entry) → Kept z → Walks s l Differences y z q fs Still) → Walks s l Differences (x ⧺ y) st p es Still
  unfolding Still
  then x y st p es w f = walks-append s l Differences x y st p es w f

  block-walk : (st : State) (p : ℕ) (es : List Entry) → Kept st → Walks s l Differences audblk st p es Still
  unfolding audblk
  block-walk st p es k =
      on _ _ st p es sections.0 k
      (λ st p es k. then _ _ st p es (spx-walk st p es k)
      (λ st p es k. on _ _ st p es sections.1 k
      (λ st p es k. then _ _ st p es (cpl-walk st p es k)
      (λ st p es k. on _ _ st p es sections.2 k
      (λ st p es k. on _ _ st p es sections.3 k
      (λ st p es k. on _ _ st p es sections.4 k
      (λ st p es k. on _ _ st p es sections.5 k
      (λ st p es k. on _ _ st p es sections.6 k
      (λ st p es k. on _ _ st p es sections.7 k
      (λ st p es k. on _ _ st p es sections.8 k
      (λ st p es k. whole quantized sections.9 st p es k)))))))))))

  may-blk : may (leaves (with_blocks [])) BLK 0 0 5 ≡ true
  unfolding quiet with_blocks
  may-blk = refl

  blocks-walk : (st : State) (p : ℕ) (es : List Entry) → Kept st → Walks s l Differences audblks st p es Still
  unfolding audblks quiet with_blocks Still
  blocks-walk st p es k =
      under _ _ st p es refl (nothing-taken _ st p es refl k.within)
      (walked-each s l Differences BLK _ _ _ st p es (λ j. Still) k
      (λ j a q fs i o.
      let n : j < 6 = let e = held-cell NUMBLKS st.cells in omega (arith, k.within.below NUMBLKS, numblks-most) in
      let g : Changed (leaves (with_blocks [])) a.cells (put_in a.cells BLK j) = puts (leaves (with_blocks [])) a.cells BLK j BLK 0 0 5 o.within may-blk (omega arith) (omega arith) (omega arith) (omega arith) in
      block-walk (stored a BLK j) q fs (record { within = g.within; blocks = rw (leaves-same (with_blocks []) a.cells (put_in a.cells BLK j) NUMBLKS g (omega arith) (inl (omega arith, omega arith))) o.blocks }))
      (λ j a q fs i o. o))

  frame-walk : (st : State) (p : ℕ) (es : List Entry) → Kept st → Walks s l Differences audfrm st p es Still
  unfolding audfrm
  frame-walk st p es k =
      on _ _ st p es sections.10 k
      (λ st p es k. on _ _ st p es sections.11 k
      (λ st p es k. on _ _ st p es sections.12 k
      (λ st p es k. on _ _ st p es sections.13 k (λ st p es k. offsets-walk st p es k))))

  pub body-differs : (st : State) (p : ℕ) (es : List Entry) → Within st.cells → Along s l Differences body st p es
  unfolding body
  body-differs st p es w = (then _ _ st p es (bsi-walk st p es w) (λ st p es k. then _ _ st p es (frame-walk st p es k) (λ st p es k. blocks-walk st p es k))).along

  -- the header takes nothing off
  header-quiet : fitting takes_nothing any header ≡ true
  unfolding header syncinfo bsi_size ◌⧺◌ quiet any
  header-quiet = refl

  pub header-differs : (st : State) (p : ℕ) (es : List Entry) → Within st.cells → Along s l Differences header st p es
  unfolding fitting
  header-differs st p es w = (fits-block takes_nothing s l Differences nothing-taken any header [] header-quiet st p es w tt).along
