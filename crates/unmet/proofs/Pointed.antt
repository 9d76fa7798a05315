-- No pointer that is asked for is above 15, or 19 in a slot of the adaptive hybrid transform, wherever a reading comes to mantissas. Assumes nothing.
use mathlib.Core.Path.{◌≡◌, refl, ap, sym, ◌∙◌, subst}
use mathlib.Core.Bool.{Bool, true, false, cond, ◌&&◌, true≢false}
use mathlib.Core.List.{List, [], ◌∷◌}
use mathlib.Core.Logic.{by_cases}
use Prim.Native.Nat.{ℕ, zero, suc, ◌+◌, ◌%◌, ◌≤◌, ◌<◌}
use native.Mathlib.Omega.{arith}
use native.Mathlib.Decide.{ℕ_discrete}
use lib.Dec.{eqb}
use lib.ListN.{length, get_or, replicate, length-replicate}
use Rattle.reading.specs.Run.{Entry}
use Rattle.alloc.specs.Allocation.{allocation}
use Rattle.alloc.specs.declared.Params.{Params}
use Rattle.alloc.specs.declared.Pointers.TheVariants.{Bap, Hebap}
use Rattle.alloc.proofs.Lists.{zeros}
use Rattle.slots.specs.Slots.{requested_of, pointer}
use Rattle.slots.specs.declared.Shape.{Shape}
use Rattle.allocation.specs.State.{number_in, Allocated, allocated, silent_of, channel_of, leak_for, kind_of, segments_of, exps_in, pointed_of, pointers_of, point_slot, point_slots, params_for, by_sent, allocated_of}
use Rattle.allocation.specs.declared.AllocState.{AllocState}
use Rattle.allocation.specs.declared.Codes.{Codes}
use Rattle.std.specs.Prelude.{Option, Some, None, Ok, Err}
use Rattle.refusals.specs.declared.Refusal.TheVariants.{ParametersNeverSent}
use Rattle.allocation.specs.declared.Segments.{Segments}
use Rattle.allocation.proofs.StateLaws.{pointed-length, pointed-at, pointed-apart}
use Rattle.allocation.proofs.Unmet.{bap-within, hebap-within}
use Rattle.cells.specs.Cells.{State, cell_of, put_in, stored, place_of}
use Rattle.cells.specs.Names.{AHT_READ, AHTINU, BLK, CHINCPL, CPLEND, CPLINU, CPLSTRT, ENDMANT, FSCOD, LFEON, MANTISSA_STARTS, NFCHANS, NUMBLKS, TAGS}
use Rattle.derivations.specs.Acted.{Acted, acted}
use Rattle.sideinfo.specs.Steps.{tab_of}
use Rattle.derivations.specs.Allocating.{alloc_state_of, segments_in, allocate_in}
use Rattle.sideinfo.specs.Blocks.{flag_of, unknown_here, endmants_by}
use Rattle.sideinfo.specs.Shapes.{flags_of, values_of, shape_of}
use Rattle.derivations.specs.Derivations.{Numblks, Nfchans, Fresh, Ncplblks, CplStrategies, ChStrategies, Regions, Blkstrtinfo, SpxRange, Nspxbnds, CplRange, Ncplbnd, Nrematbd, Endmants, Defaults, Allocation, AhtRead, puts as putting, endmants_in, derived}
use Rattle.rows.specs.Syntax.{Item, Block, element, elements, span, mantissas, exponents, when, each, reject, reject_at, put, fill, derive, end, ◌⨾◌, ◌⧺◌, cell, at}
use Rattle.annex.specs.Bsi.{bsi}
use Rattle.annex.specs.Audfrm.{audfrm}
use Rattle.annex.specs.Audblk.{dynamics, spx_strategy, spx_coordinates, cpl_strategy, cpl_coordinates, rematrixing, bandwidth, exponents_of_block, parameters, deltas, skip_field, quantized, audblk}
use Rattle.annex.specs.Annex.{header, audblks, body}
use Rattle.annex.specs.Frame.{start}
use Rattle.annex.proofs.Header.{headed-gives}
use Rattle.bounds.specs.Along.{Point}
use Rattle.bounds.specs.Bounds.{tags_most, bounds, most_in, most, Within}
use Rattle.unmet.specs.Unmet.{most_pointer, Pointers, Pointed, AllPointed}
use Rattle.bounds.proofs.Cells.{cell-beside}
use Rattle.bounds.proofs.Bounds.{both, numblks-most, may, Changed, puts}
use Rattle.bounds.proofs.Bounded.{fitting, pages, header-within}
use Rattle.bounds.proofs.Fits.{told-changes, fits-block}
use Rattle.unmet.proofs.Leaves.{place-cell, place_at, held-cell}
use Rattle.bounds.proofs.Walking.{Walks, Walked, walks-end, walks_next, walks-append, walked-element, walked-elements, walked-span, walked-mantissas, walked-exponents, walked-when, walked-reject, walked-reject-at, walked_put, walked-fill, walked-derive, walked-each}

-- the pointers of a slot
module _ (st : AllocState) (p : Params) (shape : Shape) (d : Segments) (exps : List ℕ) where
  pointers-sized : (slot : ℕ) → length (pointers_of st p shape d exps slot) ≡ 256
  unfolding pointers_of allocation
  pointers-sized slot = go (silent_of st shape)
    where
      x : List ℕ
      x = allocation (kind_of shape slot) (exps_in exps slot) (channel_of st shape slot) p (leak_for st slot) (segments_of d slot)

      go : (c : Bool) → length (cond c (replicate 256 0) x) ≡ 256
      go true = length-replicate {A = ℕ} 256 0
      go false = refl

  pointers-within : (slot bin : ℕ) → get_or (pointers_of st p shape d exps slot) bin 0 ≤ most_pointer (get_or shape.ahtinu slot false)
  unfolding pointers_of kind_of
  pointers-within slot bin = go (silent_of st shape) (get_or shape.ahtinu slot false)
    where
      go : (c a : Bool) → get_or (cond c (replicate 256 0) (allocation (cond a Hebap Bap) (exps_in exps slot) (channel_of st shape slot) p (leak_for st slot) (segments_of d slot))) bin 0 ≤ most_pointer a
      go true a = let z = zeros 256 bin in omega arith
      go false true = omega (arith, hebap-within (exps_in exps slot) (channel_of st shape slot) p (leak_for st slot) (segments_of d slot) bin)
      go false false = omega (arith, bap-within (exps_in exps slot) (channel_of st shape slot) p (leak_for st slot) (segments_of d slot) bin)

  -- those of the slots below n that are asked for
  Below : ℕ → List ℕ → Type 0
  Below n baps = (slot bin : ℕ) → slot < n → bin < 256 → requested_of shape slot ≡ true → pointer baps slot bin ≤ most_pointer (get_or shape.ahtinu slot false)

  record Put (n : ℕ) (baps : List ℕ) : Type 0 where
    sized : length baps ≡ 1792
    below : Below n baps

  put-slot : (slot : ℕ) (baps : List ℕ) → slot < 7 → Put slot baps → Put (suc slot) (point_slot st p shape d exps baps slot)
  unfolding point_slot pointer Below
  put-slot slot baps h b = go (requested_of shape slot) refl
    where
      ps : List ℕ
      ps = pointers_of st p shape d exps slot

      go : (c : Bool) → requested_of shape slot ≡ c → Put (suc slot) (cond c (pointed_of baps slot ps) baps)
      go true e = record {
        sized = pointed-length baps b.sized slot h ps (pointers-sized slot);
        below = λ t k i j r. by_cases (ℕ_discrete t slot)
            (λ z. rw z (rw (pointed-at baps b.sized slot h ps (pointers-sized slot) k j) (pointers-within slot k)))
            (λ z. rw (pointed-apart baps b.sized slot h ps (pointers-sized slot) t (omega arith) z k j) (b.below t k (omega arith) j r));
      }
      go false e = record {
        sized = b.sized;
        below = λ t k i j r. by_cases (ℕ_discrete t slot)
            (λ z. absurd (true≢false (sym r ∙ ap (requested_of shape) z ∙ e)))
            (λ z. b.below t k (omega arith) j r);
      }

  put-slots : (n slot : ℕ) (baps : List ℕ) → slot + n ≡ 7 → Put slot baps → Put 7 (point_slots st p shape d exps baps slot n)
  unfolding point_slots
  put-slots zero slot baps h b = let z : slot ≡ 7 = omega arith in subst (λ k. Put k baps) z b
  put-slots (suc n) slot baps h b = put-slots n (suc slot) (point_slot st p shape d exps baps slot) (omega arith) (put-slot slot baps (omega arith) b)

-- seven times 256 pointers, wherever a reading comes
abbrev Sized : State → Type 0
Sized st = length st.bins.baps ≡ 1792

-- an allocation keeps them, and is refused, or its pointers are in range
record AllocatedWell (st : State) (o : Allocated) : Type 0 where
  sized : length o.baps ≡ 1792
  pointers : eqb (number_in o.ended) 0 ≡ true → Pointers st.cells o.baps

allocates : (st : State) → Sized st
    → AllocatedWell st (allocated_of (alloc_state_of st.cells) (cell_of st.cells FSCOD % 3) (shape_of st.cells) (segments_in st.cells) st.bins.exps st.bins.baps)
unfolding allocated_of Below
allocates st h = go (alloc_state_of st.cells).parameters
  where
    a : AllocState
    a = alloc_state_of st.cells

    go : (q : Option Codes)
        → AllocatedWell st (by_sent q (allocated (Err ParametersNeverSent) st.bins.baps) (λ p. allocated (Ok tt) (point_slots a (params_for p (cell_of st.cells FSCOD % 3)) (shape_of st.cells) (segments_in st.cells) st.bins.exps st.bins.baps 0 7)))
    go None = record { sized = h; pointers = λ e. absurd (true≢false (sym e)) }
    go (Some c) =
        let r = put-slots a (params_for c (cell_of st.cells FSCOD % 3)) (shape_of st.cells) (segments_in st.cells) st.bins.exps 7 0 st.bins.baps refl
        (record { sized = h; below = λ t k i. absurd (let z : ⊥ = omega arith in z) }) in
        record { sized = r.sized; pointers = λ _. r.below }

-- what the other derivations do to the cells leaves the pointers
derived-sized : (k : ℕ) (st : State) → Sized st → Sized (derived k st).st
unfolding derived allocate_in endmants_in
derived-sized k st h =
    pick (eqb k Numblks) _ _ h
    (pick (eqb k Nfchans) _ _ h
    (pick (eqb k Fresh) _ _ h
    (pick (eqb k Ncplblks) _ _ h
    (pick (eqb k CplStrategies) _ _ h
    (pick (eqb k ChStrategies) _ _ h
    (pick (eqb k Regions) _ _ h
    (pick (eqb k Blkstrtinfo) _ _ h
    (pick (eqb k SpxRange) _ _ h
    (pick (eqb k Nspxbnds) _ _ h
    (pick (eqb k CplRange) _ _ h
    (pick (eqb k Ncplbnd) _ _ h
    (pick (eqb k Nrematbd) _ _ h
    (pick (eqb k Endmants) _ _ (pick (unknown_here st.cells) (acted 23 st) (putting endmants_by st) h h)
    (pick (eqb k Defaults) _ _ h
    (pick (eqb k Allocation) _ _ (allocates st h).sized
    (pick (eqb k AhtRead) _ _ h h))))))))))))))))
  where
    pick : (c : Bool) (a b : Acted) → Sized a.st → Sized b.st → Sized (cond c a b).st
    pick true a b x y = x
    pick false a b x y = y

abbrev Anywhere : Item → Point
Anywhere i st p es = Unit {0}

module _ (s : List ℕ) (l : ℕ) where
  abbrev Held : Point
  Held a q fs = Sized a

  mutual
    sized-item : (i : Item) (st : State) (p : ℕ) (es : List Entry) → Sized st → Walked s l Anywhere i st p es Held
    sized-item (element name i w a) st p es h = walked-element s l Anywhere name i w a st p es (λ v fs _ _ _. h)
    sized-item (elements name i w a k f n) st p es h = walked-elements s l Anywhere name i w a k f n st p es (λ j. Held) h (λ j x q fs _ g. (tt, λ v gs _ _. g)) (λ j x q fs _ g. g)
    sized-item (span name k) st p es h = walked-span s l Anywhere name k st p es (λ q fs _. h)
    sized-item (mantissas name a) st p es h = walked-mantissas s l Anywhere name a st p es (λ vs q fs _ _ _ _ _ _ _. h)
    sized-item (exponents x name i) st p es h = walked-exponents s l Anywhere x name i st p es (λ e q fs _. h)
    sized-item (when c b) st p es h = walked-when s l Anywhere c b st p es (λ _. sized-block b st p es h) (λ _. h)
    sized-item (each k i n b) st p es h = walked-each s l Anywhere k i n b st p es (λ j. Held) h (λ j a q fs _ g. sized-block b (stored a k j) q fs g) (λ j a q fs _ g. g)
    sized-item (reject c n) st p es h = walked-reject s l Anywhere c n st p es (λ _. h)
    sized-item (reject_at c n k) st p es h = walked-reject-at s l Anywhere c n k st p es (λ _. h)
    sized-item (put a v) st p es h = walked_put s l Anywhere a v st p es h
    sized-item (fill k n x y a) st p es h = walked-fill s l Anywhere k n x y a st p es h
    sized-item (derive k) st p es h = walked-derive s l Anywhere k st p es (λ _. derived-sized k st h)

    sized-block : (b : Block) (st : State) (p : ℕ) (es : List Entry) → Sized st → Walks s l Anywhere b st p es Held
    sized-block end st p es h = walks-end s l Anywhere st p es h
    sized-block (i ⨾ b) st p es h = walks_next s l Anywhere i b st p es tt (sized-item i st p es h) (λ a q fs g. sized-block b a q fs g)

  -- a part without mantissas
  plain : Item → Bool
  plain (element name i w a) = true
  plain (elements name i w a k f n) = true
  plain (span name k) = true
  plain (mantissas name a) = false
  plain (exponents x name i) = true
  plain (when c b) = true
  plain (each k i n b) = true
  plain (reject c n) = true
  plain (reject_at c n k) = true
  plain (put a v) = true
  plain (fill k n x y a) = true
  plain (derive k) = true

  any : ℕ → ℕ → ℕ → Bool
  any j a z = true

  pointed-plain : (i : Item) (st : State) (p : ℕ) (es : List Entry) → plain i ≡ true → Within st.cells → Pointed i st p es
  unfolding plain
  pointed-plain i st p es h w name a e = absurd (true≢false (sym (subst (λ j. plain j ≡ true) e h)))

  Kept : Point
  Kept a q fs = Within a.cells × Sized a

  plain_walk : (b : Block) → fitting plain any b ≡ true → (st : State) (p : ℕ) (es : List Entry) → Kept st p es → Walks s l Pointed b st p es Kept
  unfolding fitting Kept
  plain_walk b h st p es k =
      let w = fits-block plain s l Pointed pointed-plain any b [] h st p es k.0 tt in
      let z = sized-block b st p es k.1 in
      record { along = w.along; ends = λ a e. ((w.ends a e).changed.within, z.ends a e) }

  -- the mantissas of a block, after its allocation
  Ready : Point
  Ready a q fs = Kept a q fs × Pointers a.cells a.bins.baps

  allocation-is : (st : State) → derived Allocation st ≡ allocate_in st
  unfolding derived
  allocation-is st = refl

  ready : (st : State) (p : ℕ) (es : List Entry) → Kept st p es → eqb (derived Allocation st).number 0 ≡ true → Ready (derived Allocation st).st p es
  unfolding allocate_in Kept Ready
  ready st p es k e =
      let o = allocates st k.1 in
      subst (λ (x : Acted). (Within x.st.cells × Sized x.st) × Pointers x.st.cells x.st.bins.baps) (sym (allocation-is st))
      ((k.0, o.sized), o.pointers (subst (λ (x : Acted). eqb x.number 0 ≡ true) (allocation-is st) e))

tab-same : {A : Type 0} (f g : ℕ → A) (n i : ℕ) → ((j : ℕ) → i ≤ j → j < i + n → f j ≡ g j) → tab_of f i n ≡ tab_of g i n
unfolding tab_of
tab-same f g zero i h = refl
tab-same f g (suc n) i h = rw (h i (omega arith) (omega arith)) (ap (λ r. g i ∷ r) (tab-same f g n (suc i) (λ j a b. h j (omega arith) (omega arith))))

-- where mantissas start says nothing of the shape of a block
module _ (m : List ℕ) (k v : ℕ) (low : MANTISSA_STARTS ≤ k) (high : k ≤ MANTISSA_STARTS + 5) where
  same : (j : ℕ) → j < MANTISSA_STARTS → cell_of (put_in m k v) j ≡ cell_of m j
  same j h = cell-beside m k v j (omega arith) (omega arith) (λ z. omega arith)

  flags-same : (j n : ℕ) → j + n ≤ MANTISSA_STARTS → flags_of (put_in m k v) j n ≡ flags_of m j n
  flags-same j n h = tab-same (λ i. flag_of (put_in m k v) (j + i)) (λ i. flag_of m (j + i)) n 0 (λ i a b. rw (same (j + i) (omega arith)) refl)

  values_same : (j n : ℕ) → j + n ≤ MANTISSA_STARTS → values_of (put_in m k v) j n ≡ values_of m j n
  values_same j n h = tab-same (λ i. cell_of (put_in m k v) (j + i)) (λ i. cell_of m (j + i)) n 0 (λ i a b. same (j + i) (omega arith))

  shape_same : shape_of (put_in m k v) ≡ shape_of m
  shape_same =
      rw (
        same NFCHANS (omega arith),
        same LFEON (omega arith),
        same CPLINU (omega arith),
        same CPLSTRT (omega arith),
        same CPLEND (omega arith),
        flags-same CHINCPL 5 (omega arith),
        flags-same AHTINU 7 (omega arith),
        flags-same AHT_READ 7 (omega arith),
        values_same ENDMANT 5 (omega arith),
      ) refl

module _ (s : List ℕ) (l : ℕ) where
  blk-most : most BLK ≡ 5
  unfolding most most_in bounds
  blk-most = refl

  may-start : may (any s l) MANTISSA_STARTS 5 0 65535 ≡ true
  unfolding fitting any
  may-start = refl

  may-tags : may (any s l) TAGS 0 0 tags_most ≡ true
  unfolding fitting any
  may-tags = refl

  may-bits : may (any s l) (suc TAGS) (0 + 6) 0 65535 ≡ true
  unfolding fitting any
  may-bits = refl

  quantized-walk : (st : State) (p : ℕ) (es : List Entry) → Kept s l st p es → Walks s l Pointed quantized st p es (Kept s l)
  unfolding quantized fitting plain any Kept Ready
  quantized-walk st p es k =
      walks_next s l Pointed _ _ st p es {M = Ready s l} (λ name a e. absurd (let z : ◌≡◌ {A = ℕ} 0 1 = cc in let y : ⊥ = omega arith in y))
      (walked-derive s l Pointed Allocation st p es (λ e. ready s l st p es k e))
      (λ a q fs r. walks_next s l Pointed _ _ a q fs {M = Ready s l} (λ name b e. absurd (let z : ◌≡◌ {A = ℕ} 0 1 = cc in let y : ⊥ = omega arith in y))
      (walked_put s l Pointed _ _ a q fs
      (let m = a.cells in
      let w = r.0.0 in
      let e = place_at MANTISSA_STARTS BLK m in
      let b : cell_of m BLK ≤ 5 = omega (arith, w.below BLK, blk-most) in
      let g : Changed (any s l) m (put_in m (place_of (at MANTISSA_STARTS BLK) m) q) = puts (any s l) m (place_of (at MANTISSA_STARTS BLK) m) q MANTISSA_STARTS 5 0 65535 w may-start (omega arith) (omega arith) (omega arith) (omega arith) in (
        (g.within, r.0.1),
        subst (λ (x : Shape). (slot bin : ℕ) → slot < 7 → bin < 256 → requested_of x slot ≡ true → pointer a.bins.baps slot bin ≤ most_pointer (get_or x.ahtinu slot false))
            (sym (shape_same m (place_of (at MANTISSA_STARTS BLK) m) q (omega arith) (omega arith))) r.1,
      )))
      (λ b u gs r. walks_next s l Pointed _ _ b u gs {M = Kept s l} (λ name c e. r.1)
      (walked-mantissas s l Pointed _ (cell TAGS) b u gs
      (λ vs t hs n v _ _ _ _ _.
      let e = place-cell TAGS b.cells in
      ((told-changes (any s l) b.cells (place_of (cell TAGS) b.cells) vs TAGS 0 r.0.0 n v may-tags may-bits (omega arith) (omega arith)).within, r.0.1)))
      (λ c t hs k. plain_walk s l _ refl c t hs k)))

  -- the sections before it; the blocks; the whole body
  joined : List Block → Block → Block
  joined [] c = c
  joined (b ∷ bs) c = b ⧺ joined bs c

  all_plain : List Block → Bool
  all_plain [] = true
  all_plain (b ∷ bs) = fitting (plain s l) (any s l) b && all_plain bs

  sections : (bs : List Block) (c : Block) → all_plain bs ≡ true → (st : State) (p : ℕ) (es : List Entry) → Kept s l st p es → {R : Point}
      → ((a : State) (q : ℕ) (fs : List Entry) → Kept s l a q fs → Walks s l Pointed c a q fs R) → Walks s l Pointed (joined bs c) st p es R
  unfolding joined all_plain
  sections [] c h st p es k f = f st p es k
  sections (b ∷ bs) c h st p es k f =
      let t = both (fitting (plain s l) (any s l) b) (all_plain bs) h in
      walks-append s l Pointed b (joined bs c) st p es (plain_walk s l b t.0 st p es k) (λ a q fs g. sections bs c t.1 a q fs g f)

  early : List Block
  early = dynamics ∷ spx_strategy ∷ spx_coordinates ∷ cpl_strategy ∷ cpl_coordinates ∷ rematrixing ∷ bandwidth ∷ exponents_of_block ∷ parameters ∷ deltas ∷ skip_field ∷ []

  early-plain : all_plain early ≡ true
  unfolding all_plain early fitting plain any pages
  early-plain = refl

  block-walk : (st : State) (p : ℕ) (es : List Entry) → Kept s l st p es → Walks s l Pointed audblk st p es (Kept s l)
  unfolding audblk joined early
  block-walk st p es k = sections early quantized early-plain st p es k (λ a q fs g. quantized-walk a q fs g)

  may-blk : may (any s l) BLK 0 0 5 ≡ true
  unfolding fitting any
  may-blk = refl

  blocks-walk : (st : State) (p : ℕ) (es : List Entry) → Kept s l st p es → Walks s l Pointed audblks st p es (Kept s l)
  unfolding audblks fitting plain any Kept
  blocks-walk st p es k =
      walks_next s l Pointed _ _ st p es {M = Kept s l} (λ name a e. absurd (let z : ◌≡◌ {A = ℕ} 0 1 = cc in let y : ⊥ = omega arith in y))
      (walked-each s l Pointed BLK _ _ _ st p es (λ j. Kept s l) k
      (λ j a q fs i g.
      let n : j < 6 = let e = held-cell NUMBLKS st.cells in omega (arith, k.0.below NUMBLKS, numblks-most) in
      block-walk (stored a BLK j) q fs ((puts (any s l) a.cells BLK j BLK 0 0 5 g.0 may-blk (omega arith) (omega arith) (omega arith) (omega arith)).within, g.1))
      (λ j a q fs i g. g))
      (λ a q fs g. plain_walk s l _ refl a q fs g)

  head_plain : all_plain (bsi ∷ audfrm ∷ []) ≡ true
  unfolding all_plain fitting plain any pages
  head_plain = refl

  body-walk : (st : State) (p : ℕ) (es : List Entry) → Kept s l st p es → Walks s l Pointed body st p es (Kept s l)
  unfolding body joined
  body-walk st p es k = sections (bsi ∷ audfrm ∷ []) audblks head_plain st p es k (λ a q fs g. blocks-walk a q fs g)

start-sized : Sized start
unfolding start
start-sized = length-replicate {A = ℕ} 1792 0

-- whatever the buffer, at the mantissas of every block that the reading of its body comes to
pub pointed : AllPointed
unfolding Kept
pointed s h e = (body-walk s _ h _ _ (header-within s h e, (sized-block s 48 header start 0 [] start-sized).ends h (headed-gives s h e))).along
