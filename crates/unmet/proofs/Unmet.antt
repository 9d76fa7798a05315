-- No input meets the tests of the reference that the definition leaves out. Assumes nothing.
use mathlib.Core.Path.{◌≡◌, refl, ap, sym, ◌∙◌, subst}
use mathlib.Core.Bool.{Bool, true, ◌&&◌}
use mathlib.Core.List.{List, [], ◌∷◌}
use mathlib.Core.Logic.{◌⊎◌, inl, inr}
use Prim.Native.Nat.{ℕ, zero, suc, ◌+◌, ◌%◌, ◌≤◌, ◌<◌}
use native.Mathlib.Omega.{arith}
use Rattle.names.specs.Names.{frmcsnroffst}
use Rattle.reading.specs.Run.{Entry}
use Rattle.cells.specs.Cells.{State, cell_of, put_in, puts_in, stored, place_of, held_of}
use Rattle.cells.specs.Names.{BLK, CHBWCOD, CPL_SUBND_END, CPLBEGF, CPLINUS, CPLSTRE, FIRSTCPLLEAK, FSCOD, NFCHANS, NUMBLKS, SNROFFSTSTR, TAGS}
use Rattle.derivations.specs.Allocating.{fresh_by, allocate_in}
use Rattle.derivations.specs.Derivations.{Allocation, Fresh, derived}
use Rattle.rows.specs.Syntax.{Block, ◌⧺◌, cell}
use Rattle.annex.specs.Bsi.{bsi}
use Rattle.annex.specs.Audfrm.{flags, coupling, strategies, hybrid, offsets, audfrm}
use Rattle.annex.specs.Audblk.{dynamics, spx_strategy, spx_coordinates, cpl_strategy, cpl_coordinates, rematrixing, bandwidth, exponents_of_block, parameters, deltas, skip_field, quantized, audblk}
use Rattle.annex.specs.Annex.{audblks, body}
use Rattle.annex.proofs.Header.{headed-gives}
use Rattle.bounds.specs.Along.{Point}
use Rattle.bounds.specs.Bounds.{tags_most, Within}
use Rattle.unmet.specs.Unmet.{Offsets, Ready, Unmet, NoneMet}
use Rattle.cells.proofs.Cells.{put-sized}
use Rattle.bounds.proofs.Cells.{cell-zero, cell_at, cell-beside}
use Rattle.bounds.proofs.Bounds.{both, numblks-most, may, Changed, changed_then, puts}
use Rattle.bounds.proofs.Fits.{told-changes}
use Rattle.bounds.proofs.Bounded.{header-within}
use Rattle.bounds.proofs.Derived.{fits_fresh, fresh-changes}
use Rattle.unmet.proofs.Exponents.{after_exponents, after-exponents, after-through, fewer, blk-same, str-same, coupling-stays, channels-stay, lfe-stays, covered, Covered}
use Rattle.unmet.proofs.Ranges.{through_block, early, settled, early-through, settled-through, exponents-settled, cplinu-same, Settled, Unsettled, Ranged, unsettled-stays, settled-stays, block_same, through_same, settled-kept, ranged-stays, ends-fit, Rated, rated-stays, rated-through, rated-kept, through_exponents}
use Rattle.unmet.proofs.Bandwidth.{strategy-walk, bandwidth-walk}
use Rattle.unmet.proofs.Uses.{unset, uses, Unset, unset-stays, Linked, linked-stays, Uses, uses-stay, Blank, header-blank, bsi-walk, uses-walk}
use Rattle.unmet.proofs.Leaves.{Ranges, leaves, leaves_unsent, unsent-fewer, passes, unsent-leaves, unsent-same, first_items, after_items, place-cell, held-cell, is_false, skip, whole, element-by}
use Rattle.unmet.proofs.Sent.{offsets-grow, leaks-grow, LeaksIfSent, leaks-stay, Before, parameters-walked}
use Rattle.bounds.proofs.Walking.{Grows, grows-refl, grows-trans, Walks, walks_next, walks-map, walks-append, walked-mantissas, walked-when, walked-derive, walked-each}

module _ (s : List ℕ) (l : ℕ) where
  -- the block j of n
  record Numbered (n j : ℕ) (m : List ℕ) : Type 0 where
    linked : Linked n m
    few : n ≤ 6
    number : cell_of m BLK ≡ j
    rated : Rated m

  numbered-stays : (n j : ℕ) (x y : List ℕ) → Changed (leaves_unsent through_block) x y → Numbered n j x → Numbered n j y
  unfolding through_block
  numbered-stays n j x y g c = record {
    linked = linked-stays n x y c.few (λ k a b. unsent-same through_block x y k g (omega arith) (inr (inr (inl (a, b))))) c.linked;
    few = c.few;
    number = blk-same x y (unsent-leaves through_block x y g) ∙ c.number;
    rated = rated-through x y g c.rated;
  }

  -- what holds all through it
  record InBlock (n j : ℕ) (es : List Entry) (m : List ℕ) : Type 0 where
    within : Within m
    before : Before s l es m
    leaks : LeaksIfSent es m
    numbered : Numbered n j m

  before-stays : (x y : List ℕ) (es fs : List Entry) → Changed (leaves_unsent through_block) x y → Grows es fs → Before s l es x → Before s l fs y
  before-stays x y es fs g h (inl o) = inl (offsets-grow es fs h o)
  before-stays x y es fs g h (inr o) =
      let k = unsent-leaves through_block x y g in
      inr (blk-same x y k ∙ o.0, λ e. o.1 (sym (str-same x y k) ∙ e))

  block-stays : (n j : ℕ) (x y : List ℕ) (es fs : List Entry) → Changed (leaves_unsent through_block) x y → Grows es fs → InBlock n j es x → InBlock n j fs y
  block-stays n j x y es fs g h c = record {
    within = g.within;
    before = before-stays x y es fs g h c.before;
    leaks = leaks-stay through_block x y es fs g h c.leaks;
    numbered = numbered-stays n j x y g c.numbered;
  }

  -- before its coupling strategy, and after it
  record EarlyBlock (n j : ℕ) (es : List Entry) (m : List ℕ) : Type 0 where
    block : InBlock n j es m
    unsettled : Unsettled m

  record SettledBlock (n j : ℕ) (es : List Entry) (m : List ℕ) : Type 0 where
    block : InBlock n j es m
    settled-now : Settled m

  early-stays : (n j : ℕ) (x y : List ℕ) (es fs : List Entry) → Changed (leaves_unsent early) x y → Grows es fs → EarlyBlock n j es x → EarlyBlock n j fs y
  early-stays n j x y es fs g h c = record { block = block-stays n j x y es fs (early-through x y g) h c.block; unsettled = unsettled-stays x y g c.unsettled }

  settled-block-stays : (n j : ℕ) (x y : List ℕ) (es fs : List Entry) → Changed (leaves_unsent settled) x y → Grows es fs → SettledBlock n j es x → SettledBlock n j fs y
  settled-block-stays n j x y es fs g h c = record { block = block-stays n j x y es fs (settled-through x y g) h c.block; settled-now = settled-stays x y g c.settled-now }

  -- sections one after another, each of which passes the test
  joined : List Block → Block → Block
  joined [] c = c
  joined (b ∷ bs) c = b ⧺ joined bs c

  all_pass : Ranges → List Block → Bool
  all_pass rs [] = true
  all_pass rs (b ∷ bs) = passes (leaves_unsent rs) b && all_pass rs bs

  -- so what stays under the test holds after them
  pass : (rs : Ranges) (I : List Entry → List ℕ → Type 0) → ((es : List Entry) (m : List ℕ) → I es m → Within m)
      → ((x y : List ℕ) (es fs : List Entry) → Changed (leaves_unsent rs) x y → Grows es fs → I es x → I fs y)
      → (bs : List Block) (c : Block) → all_pass rs bs ≡ true → (st : State) (p : ℕ) (es : List Entry) → I es st.cells → {R : Point}
      → ((a : State) (q : ℕ) (fs : List Entry) → I fs a.cells → Walks s l Unmet c a q fs R) → Walks s l Unmet (joined bs c) st p es R
  unfolding joined all_pass
  pass rs I w f [] c h st p es g k = k st p es g
  pass rs I w f (b ∷ bs) c h st p es g k =
      let t = both (passes (leaves_unsent rs) b) (all_pass rs bs) h in
      walks-append s l Unmet b (joined bs c) st p es {M = λ a q fs. I fs a.cells}
      (whole s l (leaves_unsent rs) b t.0 st p es (w es st.cells g) (λ a q fs i j. f st.cells a.cells es fs i j g))
      (λ a q fs i. pass rs I w f bs c t.1 a q fs i k)

  -- those of a block before its coupling strategy; between it and the bandwidth; between its parameters and the allocation
  first : List Block
  first = dynamics ∷ spx_strategy ∷ spx_coordinates ∷ []

  second : List Block
  second = cpl_coordinates ∷ rematrixing ∷ []

  late : List Block
  late = deltas ∷ skip_field ∷ []

  pass-first : all_pass early first ≡ true
  unfolding all_pass first passes early dynamics spx_strategy spx_coordinates
  pass-first = refl

  pass-second : all_pass settled second ≡ true
  unfolding all_pass second passes settled cpl_coordinates rematrixing
  pass-second = refl

  pass-late : all_pass after_exponents late ≡ true
  unfolding all_pass late passes after_exponents deltas skip_field
  pass-late = refl

  -- before an allocation, and after a block
  record Allocating (n j : ℕ) (es : List Entry) (m : List ℕ) : Type 0 where
    within : Within m
    ready : Ready es m
    ranged : Ranged m
    leaks : LeaksIfSent es m
    numbered : Numbered n j m
    settled-now : Settled m

  record AfterBlock (n j : ℕ) (es : List Entry) (m : List ℕ) : Type 0 where
    within : Within m
    offsets : Offsets es
    leaks : LeaksIfSent es m
    numbered : Numbered n j m
    settled-now : Settled m

  allocating-stays : (n j : ℕ) (x y : List ℕ) (es fs : List Entry) → Changed (leaves_unsent after_exponents) x y → Grows es fs → Allocating n j es x → Allocating n j fs y
  allocating-stays n j x y es fs g h t =
      let f = unsent-leaves after_exponents x y g in
      record {
        within = g.within;
        ready = record {
          channels = channels-stay x y f t.ready.channels;
          coupling = coupling-stays x y f t.ready.coupling;
          lfe = lfe-stays x y f t.ready.lfe;
          offsets = offsets-grow es fs h t.ready.offsets;
          leaks = λ e. leaks-grow es fs h (t.ready.leaks (sym (cplinu-same x y (fewer x y f)) ∙ e));
          rate = (rated-kept x y (fewer x y f) t.numbered.rated).rate;
          some = (rated-kept x y (fewer x y f) t.numbered.rated).some;
          ends = ends-fit y (ranged-stays x y (fewer x y f) t.ranged);
        };
        ranged = ranged-stays x y (fewer x y f) t.ranged;
        leaks = leaks-stay after_exponents x y es fs g h t.leaks;
        numbered = numbered-stays n j x y (after-through x y g) t.numbered;
        settled-now = settled-stays x y (exponents-settled x y (after-exponents x y g)) t.settled-now;
      }

  allocated-cells : (st : State) → (derived Allocation st).st.cells ≡ st.cells
  unfolding derived allocate_in
  allocated-cells st = refl

  may-tags : may (leaves_unsent settled) TAGS 0 0 tags_most ≡ true
  unfolding passes settled
  may-tags = refl

  may-bits : may (leaves_unsent settled) (suc TAGS) (0 + 6) 0 65535 ≡ true
  unfolding passes settled
  may-bits = refl

  quantized-walk : (n j : ℕ) (st : State) (p : ℕ) (es : List Entry) → Allocating n j es st.cells → Walks s l Unmet quantized st p es (λ a q fs. AfterBlock n j fs a.cells)
  unfolding quantized first_items after_items passes settled through_exponents
  quantized-walk n j st p es c =
      walks_next s l Unmet _ _ st p es {M = λ a q fs. Allocating n j fs a.cells} (λ _. c.ready)
      (walked-derive s l Unmet Allocation st p es (λ _. subst (Allocating n j es) (sym (allocated-cells st)) c))
      (λ a q fs d. skip s l (leaves_unsent through_exponents) 1 _ refl a q fs d.within
      (λ x u hs f i. walks_next s l Unmet _ _ x u hs {M = λ y v is. Changed (leaves_unsent settled) a.cells y.cells × Grows fs is}
      (ends-fit x.cells (ranged-stays a.cells x.cells (unsent-leaves through_exponents a.cells x.cells f) d.ranged))
      (walked-mantissas s l Unmet _ (cell TAGS) x u hs
      (λ vs w is n t k _ _ _ _.
      let e = place-cell TAGS x.cells in (
        changed_then (leaves_unsent settled) a.cells x.cells (puts_in x.cells (place_of (cell TAGS) x.cells) vs) (exponents-settled a.cells x.cells f)
            (told-changes (leaves_unsent settled) x.cells (place_of (cell TAGS) x.cells) vs TAGS 0 f.within n t may-tags may-bits (omega arith) (omega arith)),
        grows-trans fs hs is i k,
      )))
      (λ y v is m. whole s l (leaves_unsent settled) _ refl y v is m.0.within
      (λ b r gs g2 h2.
      let g : Changed (leaves_unsent settled) a.cells b.cells = changed_then (leaves_unsent settled) a.cells y.cells b.cells m.0 g2 in
      let h : Grows fs gs = grows-trans fs is gs m.1 h2 in
      record {
        within = g.within;
        offsets = offsets-grow fs gs h d.ready.offsets;
        leaks = leaks-stay settled a.cells b.cells fs gs g h d.leaks;
        numbered = numbered-stays n j a.cells b.cells (settled-through a.cells b.cells g) d.numbered;
        settled-now = settled-stays a.cells b.cells g d.settled-now;
      }))))

  -- the parameters after the exponents, which may put FIRSTCPLLEAK
  numbered-after : (n j : ℕ) (x y : List ℕ) → Changed (leaves after_exponents) x y → Numbered n j x → Numbered n j y
  numbered-after n j x y g c = record {
    linked = linked-stays n x y c.few (λ k a b. through_same x y (fewer x y g) k a b) c.linked;
    few = c.few;
    number = block_same x y (fewer x y g) ∙ c.number;
    rated = rated-kept x y (fewer x y g) c.rated;
  }

  parameters-walk : (n j : ℕ) (c : Block) (x : State) (xs : List Entry) (st : State) (p : ℕ) (es : List Entry) → SettledBlock n j es st.cells → Ranged st.cells → Covered s l x xs st p es → {R : Point}
      → ((a : State) (q : ℕ) (fs : List Entry) → Allocating n j fs a.cells → Walks s l Unmet c a q fs R) → Walks s l Unmet (parameters ⧺ c) st p es R
  parameters-walk n j c x xs st p es g ranged d k =
      walks-append s l Unmet parameters c st p es {M = λ a q fs. Allocating n j fs a.cells}
      (walks-map s l Unmet
      (λ a q fs t.
      let f = t.after-leaks.changed in
      record {
        within = f.within;
        ready = record {
          channels = channels-stay st.cells a.cells f d.channels;
          coupling = coupling-stays st.cells a.cells f d.coupling;
          lfe = lfe-stays st.cells a.cells f d.lfe;
          offsets = t.offsets;
          leaks = t.after-leaks.leaks;
          rate = (rated-kept st.cells a.cells (fewer st.cells a.cells f) g.block.numbered.rated).rate;
          some = (rated-kept st.cells a.cells (fewer st.cells a.cells f) g.block.numbered.rated).some;
          ends = ends-fit a.cells (ranged-stays st.cells a.cells (fewer st.cells a.cells f) ranged);
        };
        ranged = ranged-stays st.cells a.cells (fewer st.cells a.cells f) ranged;
        leaks = t.after-leaks.if-sent;
        numbered = numbered-after n j st.cells a.cells f g.block.numbered;
        settled-now = settled-kept st.cells a.cells (fewer st.cells a.cells f) g.settled-now;
      })
      (parameters-walked s l st p es g.block.within g.block.before g.block.leaks))
      k

  -- from the exponents on
  exponents-walk : (n j : ℕ) (st : State) (p : ℕ) (es : List Entry) → SettledBlock n j es st.cells → Ranged st.cells
      → Walks s l Unmet (exponents_of_block ⧺ parameters ⧺ deltas ⧺ skip_field ⧺ quantized) st p es (λ a q fs. AfterBlock n j fs a.cells)
  unfolding joined late
  exponents-walk n j a q fs g ranged =
      walks-append s l Unmet exponents_of_block _ a q fs (covered s l a q fs g.block.within ranged)
      (λ b r gs d. parameters-walk n j _ a fs b r gs (settled-block-stays n j a.cells b.cells fs gs (exponents-settled a.cells b.cells d.since.changed) d.since.grows g)
      (ranged-stays a.cells b.cells (unsent-leaves through_exponents a.cells b.cells d.since.changed) ranged) d
      (λ c u hs t. pass after_exponents (Allocating n j) (λ _ _ i. i.within) (allocating-stays n j) late quantized pass-late c u hs t (λ e v is f. quantized-walk n j e v is f)))

  block-walk : (n j : ℕ) (st : State) (p : ℕ) (es : List Entry) → EarlyBlock n j es st.cells → Walks s l Unmet audblk st p es (λ a q fs. AfterBlock n j fs a.cells)
  unfolding audblk joined first second
  block-walk n j st p es g =
      pass early (EarlyBlock n j) (λ _ _ i. i.block.within) (early-stays n j) first _ pass-first st p es g
      (λ a q fs g. walks-append s l Unmet cpl_strategy _ a q fs (strategy-walk s l a q fs g.block.within g.unsettled)
      (λ b r gs d. pass settled (SettledBlock n j) (λ _ _ i. i.block.within) (settled-block-stays n j) second _ pass-second b r gs
      (record { block = block-stays n j a.cells b.cells fs gs d.changed d.grows g.block; settled-now = d.settled-now })
      (λ c u hs g. walks-append s l Unmet bandwidth _ c u hs (bandwidth-walk s l c u hs g.block.within g.settled-now)
      (λ e v is d. exponents-walk n j e v is (record { block = block-stays n j c.cells e.cells hs is d.changed d.grows g.block; settled-now = d.settled-now }) d.ranged))))

  -- before the block j of n: offsets were sent, or the first block will send them; the last block is settled
  record Blocks (n j : ℕ) (a : State) (q : ℕ) (fs : List Entry) : Type 0 where
    within : Within a.cells
    leaks : LeaksIfSent fs a.cells
    sent : Offsets fs ⊎ ((j ≡ 0) × ¬ (cell_of a.cells SNROFFSTSTR ≡ 0))
    linked : Linked n a.cells
    rated : Rated a.cells
    coded : (ch : ℕ) → ch < 5 → cell_of a.cells (CHBWCOD + ch) ≤ 60
    coupled : (c : ℕ) → j ≡ suc c → cell_of a.cells (CPLINUS + c) ≡ 1 → cell_of a.cells CPLBEGF < cell_of a.cells CPL_SUBND_END

  -- what the number of a block leaves
  strategy_of_offsets : Ranges
  unfolding unset
  strategy_of_offsets = (SNROFFSTSTR, SNROFFSTSTR) ∷ (CPLBEGF, CPL_SUBND_END) ∷ unset

  may-blk : may (leaves_unsent strategy_of_offsets) BLK 0 0 5 ≡ true
  unfolding passes strategy_of_offsets
  may-blk = refl

  turn-walk : (n j : ℕ) (a : State) (q : ℕ) (fs : List Entry) → n ≤ 6 → j < n → Blocks n j a q fs → Walks s l Unmet audblk (stored a BLK j) q fs (Blocks n (suc j))
  unfolding strategy_of_offsets
  turn-walk n j a q fs few i t =
      let w = t.within in
      let m = put_in a.cells BLK j in
      let g : Changed (leaves_unsent strategy_of_offsets) a.cells m = puts (leaves_unsent strategy_of_offsets) a.cells BLK j BLK 0 0 5 w may-blk (omega arith) (omega arith) (omega arith) (omega arith) in
      let blk : cell_of m BLK ≡ j = cell_at a.cells BLK j w.sized (omega arith) (omega arith) ∙ (let z : j % 65536 ≡ j = omega arith in z) in
      let same : (k : ℕ) → k < 1024 → ¬ (k ≡ BLK) → cell_of m k ≡ cell_of a.cells k = λ k b o. cell-beside a.cells BLK j k b (omega arith) o in
      walks-map s l Unmet (λ b r gs d. next b gs d)
      (block-walk n j (stored a BLK j) q fs
      (record {
        block = record {
          within = g.within;
          before = before m blk (same SNROFFSTSTR (omega arith) (λ z. omega arith)) t.sent;
          leaks = leaks-stay strategy_of_offsets a.cells m fs fs g (grows-refl fs) t.leaks;
          numbered = record { linked = linked-stays n a.cells m few (λ k b c. same k (omega arith) (λ z. omega arith)) t.linked; few = few; number = blk; rated = rated-stays a.cells m (same FSCOD (omega arith) (λ z. omega arith)) (same NFCHANS (omega arith) (λ z. omega arith)) t.rated };
        };
        unsettled = record {
          coded = λ ch h. rw (same (CHBWCOD + ch) (omega arith) (λ z. omega arith)) (t.coded ch h);
          coupled = λ x y.
              rw (same CPLBEGF (omega arith) (λ z. omega arith), same CPL_SUBND_END (omega arith) (λ z. omega arith))
              (bands j refl
              (sym (same (CPLSTRE + j) (omega arith) (λ z. omega arith)) ∙ ap (λ k. cell_of m (CPLSTRE + k)) (sym blk) ∙ x)
              (sym (same (CPLINUS + j) (omega arith) (λ z. omega arith)) ∙ ap (λ k. cell_of m (CPLINUS + k)) (sym blk) ∙ y));
        };
      }))
    where
      before : (m : List ℕ) → cell_of m BLK ≡ j → cell_of m SNROFFSTSTR ≡ cell_of a.cells SNROFFSTSTR → Offsets fs ⊎ ((j ≡ 0) × ¬ (cell_of a.cells SNROFFSTSTR ≡ 0)) → Before s l fs m
      before m b e (inl o) = inl o
      before m b e (inr o) = inr (b ∙ o.0, λ z. o.1 (sym e ∙ z))

      -- a block that is coupled without a new strategy has the sub-bands of the block before it
      bands : (k : ℕ) → j ≡ k → cell_of a.cells (CPLSTRE + k) ≡ 0 → cell_of a.cells (CPLINUS + k) ≡ 1 → cell_of a.cells CPLBEGF < cell_of a.cells CPL_SUBND_END
      bands zero e x y = absurd (t.linked.first x y)
      bands (suc c) e x y = t.coupled c e (t.linked.next c (omega arith) x y)

      next : (b : State) (gs : List Entry) {r : ℕ} → AfterBlock n j gs b.cells → Blocks n (suc j) b r gs
      next b gs d = record {
        within = d.within;
        leaks = d.leaks;
        sent = inl d.offsets;
        linked = d.numbered.linked;
        rated = d.numbered.rated;
        coded = d.settled-now.coded;
        coupled = λ c e y. d.settled-now.coupled (d.settled-now.last ∙ ap (λ k. cell_of b.cells (CPLINUS + k)) (d.numbered.number ∙ (let z : j ≡ c = omega arith in z)) ∙ y);
      }

  -- what holds before the blocks
  record Framed (es : List Entry) (m : List ℕ) : Type 0 where
    within : Within m
    leaks : LeaksIfSent es m
    uses-now : Uses m
    sent : Offsets es ⊎ ¬ (cell_of m SNROFFSTSTR ≡ 0)

  abbrev Anything : Point
  Anything a q fs = Unit {0}

  blocks-walk : (st : State) (p : ℕ) (es : List Entry) → Framed es st.cells → Walks s l Unmet audblks st p es Anything
  unfolding audblks passes
  blocks-walk st p es c =
      let n : held_of (cell NUMBLKS) st.cells ≤ 6 = let e = held-cell NUMBLKS st.cells in omega (arith, c.within.below NUMBLKS, numblks-most) in
      walks_next s l Unmet _ _ st p es {M = λ a q fs. Within a.cells} tt
      (walked-each s l Unmet BLK _ _ _ st p es (Blocks (held_of (cell NUMBLKS) st.cells))
      (record {
        within = c.within;
        leaks = c.leaks;
        sent = begins c.sent;
        linked = subst (λ i. Linked i st.cells) (sym (held-cell NUMBLKS st.cells)) c.uses-now.linked;
        rated = c.uses-now.rated;
        coded = c.uses-now.coded;
        coupled = λ i e. absurd (let z : ⊥ = omega (arith, cell-zero st.cells) in z);
      })
      (λ j a q fs i t. turn-walk (held_of (cell NUMBLKS) st.cells) j a q fs n i t)
      (λ j a q fs i t. t.within))
      (λ a q fs w. whole s l (leaves_unsent []) _ refl a q fs w (λ b r gs g h. tt))
    where
      begins : Offsets es ⊎ ¬ (cell_of st.cells SNROFFSTSTR ≡ 0) → Offsets es ⊎ ((0 + cell_of st.cells 0 ≡ 0) × ¬ (cell_of st.cells SNROFFSTSTR ≡ 0))
      begins (inl o) = inl o
      begins (inr o) = inr (let e = cell-zero st.cells in omega arith, o)

  -- audfrm: nothing of leaks is sent at first; the offsets of the frame are, or those of block 0 will be
  record Begun (es : List Entry) (m : List ℕ) : Type 0 where
    within : Within m
    leaks : LeaksIfSent es m

  record BegunUses (es : List Entry) (m : List ℕ) : Type 0 where
    begun : Begun es m
    uses-now : Uses m

  begun-stays : (rs : Ranges) (x y : List ℕ) (es fs : List Entry) → Changed (leaves_unsent rs) x y → Grows es fs → Begun es x → Begun fs y
  begun-stays rs x y es fs g h c = record { within = g.within; leaks = leaks-stay rs x y es fs g h c.leaks }

  begun-uses-stay : (x y : List ℕ) (es fs : List Entry) → Changed (leaves_unsent uses) x y → Grows es fs → BegunUses es x → BegunUses fs y
  begun-uses-stay x y es fs g h c = record { begun = begun-stays uses x y es fs g h c.begun; uses-now = uses-stay x y g c.uses-now }

  pass-fresh : fits_fresh (leaves_unsent unset) ≡ true
  unfolding passes unset
  pass-fresh = refl

  fresh-one : (m : List ℕ) → Within (fresh_by m) → cell_of (fresh_by m) FIRSTCPLLEAK ≡ 1
  unfolding fresh_by
  fresh-one m w = cell_at _ FIRSTCPLLEAK 1 (sym (put-sized _ FIRSTCPLLEAK 1) ∙ w.sized) (omega arith) (omega arith)

  derived-fresh : (st : State) → (derived Fresh st).st.cells ≡ fresh_by st.cells
  unfolding derived
  derived-fresh st = refl

  flags-walk : (st : State) (p : ℕ) (es : List Entry) → Within st.cells → Unset st.cells → Walks s l Unmet flags st p es (λ a q fs. Begun fs a.cells × Unset a.cells)
  unfolding flags passes unset
  flags-walk st p es w u =
      walks_next s l Unmet _ _ st p es {M = λ a q fs. Begun fs a.cells × Unset a.cells} (λ e. absurd (let z : ⊥ = omega arith in z))
      (walked-derive s l Unmet Fresh st p es
      (λ _. let g = fresh-changes (leaves_unsent unset) st.cells w pass-fresh in (
        record {
          within = subst Within (sym (derived-fresh st)) g.within;
          leaks = λ e. absurd (let z = fresh-one st.cells g.within in let y = ap (λ m. cell_of m FIRSTCPLLEAK) (derived-fresh st) in let o : ⊥ = omega arith in o);
        },
        subst Unset (sym (derived-fresh st)) (unset-stays st.cells (fresh_by st.cells) g u),
      )))
      (λ a q fs c. whole s l (leaves_unsent unset) _ refl a q fs c.0.within
      (λ b r gs g h. (begun-stays unset a.cells b.cells fs gs g h c.0, unset-stays a.cells b.cells g c.1)))

  -- the strategy of the offsets, too
  with_strategy : Ranges
  unfolding uses
  with_strategy = (SNROFFSTSTR, SNROFFSTSTR) ∷ uses

  strategy-uses : (x y : List ℕ) → Changed (leaves_unsent with_strategy) x y → Changed (leaves_unsent uses) x y
  unfolding with_strategy
  strategy-uses x y g = unsent-fewer _ _ x y g

  framed-stays : (x y : List ℕ) (es fs : List Entry) → Changed (leaves_unsent with_strategy) x y → Grows es fs → Framed es x → Framed fs y
  unfolding with_strategy
  framed-stays x y es fs g h c = record { within = g.within; leaks = leaks-stay with_strategy x y es fs g h c.leaks; uses-now = uses-stay x y (strategy-uses x y g) c.uses-now; sent = go c.sent }
    where
      go : Offsets es ⊎ ¬ (cell_of x SNROFFSTSTR ≡ 0) → Offsets fs ⊎ ¬ (cell_of y SNROFFSTSTR ≡ 0)
      go (inl o) = inl (offsets-grow es fs h o)
      go (inr o) = inr (λ z. o (sym (unsent-same with_strategy x y SNROFFSTSTR g (omega arith) (inl (omega arith, omega arith))) ∙ z))

  offsets-walk : (st : State) (p : ℕ) (es : List Entry) → BegunUses es st.cells → Walks s l Unmet offsets st p es (λ a q fs. Framed fs a.cells)
  unfolding offsets passes with_strategy
  offsets-walk st p es c =
      walks_next s l Unmet _ _ st p es {M = λ a q fs. Framed fs a.cells} tt
      (walked-when s l Unmet _ _ st p es
      (λ _. walks_next s l Unmet _ _ st p es {M = λ a q fs. Framed fs a.cells} tt
      (element-by s l (leaves_unsent with_strategy) frmcsnroffst _ 6 _ refl st p es c.begun.within
      (λ a q fs g h k. record {
        within = g.within;
        leaks = leaks-stay with_strategy st.cells a.cells es fs g h c.begun.leaks;
        uses-now = uses-stay st.cells a.cells (strategy-uses st.cells a.cells g) c.uses-now;
        sent = inl (inl k);
      }))
      (λ a q fs d. whole s l (leaves_unsent with_strategy) _ refl a q fs d.within (λ b r gs g h. framed-stays a.cells b.cells fs gs g h d)))
      (λ e. record { within = c.begun.within; leaks = c.begun.leaks; uses-now = c.uses-now; sent = inr (is_false SNROFFSTSTR 0 st.cells e) }))
      (λ a q fs d. whole s l (leaves_unsent with_strategy) _ refl a q fs d.within (λ b r gs g h. framed-stays a.cells b.cells fs gs g h d))

  -- between the uses of coupling and the offsets
  middle : List Block
  middle = strategies ∷ hybrid ∷ []

  pass-middle : all_pass uses middle ≡ true
  unfolding all_pass middle passes uses strategies hybrid
  pass-middle = refl

  frame-walk : (st : State) (p : ℕ) (es : List Entry) → Within st.cells → Unset st.cells → Walks s l Unmet audfrm st p es (λ a q fs. Framed fs a.cells)
  unfolding audfrm joined middle
  frame-walk st p es w u =
      walks-append s l Unmet flags _ st p es (flags-walk st p es w u)
      (λ a q fs c. walks-append s l Unmet coupling _ a q fs (uses-walk s l a q fs c.0.within c.1)
      (λ b r gs d. pass uses BegunUses (λ _ _ i. i.begun.within) begun-uses-stay middle offsets pass-middle b r gs
      (record { begun = begun-stays [] a.cells b.cells fs gs d.changed d.grows c.0; uses-now = d.uses-now })
      (λ e v hs f. offsets-walk e v hs f)))

  body-walk : (st : State) (p : ℕ) (es : List Entry) → Within st.cells → Blank st.cells → Walks s l Unmet body st p es Anything
  unfolding body
  body-walk st p es w u =
      walks-append s l Unmet bsi _ st p es (bsi-walk s l st p es w u)
      (λ a q fs w. walks-append s l Unmet audfrm _ a q fs (frame-walk a q fs w.within w.unset-now) (λ b r gs c. blocks-walk b r gs c))

-- whatever the buffer: wherever the reading of its body comes, the tests that were left out are not met
pub unmet : NoneMet
unmet s h e = (body-walk s _ h _ _ (header-within s h e) (header-blank s 48 h (headed-gives s h e))).along
