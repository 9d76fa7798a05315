-- What is 0 before the first block: the count of the blocks that use coupling, and the bits of every slot. So the count stays 0 only where no block uses coupling, and a
-- block that the frame has not has no bits. Assumes nothing.
use mathlib.Core.Path.{◌≡◌, refl, ap, sym, ◌∙◌, subst}
use mathlib.Core.Bool.{Bool, true, false}
use mathlib.Core.List.{List, [], ◌∷◌}
use mathlib.Core.Logic.{inl, inr}
use Prim.Native.Nat.{ℕ, suc, ◌+◌, ◌*◌, ◌%◌, ◌≤◌, ◌<◌}
use native.Mathlib.Omega.{arith}
use native.Mathlib.Decide.{ℕ_discrete}
use lib.Dec.{eqb}
use borrow.Author.Tests.{eqb-true}
use Rattle.reading.specs.Run.{Entry, accepted}
use Rattle.reading.specs.Frame.{headed}
use Rattle.cells.specs.Cells.{State, state, cell_of, put_in, stored, place_of, held_of}
use Rattle.cells.specs.Names.{BLK, CPL_BLOCKS, CPLINU, CPLINUS, NUMBLKS, SLOT_BITS}
use Rattle.sideinfo.specs.Blocks.{flag_of}
use Rattle.derivations.specs.Derivations.{AhtRead, derived}
use Rattle.rows.specs.Syntax.{Is, Block, ◌⧺◌, cell, holds_of}
use Rattle.annex.specs.Syncinfo.{syncinfo, bsi_size}
use Rattle.annex.specs.Bsi.{mixing_metadata, mixdef3, informational_metadata, bsi}
use Rattle.annex.specs.Audfrm.{flags, coupling, strategies, hybrid, offsets, audfrm}
use Rattle.annex.specs.Audblk.{dynamics, spx_strategy, spx_coordinates, cpl_strategy, cpl_coordinates, rematrixing, bandwidth, exponents_of_block, parameters, deltas, skip_field, quantized, audblk}
use Rattle.annex.specs.Annex.{header, audblks, body}
use Rattle.annex.specs.Frame.{start, bytes_of, eac3}
use Rattle.annex.proofs.Header.{headed-gives}
use Rattle.bounds.specs.Bounds.{Within}
use Rattle.outcomes.specs.Outcomes.{farthest}
use Rattle.cells.proofs.Cells.{cell-none}
use Rattle.bounds.proofs.Cells.{cell-zero, cell_at}
use Rattle.bounds.proofs.Bounds.{numblks-most, may, Changed, puts}
use Rattle.bounds.proofs.Bounded.{start-within, header-within}
use Rattle.bounds.proofs.Derived.{fits_derived, derived-changes}
use Rattle.bounds.proofs.Walking.{Walks, walks-end, walks_next, walks-map, walks-append, walked-derive, walked_put, walked-when, walked-each}
use Rattle.unmet.proofs.Leaves.{Ranges, leaves, leaves-same, first_items, after_items, first-after, place-cell, held-cell, is_false}
use Rattle.slot_sums.specs.SlotSums.{slot_bits}
use Rattle.slot_sums.specs.NoBits.{AtBodyEnd, OtherBlocksHaveNone}
use Rattle.slot_sums.proofs.Sections.{clear, all_clear, Any, joined, Stays, walk-by, walk-on, pass, AfterBody, body-ends}
use Rattle.slot_sums.proofs.Sums.{cplinu_put, cplinu-put, read_is, row_stays}

-- before the first block
abbrev counts : Ranges → Ranges
counts rs = (CPL_BLOCKS, CPL_BLOCKS) ∷ (SLOT_BITS, SLOT_BITS + 47) ∷ rs

record Zero (m : List ℕ) : Type 0 where
  uncounted : cell_of m CPL_BLOCKS ≡ 0
  rows : (i slot : ℕ) → i < 6 → slot < 7 → slot_bits m i slot ≡ 0

zero-stays : (x y : List ℕ) → Changed (leaves (counts [])) x y → Zero x → Zero y
zero-stays x y g z = record {
  uncounted = leaves-same (counts []) x y CPL_BLOCKS g (omega arith) (inl (omega arith, omega arith)) ∙ z.uncounted;
  rows = λ i slot h k. leaves-same (counts []) x y (SLOT_BITS + 8 * i + slot) g (omega arith) (inr (inl (omega arith, omega arith))) ∙ z.rows i slot h k;
}

start-zero : Zero start.cells
unfolding start
start-zero = record { uncounted = cell-none CPL_BLOCKS; rows = λ i slot h k. cell-none (SLOT_BITS + 8 * i + slot) }

header-clear : clear (counts []) header ≡ true
unfolding clear header syncinfo bsi_size ◌⧺◌
header-clear = refl

header-zero : (s : List ℕ) (h : State) → (headed eac3 s).result ≡ accepted h → Zero h.cells
header-zero s h e = zero-stays start.cells h.cells ((walk-by s 48 (omega arith) (counts []) header header-clear start 0 [] start-within (omega arith)).ends h (headed-gives s h e)).changed start-zero

-- after the use of coupling in k blocks and the bits of j blocks
abbrev framed : Ranges → Ranges
framed rs = counts ((CPLINUS, CPLINUS + 5) ∷ (NUMBLKS, NUMBLKS) ∷ rs)

record Counts (n k j : ℕ) (a : State) (q : ℕ) (es : List Entry) : Type 0 where
  within : Within a.cells
  blocks : cell_of a.cells NUMBLKS ≡ n
  few : cell_of a.cells CPL_BLOCKS ≤ k
  counted : (i : ℕ) → i < k → flag_of a.cells (CPLINUS + i) ≡ true → 0 < cell_of a.cells CPL_BLOCKS
  past : (i slot : ℕ) → j ≤ i → i < 6 → slot < 7 → slot_bits a.cells i slot ≡ 0
  far : q ≤ farthest

counts-stay : (rs : Ranges) (n k j : ℕ) (a b : State) (q r : ℕ) (es fs : List Entry) → k ≤ 6 → Changed (leaves (framed rs)) a.cells b.cells → r ≤ farthest → Counts n k j a q es → Counts n k j b r fs
counts-stay rs n k j a b q r es fs o g f c =
    let x = a.cells in
    let y = b.cells in
    let e : cell_of y CPL_BLOCKS ≡ cell_of x CPL_BLOCKS = leaves-same (framed rs) x y CPL_BLOCKS g (omega arith) (inl (omega arith, omega arith)) in
    record {
      within = g.within;
      blocks = leaves-same (framed rs) x y NUMBLKS g (omega arith) (inr (inr (inr (inl (omega arith, omega arith))))) ∙ c.blocks;
      few = omega (arith, c.few);
      counted = λ i h t. let z = c.counted i h (ap (λ v. eqb v 1) (sym (leaves-same (framed rs) x y (CPLINUS + i) g (omega arith) (inr (inr (inl (omega arith, omega arith)))))) ∙ t) in omega arith;
      past = λ i slot h l u. leaves-same (framed rs) x y (SLOT_BITS + 8 * i + slot) g (omega arith) (inr (inl (omega arith, omega arith))) ∙ c.past i slot h l u;
      far = f;
    }

-- inside the block j: its number, then its use of coupling
abbrev numbered : Ranges → Ranges
numbered rs = framed ((BLK, BLK) ∷ rs)

record Numbered (n k j : ℕ) (a : State) (q : ℕ) (es : List Entry) : Type 0 where
  counts_of : Counts n k j a q es
  few : j < 6
  most : k ≤ suc j
  blk : cell_of a.cells BLK ≡ j

numbered-stays : (rs : Ranges) (n k j : ℕ) (a b : State) (q r : ℕ) (es fs : List Entry) → Changed (leaves (numbered rs)) a.cells b.cells → r ≤ farthest → Numbered n k j a q es → Numbered n k j b r fs
numbered-stays rs n k j a b q r es fs g f c = record {
  counts_of = counts-stay ((BLK, BLK) ∷ rs) n k j a b q r es fs (let z = c.most in let y = c.few in omega arith) g f c.counts_of;
  few = c.few;
  most = c.most;
  blk = leaves-same (numbered rs) a.cells b.cells BLK g (omega arith) (inr (inr (inr (inr (inl (omega arith, omega arith)))))) ∙ c.blk;
}

abbrev coupled_too : Ranges
coupled_too = numbered ((CPLINU, CPLINU) ∷ [])

record Coupled (n j : ℕ) (a : State) (q : ℕ) (es : List Entry) : Type 0 where
  inside : Numbered n j j a q es
  cplinu : cell_of a.cells CPLINU ≡ cell_of a.cells (CPLINUS + j)

coupled-stays : (n j : ℕ) (a b : State) (q r : ℕ) (es fs : List Entry) → Changed (leaves coupled_too) a.cells b.cells → r ≤ farthest → Coupled n j a q es → Coupled n j b r fs
coupled-stays n j a b q r es fs g f c = record {
  inside = numbered-stays ((CPLINU, CPLINU) ∷ []) n j j a b q r es fs g f c.inside;
  cplinu = leaves-same coupled_too a.cells b.cells CPLINU g (omega arith) (inr (inr (inr (inr (inr (inl (omega arith, omega arith))))))) ∙ c.cplinu
      ∙ sym (leaves-same coupled_too a.cells b.cells (CPLINUS + j) g (let z = c.inside.few in omega arith) (inr (inr (inl (omega arith, let z = c.inside.few in omega arith)))));
}

in-numbered : (n k j : ℕ) → Stays (numbered []) (Numbered n k j)
in-numbered n k j = record { within = λ a q es c. (c.counts_of.within, c.counts_of.far); stays = λ a b q r es fs g h f c. numbered-stays [] n k j a b q r es fs g f c }

in-coupled : (n j : ℕ) → Stays coupled_too (Coupled n j)
in-coupled n j = record { within = λ a q es c. (c.inside.counts_of.within, c.inside.counts_of.far); stays = λ a b q r es fs g h f c. coupled-stays n j a b q r es fs g f c }

-- of the whole frame
record Zeros (a : State) (q : ℕ) (es : List Entry) : Type 0 where
  uncoupled : cell_of a.cells CPL_BLOCKS ≡ 0 → (j : ℕ) → j < cell_of a.cells NUMBLKS → flag_of a.cells (CPLINUS + j) ≡ false
  past : (j slot : ℕ) → cell_of a.cells NUMBLKS ≤ j → j < 6 → slot < 7 → slot_bits a.cells j slot ≡ 0

zeros_of : (n : ℕ) (a : State) (q : ℕ) (es : List Entry) → Counts n n n a q es → Zeros a q es
zeros_of n a q es c = record {
  uncoupled = λ z j h. go (flag_of a.cells (CPLINUS + j)) (c.counted j (omega (arith, c.blocks))) z;
  past = λ j slot h k o. c.past j slot (omega (arith, c.blocks)) k o;
}
  where
    go : (b : Bool) → (b ≡ true → 0 < cell_of a.cells CPL_BLOCKS) → cell_of a.cells CPL_BLOCKS ≡ 0 → b ≡ false
    go true f z = absurd (let y = f refl in let o : ⊥ = omega arith in o)
    go false f z = refl

module _ (s : List ℕ) (l : ℕ) (short : l ≤ farthest) where
  first-sections : List Block
  first-sections = dynamics ∷ spx_strategy ∷ spx_coordinates ∷ []

  first-clear : all_clear (numbered []) first-sections ≡ true
  unfolding all_clear first-sections clear dynamics spx_strategy spx_coordinates
  first-clear = refl

  last-sections : List Block
  last-sections = rematrixing ∷ bandwidth ∷ exponents_of_block ∷ parameters ∷ deltas ∷ skip_field ∷ []

  last-clear : all_clear (numbered []) last-sections ≡ true
  unfolding all_clear last-sections clear rematrixing bandwidth exponents_of_block parameters deltas skip_field
  last-clear = refl

  -- its use of coupling is put
  may-cplinu : may (leaves (numbered [])) CPLINU 0 0 1 ≡ true
  unfolding clear
  may-cplinu = refl

  strategy-walk : (n j : ℕ) (st : State) (p : ℕ) (es : List Entry) → Numbered n j j st p es → Walks s l Any cpl_strategy st p es (Coupled n j)
  unfolding cpl_strategy clear Any
  strategy-walk n j st p es c =
      walks_next s l Any _ _ st p es {M = Coupled n j} tt
      (walked_put s l Any _ _ st p es
      (let m = st.cells in
      let g = cplinu-put (numbered []) may-cplinu m j c.counts_of.within c.few c.blk in
      let few = c.few in
      record {
        inside = numbered-stays [] n j j st (state (cplinu_put m) st.bins) p p es es g.0 c.counts_of.far c;
        cplinu = g.1 ∙ sym (leaves-same (numbered []) m (cplinu_put m) (CPLINUS + j) g.0 (omega arith) (inr (inr (inl (omega arith, omega arith)))));
      }))
      (λ a q fs d. walk-on s l short coupled_too (Coupled n j) (in-coupled n j) _ refl a q fs d)

  -- it is counted
  abbrev others : Ranges
  others = (SLOT_BITS, SLOT_BITS + 47) ∷ (CPLINUS, CPLINUS + 5) ∷ (NUMBLKS, NUMBLKS) ∷ (BLK, BLK) ∷ []

  may-count : may (leaves others) CPL_BLOCKS 0 0 65535 ≡ true
  unfolding clear
  may-count = refl

  coordinates-walk : (n j : ℕ) (st : State) (p : ℕ) (es : List Entry) → Coupled n j st p es → Walks s l Any cpl_coordinates st p es (Numbered n (suc j) j)
  unfolding cpl_coordinates clear Any
  coordinates-walk n j st p es c =
      walks_next s l Any _ _ st p es {M = Numbered n (suc j) j} tt
      (walked-when s l Any _ _ st p es
      (λ _. walks_next s l Any _ _ st p es {M = Numbered n (suc j) j} tt (walked_put s l Any _ _ st p es counting)
      (λ a q fs d. walk-on s l short (numbered []) (Numbered n (suc j) j) (in-numbered n (suc j) j) _ refl a q fs d))
      (λ e. record { counts_of = record { within = w; blocks = C.blocks; few = omega (arith, C.few); counted = λ i h t. same e i (ℕ_discrete i j) h t; past = C.past; far = C.far }; few = I.few; most = omega arith; blk = I.blk }))
      (λ a q fs d. walks-end s l Any a q fs d)
    where
      m : List ℕ
      m = st.cells

      I : Numbered n j j st p es
      I = c.inside

      C : Counts n j j st p es
      C = I.counts_of

      w : Within m
      w = C.within

      v : ℕ
      v = 1 + 1 * held_of (cell CPL_BLOCKS) m

      counting : Numbered n (suc j) j (stored st (place_of (cell CPL_BLOCKS) m) v) p es
      counting =
          let k : place_of (cell CPL_BLOCKS) m ≡ CPL_BLOCKS = place-cell CPL_BLOCKS m in
          let b : held_of (cell CPL_BLOCKS) m ≡ cell_of m CPL_BLOCKS = held-cell CPL_BLOCKS m in
          let few = I.few in
          let low = C.few in
          let y = put_in m (place_of (cell CPL_BLOCKS) m) v in
          let g : Changed (leaves others) m y = puts (leaves others) m (place_of (cell CPL_BLOCKS) m) v CPL_BLOCKS 0 0 65535 w may-count (omega arith) (omega arith) (omega arith) (omega arith) in
          let e : cell_of y CPL_BLOCKS ≡ suc (cell_of m CPL_BLOCKS) = subst (λ n. cell_of (put_in m n v) CPL_BLOCKS ≡ suc (cell_of m CPL_BLOCKS)) (sym k) (cell_at m CPL_BLOCKS v w.sized (omega arith) (omega arith) ∙ (let z : v % 65536 ≡ suc (cell_of m CPL_BLOCKS) = omega arith in z)) in
          record {
            counts_of = record {
              within = g.within;
              blocks = leaves-same others m y NUMBLKS g (omega arith) (inr (inr (inl (omega arith, omega arith)))) ∙ C.blocks;
              few = omega arith;
              counted = λ i h t. omega arith;
              past = λ i slot h o u. leaves-same others m y (SLOT_BITS + 8 * i + slot) g (omega arith) (inl (omega arith, omega arith)) ∙ C.past i slot h o u;
              far = C.far;
            };
            few = I.few;
            most = omega arith;
            blk = leaves-same others m y BLK g (omega arith) (inr (inr (inr (inl (omega arith, omega arith))))) ∙ I.blk;
          }

      same : holds_of (Is (cell CPLINU) 1) m ≡ false → (i : ℕ) → Dec (i ≡ j) → i < suc j → flag_of m (CPLINUS + i) ≡ true → 0 < cell_of m CPL_BLOCKS
      same e i (yes z) h t = absurd (is_false CPLINU 1 m e (c.cplinu ∙ ap (λ n. cell_of m (CPLINUS + n)) (sym z) ∙ eqb-true (cell_of m (CPLINUS + i)) 1 t))
      same e i (no z) h t = C.counted i (omega arith) t

  -- the bits of its slots are kept
  pass-read : fits_derived (leaves ((CPL_BLOCKS, CPL_BLOCKS) ∷ (CPLINUS, CPLINUS + 5) ∷ (NUMBLKS, NUMBLKS) ∷ [])) AhtRead ≡ true
  unfolding clear
  pass-read = refl

  after_read : (n j : ℕ) (st : State) (p : ℕ) (es : List Entry) → Numbered n (suc j) j st p es → Counts n (suc j) (suc j) (derived AhtRead st).st p es
  after_read n j st p es c =
      let C = c.counts_of in
      let x = st.cells in
      let y = (derived AhtRead st).st.cells in
      let few = c.few in
      let rs : Ranges = (CPL_BLOCKS, CPL_BLOCKS) ∷ (CPLINUS, CPLINUS + 5) ∷ (NUMBLKS, NUMBLKS) ∷ [] in
      let g : Changed (leaves rs) x y = derived-changes (leaves rs) AhtRead st C.within pass-read in
      let e : cell_of y CPL_BLOCKS ≡ cell_of x CPL_BLOCKS = leaves-same rs x y CPL_BLOCKS g (omega arith) (inl (omega arith, omega arith)) in
      record {
        within = g.within;
        blocks = leaves-same rs x y NUMBLKS g (omega arith) (inr (inr (inl (omega arith, omega arith)))) ∙ C.blocks;
        few = omega (arith, C.few);
        counted = λ i h t. let z = C.counted i h (ap (λ v. eqb v 1) (sym (leaves-same rs x y (CPLINUS + i) g (omega arith) (inr (inl (omega arith, omega arith))))) ∙ t) in omega arith;
        past = λ i slot h k o. subst (λ m. slot_bits m i slot ≡ 0) (sym (read_is st)) (row_stays x C.within j c.blk few i slot k (λ z. omega arith) o ∙ C.past i slot (omega arith) k o);
        far = C.far;
      }

  quantized-walk : (n j : ℕ) (st : State) (p : ℕ) (es : List Entry) → Numbered n (suc j) j st p es → Walks s l Any quantized st p es (Counts n (suc j) (suc j))
  unfolding quantized first_items after_items clear Any
  quantized-walk n j st p es c =
      subst (λ b. Walks s l Any b st p es (Counts n (suc j) (suc j))) (first-after 3 quantized)
      (walks-append s l Any (first_items 3 quantized) (after_items 3 quantized) st p es {M = Numbered n (suc j) j}
      (walk-on s l short (numbered []) (Numbered n (suc j) j) (in-numbered n (suc j) j) (first_items 3 quantized) refl st p es c)
      (λ a q fs d. walks_next s l Any _ _ a q fs {M = Counts n (suc j) (suc j)} tt (walked-derive s l Any AhtRead a q fs (λ _. after_read n j a q fs d))
      (λ b r gs e. walks-end s l Any b r gs e)))

  block-walk : (n j : ℕ) (st : State) (p : ℕ) (es : List Entry) → Numbered n j j st p es → Walks s l Any audblk st p es (Counts n (suc j) (suc j))
  unfolding audblk joined first-sections last-sections
  block-walk n j st p es c =
      pass s l short (numbered []) (Numbered n j j) (in-numbered n j j) first-sections (cpl_strategy ⧺ (cpl_coordinates ⧺ joined last-sections quantized)) first-clear st p es c
      (λ a q fs d. walks-append s l Any cpl_strategy (cpl_coordinates ⧺ joined last-sections quantized) a q fs (strategy-walk n j a q fs d)
      (λ b r gs e. walks-append s l Any cpl_coordinates (joined last-sections quantized) b r gs (coordinates-walk n j b r gs e)
      (λ x u hs i. pass s l short (numbered []) (Numbered n (suc j) j) (in-numbered n (suc j) j) last-sections quantized last-clear x u hs i (λ y v is o. quantized-walk n j y v is o))))

  may-blk : may (leaves (framed [])) BLK 0 0 5 ≡ true
  unfolding clear
  may-blk = refl

  turn-walk : (n j : ℕ) (a : State) (q : ℕ) (fs : List Entry) → n ≤ 6 → j < n → Counts n j j a q fs → Walks s l Any audblk (stored a BLK j) q fs (Counts n (suc j) (suc j))
  turn-walk n j a q fs few h c =
      let m = a.cells in
      let g : Changed (leaves (framed [])) m (put_in m BLK j) = puts (leaves (framed [])) m BLK j BLK 0 0 5 c.within may-blk (omega arith) (omega arith) (omega arith) (omega arith) in
      block-walk n j (stored a BLK j) q fs
      (record {
        counts_of = counts-stay [] n j j a (stored a BLK j) q q fs fs (omega arith) g c.far c;
        few = omega arith;
        most = omega arith;
        blk = cell_at m BLK j c.within.sized (omega arith) (omega arith) ∙ (let z : j % 65536 ≡ j = omega arith in z);
      })

  blocks-walk : (st : State) (p : ℕ) (es : List Entry) → Within st.cells → Zero st.cells → p ≤ farthest → Walks s l Any audblks st p es Zeros
  unfolding audblks clear Any
  blocks-walk st p es w z f =
      let n = cell_of st.cells NUMBLKS in
      let e = held-cell NUMBLKS st.cells in
      let k : n ≤ 6 = omega (arith, w.below NUMBLKS, numblks-most) in
      let o = cell-zero st.cells in
      walks_next s l Any _ _ st p es {M = Counts n n n} tt
      (walked-each s l Any BLK _ _ _ st p es (λ j a q fs. (j ≤ n) × Counts n j j a q fs) (
        omega arith,
        record { within = w; blocks = refl; few = omega (arith, z.uncounted); counted = λ i h t. absurd (let y : ⊥ = omega arith in y); past = λ i slot h k u. z.rows i slot k u; far = f },
      )
      (λ j a q fs i c. walks-map s l Any (λ b r gs d. (omega arith, d)) (turn-walk n j a q fs k (omega arith) c.1))
      (λ j a q fs i c. let y = c.0 in let x : j ≡ n = omega arith in subst (λ j. Counts n j j a q fs) x c.1))
      (λ a q fs c. walks-map s l Any (λ b r gs d. zeros_of n b r gs (counts-stay [] n n n a b q r fs gs k d.changed d.far c)) (walk-by s l short (framed []) _ refl a q fs c.within c.far))

  bsi-clear : clear (counts []) bsi ≡ true
  unfolding clear bsi mixing_metadata mixdef3 informational_metadata ◌⧺◌
  bsi-clear = refl

  audfrm-clear : clear (counts []) audfrm ≡ true
  unfolding clear audfrm flags coupling strategies hybrid offsets ◌⧺◌
  audfrm-clear = refl

  body-walk : (st : State) (p : ℕ) (es : List Entry) → Within st.cells → Zero st.cells → p ≤ farthest → Walks s l Any body st p es Zeros
  unfolding body
  body-walk st p es w z f =
      walks-append s l Any bsi _ st p es (walk-by s l short (counts []) bsi bsi-clear st p es w f)
      (λ a q fs c. walks-append s l Any audfrm _ a q fs (walk-by s l short (counts []) audfrm audfrm-clear a q fs c.changed.within c.far)
      (λ b r gs d. blocks-walk b r gs d.changed.within (zero-stays a.cells b.cells d.changed (zero-stays st.cells a.cells c.changed z)) d.far))

-- whatever the buffer, of a body that is read to its end
ends : AfterBody Zeros
ends = body-ends Zeros (λ s h e short p es f. body-walk s (8 * bytes_of h) short h p es (header-within s h e) (header-zero s h e) f)

pub other-blocks-have-none : OtherBlocksHaveNone
other-blocks-have-none s h st e d j slot k b o = (ends s h st e d).past j slot (omega arith) b o

-- where cpl_blocks is 0, no block uses coupling
pub none-coupled : AtBodyEnd (λ m. cell_of m CPL_BLOCKS ≡ 0 → (j : ℕ) → j < cell_of m NUMBLKS → flag_of m (CPLINUS + j) ≡ false)
none-coupled s h st e d = (ends s h st e d).uncoupled
