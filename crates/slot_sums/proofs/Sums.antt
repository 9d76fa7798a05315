-- The bits of the slots of a block add up to the width of its mantissas record, and a slot that is not in use or was read before has none: kept block by block.
-- Assumes nothing.
use mathlib.Core.Path.{◌≡◌, refl, ap, sym, ◌∙◌, subst}
use mathlib.Core.Bool.{true, ◌&&◌}
use mathlib.Core.List.{List, [], ◌∷◌}
use mathlib.Core.Logic.{◌⊎◌, inl, inr}
use Prim.Native.Nat.{ℕ, zero, suc, ◌+◌, ◌-◌, ◌*◌, ◌%◌, ◌≤◌, ◌<◌}
use native.Mathlib.Omega.{arith}
use native.Mathlib.Decide.{ℕ_discrete, dec_lt}
use lib.IntN.{pos}
use lib.Dec.{eqb}
use borrow.Author.Tests.{ne_eqb}
use lib.ListN.{length, get_or, drop, length-drop}
use Rattle.reading.specs.Run.{Entry, region}
use Rattle.names.specs.Names.{mantissas as mantissas-of-block}
use Rattle.tables.specs.Small.{nfchans}
use Rattle.slots.specs.Slots.{CPL, LFE}
use Rattle.cells.specs.Cells.{State, state, cell_of, put_in, puts_in, stored, stored_all, place_of, held_of, signed, part_of}
use Rattle.cells.specs.Names.{ACMOD, AHT_READ, AHT_TAGS, AHTINU, BLK, BLOCK, CHINCPL, CPLINU, CPLINUS, LFEON, NFCHANS, NUMBLKS, SLOT_BITS, TAGS}
use Rattle.sideinfo.specs.Steps.{sum_of, each_of}
use Rattle.sideinfo.specs.Frames.{nfchans_by}
use Rattle.sideinfo.specs.Blocks.{flag_of, channels_of, read_of, slot_bits_of, aht_read_by}
use Rattle.derivations.specs.Derivations.{AhtRead, Nfchans, derived}
use Rattle.rows.specs.Syntax.{Block, ◌⧺◌, mantissas, cell, at, none}
use Rattle.annex.specs.Bsi.{mixing_metadata, mixdef3, informational_metadata, bsi}
use Rattle.annex.specs.Audfrm.{flags, coupling, strategies, hybrid, offsets, audfrm}
use Rattle.annex.specs.Audblk.{dynamics, spx_strategy, spx_coordinates, cpl_strategy, cpl_coordinates, rematrixing, bandwidth, exponents_of_block, parameters, deltas, skip_field, quantized, audblk}
use Rattle.annex.specs.Annex.{audblks, body}
use Rattle.annex.specs.Frame.{bytes_of}
use Rattle.bounds.specs.Along.{Among}
use Rattle.bounds.specs.Bounds.{bounds, most_in, most, tags_most, Within}
use Rattle.outcomes.specs.Outcomes.{farthest}
use Rattle.cells.proofs.Cells.{put-sized}
use Rattle.bounds.proofs.Cells.{cell-zero, cell_at, cell-beside}
use Rattle.bounds.proofs.Bounds.{most-word, numblks-most, may, Changed, puts, most_over, most-over}
use Rattle.bounds.proofs.Bounded.{header-within}
use Rattle.bounds.proofs.Derived.{nfchans-most, fits_derived, derived-changes}
use Rattle.bounds.proofs.Fits.{told-changes}
use Rattle.bounds.proofs.Spent.{total}
use Rattle.bounds.proofs.Walking.{Grows, grows-refl, Walks, Walked, walks-end, walks_next, walks-map, walks-append, walked-mantissas, walked-derive, walked_put, walked-each}
use Rattle.unmet.proofs.Leaves.{Ranges, leaves, leaves-same, first_items, after_items, first-after, place-cell, place_at, held-cell}
use Rattle.slot_sums.specs.SlotSums.{slot_bits, Adds, SlotsAddUp}
use Rattle.slot_sums.specs.NoBits.{bits_told, NoBits, AtBodyEnd, UnusedHaveNone}
use Rattle.slot_sums.proofs.NoBits.{unasked-take-none}
use Rattle.slot_sums.proofs.Sections.{clear, all_clear, Any, joined, After, Stays, walk-by, walk-on, pass, AfterBody, body-ends}
use Rattle.slot_sums.proofs.Unused.{Unused, unused-told, Alike, unused-alike, marks, reads-each, all_read, all_keep, taken-marked, Settled, no-bits-stay, Marked, marked-stay}

-- what the frame says of its blocks: numblks, acmod, nfchans and lfeon, cplinu of each block, ahtinu of each slot
abbrev settled : Ranges → Ranges
settled rs = (NUMBLKS, LFEON) ∷ (CPLINUS, CPLINUS + 5) ∷ (AHTINU, AHTINU + 6) ∷ rs

-- the rows of the slots' bits, and the marks of the slots that were read; inside a block its number, then its use of coupling; at its mantissas the coupled channels
abbrev rows_read : Ranges → Ranges
rows_read rs = (SLOT_BITS, SLOT_BITS + 47) ∷ (AHT_READ, AHT_READ + 6) ∷ rs

abbrev ending : Ranges → Ranges
ending rs = settled (rows_read rs)

abbrev kept : Ranges → Ranges
kept rs = ending ((BLOCK, BLK) ∷ rs)

abbrev kept_coupled : Ranges → Ranges
kept_coupled rs = kept ((CPLINU, CPLINU) ∷ rs)

abbrev kept_channels : Ranges
kept_channels = kept_coupled ((CHINCPL, CHINCPL + 4) ∷ [])

pub sum_same : (f g : ℕ → ℕ) (n : ℕ) → ((i : ℕ) → i < n → f i ≡ g i) → sum_of f n ≡ sum_of g n
unfolding sum_of
sum_same f g zero h = refl
sum_same f g (suc n) h = let r = sum_same f g n (λ i k. h i (omega arith)) in let z = h n (omega arith) in omega arith

adds-by : (x y : List ℕ) (es fs : List Entry) (j : ℕ) → ((i : ℕ) → i < 7 → slot_bits y j i ≡ slot_bits x j i) → Grows es fs → Adds x es j → Adds y fs j
adds-by x y es fs j h g a = record {
  entry = a.entry;
  among = g.keeps a.entry a.among;
  name = a.name;
  block = a.block;
  width = a.width ∙ sum_same _ _ _ (λ i k. sym (h i (omega arith)));
}

settled-by : (rs : Ranges) (x y : List ℕ) → Changed (leaves (settled rs)) x y → Settled x y
settled-by rs x y g = record {
  nfchans = leaves-same (settled rs) x y NFCHANS g (omega arith) (inl (omega arith, omega arith));
  lfeon = leaves-same (settled rs) x y LFEON g (omega arith) (inl (omega arith, omega arith));
  cplinus = λ i h. leaves-same (settled rs) x y (CPLINUS + i) g (omega arith) (inr (inl (omega arith, omega arith)));
  ahtinu = λ slot h. leaves-same (settled rs) x y (AHTINU + slot) g (omega arith) (inr (inr (inl (omega arith, omega arith))));
}

-- the number of blocks stays; the channels are those of acmod
blocks-stay : (rs : Ranges) (x y : List ℕ) → Changed (leaves (settled rs)) x y → cell_of y NUMBLKS ≡ cell_of x NUMBLKS
blocks-stay rs x y g = leaves-same (settled rs) x y NUMBLKS g (omega arith) (inl (omega arith, omega arith))

abbrev ByAcmod : List ℕ → Type 0
ByAcmod m = cell_of m NFCHANS ≡ get_or nfchans (cell_of m ACMOD) 0

acmod-stays : (l h : ℕ) (rs : Ranges) (x y : List ℕ) → l ≤ ACMOD → NFCHANS ≤ h → Changed (leaves ((l, h) ∷ rs)) x y → ByAcmod x → ByAcmod y
acmod-stays l h rs x y i j g e =
    leaves-same ((l, h) ∷ rs) x y NFCHANS g (omega arith) (inl (omega arith, omega arith)) ∙ e
    ∙ ap (λ n. get_or nfchans n 0) (sym (leaves-same ((l, h) ∷ rs) x y ACMOD g (omega arith) (inl (omega arith, omega arith))))

channels-stay : (rs : Ranges) (x y : List ℕ) → Changed (leaves (settled rs)) x y → ByAcmod x → ByAcmod y
channels-stay rs x y = acmod-stays NUMBLKS LFEON ((CPLINUS, CPLINUS + 5) ∷ (AHTINU, AHTINU + 6) ∷ rs) x y (omega arith) (omega arith)

-- what holds of a block that was read
record Row (m : List ℕ) (es : List Entry) (i : ℕ) : Type 0 where
  adds : Adds m es i
  empty : NoBits m i
  marks-set : Marked m i

row-stay : (rs : Ranges) (x y : List ℕ) (es fs : List Entry) (i : ℕ) → i < 6 → Changed (leaves (ending rs)) x y → Grows es fs → Row x es i → Row y fs i
row-stay rs x y es fs i h g k r = record {
  adds = adds-by x y es fs i (λ slot o. same i slot h o) k r.adds;
  empty = no-bits-stay x y i h s (λ b slot l o. same b slot (omega arith) o) r.empty;
  marks-set = marked-stay x y i s (λ slot o. same i slot h o)
      (λ slot o e. leaves-same (ending rs) x y (AHT_READ + slot) g (omega arith) (inr (inr (inr (inr (inl (omega arith, omega arith)))))) ∙ e) r.marks-set;
}
  where
    s : Settled x y
    s = settled-by _ x y g

    same : (b slot : ℕ) → b < 6 → slot < 7 → slot_bits y b slot ≡ slot_bits x b slot
    same b slot l o = leaves-same (ending rs) x y (SLOT_BITS + 8 * b + slot) g (omega arith) (inr (inr (inr (inl (omega arith, omega arith)))))

-- numbers put one after another
puts-beside : (vs m : List ℕ) (k c : ℕ) → c < k → k + length vs ≤ 1024 → cell_of (puts_in m k vs) c ≡ cell_of m c
unfolding puts_in
puts-beside [] m k c h i = refl
puts-beside (v ∷ vs) m k c h i = puts-beside vs (put_in m k v) (suc k) c (omega arith) (omega arith) ∙ cell-beside m k v c (omega arith) (omega arith) (λ z. omega arith)

puts-at : (vs m : List ℕ) (k i : ℕ) → length m ≡ 1024 → 0 < k → k + length vs ≤ 1024 → i < length vs → cell_of (puts_in m k vs) (k + i) ≡ get_or vs i 0 % 65536
unfolding puts_in
puts-at [] m k i e z h b = absurd (let o : ⊥ = omega arith in o)
puts-at (v ∷ vs) m k zero e z h b =
    let y : k + 0 ≡ k = omega arith in
    subst (λ n. cell_of (puts_in (put_in m k v) (suc k) vs) n ≡ v % 65536) (sym y) (puts-beside vs (put_in m k v) (suc k) k (omega arith) (omega arith) ∙ cell_at m k v e z (omega arith))
puts-at (v ∷ vs) m k (suc i) e z h b =
    let y : k + suc i ≡ suc k + i = omega arith in
    subst (λ n. cell_of (puts_in (put_in m k v) (suc k) vs) n ≡ get_or vs i 0 % 65536) (sym y) (puts-at vs (put_in m k v) (suc k) i (put-sized m k v ∙ e) (omega arith) (omega arith) (omega arith))

get_d_drop : (xs : List ℕ) (i : ℕ) → get_or xs (suc i) 0 ≡ get_or (drop 1 xs) i 0
get_d_drop [] i = refl
get_d_drop (x ∷ xs) i = refl

-- a sum of entries
sum-front : (f : ℕ → ℕ) (n : ℕ) → sum_of f (suc n) ≡ f 0 + sum_of (λ i. f (suc i)) n
unfolding sum_of
sum-front f zero = omega arith
sum-front f (suc n) = let r = sum-front f n in omega arith

total-is : (xs : List ℕ) → sum_of (λ i. get_or xs i 0) (length xs) ≡ total xs
unfolding sum_of total
total-is [] = refl
total-is (x ∷ xs) = sum-front (λ i. get_or (x ∷ xs) i 0) (length xs) ∙ ap (λ n. x + n) (total-is xs)

entry-most : (xs : List ℕ) (i : ℕ) → get_or xs i 0 ≤ total xs
unfolding total
entry-most [] i = omega arith
entry-most (x ∷ xs) zero = omega arith
entry-most (x ∷ xs) (suc i) = let r = entry-most xs i in omega arith

-- the bits of the slots, put into the row of the block j
module _ (m : List ℕ) (j : ℕ) (sized : length m ≡ 1024) (blk : cell_of m BLK ≡ j) (few : j < 6) where
  row_sized : (n : ℕ) → length (each_of slot_bits_of n m) ≡ 1024
  unfolding each_of
  row_sized zero = sized
  row_sized (suc n) = put-sized (each_of slot_bits_of n m) _ _ ∙ row_sized n

  row-beside : (n c : ℕ) → n ≤ 7 → c < 1024 → (c < SLOT_BITS + 8 * j) ⊎ (SLOT_BITS + 8 * j + n ≤ c) → cell_of (each_of slot_bits_of n m) c ≡ cell_of m c
  unfolding each_of
  row-beside zero c k b o = refl
  row-beside (suc n) c k b o =
      let y = each_of slot_bits_of n m in
      let e : cell_of y BLK ≡ j = row-beside n BLK (omega arith) (omega arith) (inl (omega arith)) ∙ blk in
      cell-beside y (SLOT_BITS + 8 * cell_of y BLK + n) _ c b (omega arith) (away o e) ∙ row-beside n c (omega arith) b (less o)
    where
      less : (c < SLOT_BITS + 8 * j) ⊎ (SLOT_BITS + 8 * j + suc n ≤ c) → (c < SLOT_BITS + 8 * j) ⊎ (SLOT_BITS + 8 * j + n ≤ c)
      less (inl h) = inl h
      less (inr h) = inr (omega arith)

      away : (c < SLOT_BITS + 8 * j) ⊎ (SLOT_BITS + 8 * j + suc n ≤ c) → {x : ℕ} → x ≡ j → ¬ (c ≡ SLOT_BITS + 8 * x + n)
      away (inl h) e z = omega arith
      away (inr h) e z = omega arith

  row_at : ((c : ℕ) → cell_of m c ≤ 65535) → (n i : ℕ) → n ≤ 7 → i < n → cell_of (each_of slot_bits_of n m) (SLOT_BITS + 8 * j + i) ≡ cell_of m (TAGS + 1 + i)
  unfolding each_of
  row_at w zero i k h = absurd (let o : ⊥ = omega arith in o)
  row_at w (suc n) i k h = go (ℕ_discrete i n) (λ o. row_at w n i (omega arith) o)
    where
      y : List ℕ
      y = each_of slot_bits_of n m

      e : cell_of y BLK ≡ j
      e = row-beside n BLK (omega arith) (omega arith) (inl (omega arith)) ∙ blk

      v : cell_of y (TAGS + 1 + n) ≡ cell_of m (TAGS + 1 + n)
      v = row-beside n (TAGS + 1 + n) (omega arith) (omega arith) (inl (omega arith))

      go : Dec (i ≡ n) → (i < n → cell_of y (SLOT_BITS + 8 * j + i) ≡ cell_of m (TAGS + 1 + i)) → cell_of (slot_bits_of n y) (SLOT_BITS + 8 * j + i) ≡ cell_of m (TAGS + 1 + i)
      go (yes z) r =
          let a : SLOT_BITS + 8 * j + i ≡ SLOT_BITS + 8 * cell_of y BLK + n = omega (arith, e) in
          subst (λ c. cell_of (slot_bits_of n y) c ≡ cell_of m (TAGS + 1 + i)) (sym a)
          (cell_at y (SLOT_BITS + 8 * cell_of y BLK + n) (cell_of y (TAGS + 1 + n)) (row_sized n) (omega arith) (omega (arith, e))
          ∙ (let u = w (TAGS + 1 + n) in let x : cell_of y (TAGS + 1 + n) % 65536 ≡ cell_of m (TAGS + 1 + n) = omega (arith, v) in x)
          ∙ ap (λ t. cell_of m (TAGS + 1 + t)) (sym z))
      go (no z) r = cell-beside y (SLOT_BITS + 8 * cell_of y BLK + n) _ (SLOT_BITS + 8 * j + i) (omega arith) (omega (arith, e)) (λ o. z (omega (arith, e))) ∙ r (omega arith)

-- what follows the mantissas: the row of the block is what their walk told, the rows of other blocks stay
module _ (m : List ℕ) (w : Within m) (j : ℕ) (blk : cell_of m BLK ≡ j) (few : j < 6) where
  abbrev tagged : List ℕ
  tagged = put_in m AHT_TAGS (cell_of m AHT_TAGS + cell_of m TAGS)

  may-tags : may (leaves []) AHT_TAGS 0 0 65535 ≡ true
  unfolding clear
  may-tags = refl

  tagged-changes : Changed (leaves []) m tagged
  tagged-changes = puts (leaves []) m AHT_TAGS _ AHT_TAGS 0 0 65535 w may-tags (omega arith) (omega arith) (omega arith) (omega arith)

  tagged-same : (c : ℕ) → c < 1024 → ¬ (c ≡ AHT_TAGS) → cell_of tagged c ≡ cell_of m c
  tagged-same c b o = cell-beside m AHT_TAGS _ c b (omega arith) o

  tagged-blk : cell_of tagged BLK ≡ j
  tagged-blk = tagged-same BLK (omega arith) (λ z. omega arith) ∙ blk

  tagged-word : (c : ℕ) → cell_of tagged c ≤ 65535
  tagged-word c = omega (arith, tagged-changes.within.below c, most-word c)

  abbrev filled_row : List ℕ
  filled_row = each_of slot_bits_of 7 tagged

  read-is-all : aht_read_by m ≡ all_read (channels_of m) filled_row
  unfolding aht_read_by
  read-is-all = refl

  read-other : (c : ℕ) → c < 1024 → AHT_READ + 6 < c → cell_of (aht_read_by m) c ≡ cell_of filled_row c
  read-other c h o =
      let z = each_of read_of (channels_of m) filled_row in
      ap (λ x. cell_of x c) read-is-all ∙ marks (flag_of z LFEON && flag_of z (AHTINU + 6)) z 6 c (omega arith) h (inr o) ∙ reads-each (channels_of m) filled_row c (omega arith) h (inr o)

  -- before the rows and the tags nothing but marks is put
  filled-before : (c : ℕ) → 0 < c → c < TAGS → cell_of filled_row c ≡ cell_of m c
  filled-before c o h = row-beside tagged j tagged-changes.within.sized tagged-blk few 7 c (omega arith) (omega arith) (inl (omega arith)) ∙ tagged-same c (omega arith) (λ z. omega arith)

  filled-sized : length filled_row ≡ 1024
  filled-sized = row_sized tagged j tagged-changes.within.sized tagged-blk few 7

  read_keeps : (slot : ℕ) → slot < 7 → cell_of m (AHT_READ + slot) ≡ 1 → cell_of (aht_read_by m) (AHT_READ + slot) ≡ 1
  read_keeps slot h e =
      ap (λ x. cell_of x (AHT_READ + slot)) read-is-all
      ∙ all_keep (channels_of m) slot filled_row filled-sized (omega arith) (omega arith) (filled-before (AHT_READ + slot) (omega arith) (omega arith) ∙ e)

  read-marks : (f : ℕ → ℕ) → Unused m f → (slot : ℕ) → slot < 7 → flag_of m (AHTINU + slot) ≡ true → 0 < f slot → cell_of (aht_read_by m) (AHT_READ + slot) ≡ 1
  read-marks f u slot h e t = ap (λ x. cell_of x (AHT_READ + slot)) read-is-all ∙ taken-marked m filled_row f filled-sized filled-before u slot h e t

  row_told : (i : ℕ) → i < 7 → cell_of (aht_read_by m) (SLOT_BITS + 8 * j + i) ≡ cell_of m (TAGS + 1 + i)
  row_told i h =
      read-other (SLOT_BITS + 8 * j + i) (omega arith) (omega arith)
      ∙ row_at tagged j tagged-changes.within.sized tagged-blk few tagged-word 7 i (omega arith) h
      ∙ tagged-same (TAGS + 1 + i) (omega arith) (λ z. omega arith)

  pub row_stays : (k i : ℕ) → k < 6 → ¬ (k ≡ j) → i < 7 → slot_bits (aht_read_by m) k i ≡ slot_bits m k i
  row_stays k i h o b =
      read-other (SLOT_BITS + 8 * k + i) (omega arith) (omega arith)
      ∙ row-beside tagged j tagged-changes.within.sized tagged-blk few 7 (SLOT_BITS + 8 * k + i) (omega arith) (omega arith) (away (dec_lt k j))
      ∙ tagged-same (SLOT_BITS + 8 * k + i) (omega arith) (λ z. omega arith)
    where
      away : Dec (k < j) → (SLOT_BITS + 8 * k + i < SLOT_BITS + 8 * j) ⊎ (SLOT_BITS + 8 * j + 7 ≤ SLOT_BITS + 8 * k + i)
      away (yes z) = inl (omega arith)
      away (no z) = inr (let y : j < k = omega arith in omega arith)

pub read_is : (st : State) → (derived AhtRead st).st.cells ≡ aht_read_by st.cells
unfolding derived
read_is st = refl

signed-block : (n j : ℕ) → n ≡ suc j → j < 6 → signed 128 n ≡ pos j
signed-block n j e h = let a : n % 128 ≡ suc j = omega arith in rw (a, ne_eqb (suc j) 0 (λ z. omega arith)) (ap pos (let z : suc j - 1 ≡ j = omega arith in z))

-- inside the block j
record InBlock (n j : ℕ) (a : State) (q : ℕ) (es : List Entry) : Type 0 where
  within : Within a.cells
  few : j < 6
  blocks : cell_of a.cells NUMBLKS ≡ n
  channels : ByAcmod a.cells
  blk : cell_of a.cells BLK ≡ j
  block : cell_of a.cells BLOCK ≡ suc j
  rows : (i : ℕ) → i < j → Row a.cells es i
  far : q ≤ farthest

block-stays : (rs : Ranges) (n j : ℕ) (a b : State) (q r : ℕ) (es fs : List Entry) → Changed (leaves (kept rs)) a.cells b.cells → Grows es fs → r ≤ farthest → InBlock n j a q es → InBlock n j b r fs
block-stays rs n j a b q r es fs g h f c = record {
  within = g.within;
  few = c.few;
  blocks = blocks-stay _ a.cells b.cells g ∙ c.blocks;
  channels = channels-stay _ a.cells b.cells g c.channels;
  blk = leaves-same (kept rs) a.cells b.cells BLK g (omega arith) (inr (inr (inr (inr (inr (inl (omega arith, omega arith))))))) ∙ c.blk;
  block = leaves-same (kept rs) a.cells b.cells BLOCK g (omega arith) (inr (inr (inr (inr (inr (inl (omega arith, omega arith))))))) ∙ c.block;
  rows = λ i k. row-stay _ a.cells b.cells es fs i (let z = c.few in omega arith) g h (c.rows i k);
  far = f;
}

-- and its use of coupling is known
record InCoupled (n j : ℕ) (a : State) (q : ℕ) (es : List Entry) : Type 0 where
  inside : InBlock n j a q es
  cplinu : cell_of a.cells CPLINU ≡ cell_of a.cells (CPLINUS + j)

coupled-stays : (rs : Ranges) (n j : ℕ) (a b : State) (q r : ℕ) (es fs : List Entry) → Changed (leaves (kept_coupled rs)) a.cells b.cells → Grows es fs → r ≤ farthest → InCoupled n j a q es → InCoupled n j b r fs
coupled-stays rs n j a b q r es fs g h f c = record {
  inside = block-stays _ n j a b q r es fs g h f c.inside;
  cplinu = leaves-same (kept_coupled rs) a.cells b.cells CPLINU g (omega arith) (inr (inr (inr (inr (inr (inr (inl (omega arith, omega arith)))))))) ∙ c.cplinu
      ∙ sym ((settled-by _ a.cells b.cells g).cplinus j c.inside.few);
}

in_block : (n j : ℕ) → Stays (kept []) (InBlock n j)
in_block n j = record { within = λ a q es c. (c.within, c.far); stays = λ a b q r es fs g h f c. block-stays [] n j a b q r es fs g h f c }

in-coupled : (n j : ℕ) → Stays (kept_coupled []) (InCoupled n j)
in-coupled n j = record { within = λ a q es c. (c.inside.within, c.inside.far); stays = λ a b q r es fs g h f c. coupled-stays [] n j a b q r es fs g h f c }

-- the cells that say which slots have no bits
alike-by : (x y : List ℕ) → Changed (leaves kept_channels) x y → Alike x y
alike-by x y g = record {
  nfchans = s.nfchans;
  lfeon = s.lfeon;
  cplinu = leaves-same kept_channels x y CPLINU g (omega arith) (inr (inr (inr (inr (inr (inr (inl (omega arith, omega arith))))))));
  chincpl = λ ch h. leaves-same kept_channels x y (CHINCPL + ch) g (omega arith) (inr (inr (inr (inr (inr (inr (inr (inl (omega arith, omega arith)))))))));
  ahtinu = s.ahtinu;
  aht_read = λ slot h. leaves-same kept_channels x y (AHT_READ + slot) g (omega arith) (inr (inr (inr (inr (inl (omega arith, omega arith))))));
}
  where
    s : Settled x y
    s = settled-by _ x y g

-- the use of coupling in the block, as it is put
cplinus-most : most_over CPLINUS 5 ≡ 1
unfolding most_over most most_in bounds
cplinus-most = refl

abbrev pub cplinu_put : List ℕ → List ℕ
cplinu_put m = put_in m (place_of (cell CPLINU) m) (0 + 1 * held_of (at CPLINUS BLK) m)

pub cplinu-put : (rs : Ranges) → may (leaves rs) CPLINU 0 0 1 ≡ true → (m : List ℕ) (j : ℕ) → Within m → j < 6 → cell_of m BLK ≡ j → Changed (leaves rs) m (cplinu_put m) × (cell_of (cplinu_put m) CPLINU ≡ cell_of m (CPLINUS + j))
cplinu-put rs h m j w few blk =
    let v : ℕ = 0 + 1 * held_of (at CPLINUS BLK) m in
    let k : place_of (cell CPLINU) m ≡ CPLINU = place-cell CPLINU m in
    let b : held_of (at CPLINUS BLK) m ≡ cell_of m (CPLINUS + j) = ap (cell_of m) (place_at CPLINUS BLK m ∙ ap (λ n. CPLINUS + n) blk) in
    let low : cell_of m (CPLINUS + j) ≤ 1 = omega (arith, w.below (CPLINUS + j), most-over CPLINUS 5 (CPLINUS + j) (omega arith) (omega arith), cplinus-most) in (
      puts (leaves rs) m (place_of (cell CPLINU) m) v CPLINU 0 0 1 w h (omega arith) (omega arith) (omega arith) (omega arith),
      subst (λ n. cell_of (put_in m n v) CPLINU ≡ cell_of m (CPLINUS + j)) (sym k) (cell_at m CPLINU v w.sized (omega arith) (omega arith) ∙ (let z : v % 65536 ≡ cell_of m (CPLINUS + j) = omega arith in z)),
    )

-- every block of the frame
record All (a : State) (q : ℕ) (fs : List Entry) : Type 0 where
  channels : ByAcmod a.cells
  rows : (j : ℕ) → j < cell_of a.cells NUMBLKS → (j < 6) × Row a.cells fs j

module _ (s : List ℕ) (l : ℕ) (short : l ≤ farthest) where
  -- before the use of coupling is known, and then
  sections : List Block
  sections = spx_strategy ∷ spx_coordinates ∷ []

  sections-clear : all_clear (kept []) sections ≡ true
  unfolding all_clear sections clear spx_strategy spx_coordinates
  sections-clear = refl

  sections_coupled : List Block
  sections_coupled = cpl_coordinates ∷ rematrixing ∷ bandwidth ∷ exponents_of_block ∷ parameters ∷ deltas ∷ skip_field ∷ []

  coupled-clear : all_clear (kept_coupled []) sections_coupled ≡ true
  unfolding all_clear sections_coupled clear cpl_coordinates rematrixing bandwidth exponents_of_block parameters deltas skip_field
  coupled-clear = refl

  -- before the block j, and after the one before it
  record Before (n j : ℕ) (a : State) (q : ℕ) (es : List Entry) : Type 0 where
    within : Within a.cells
    blocks : cell_of a.cells NUMBLKS ≡ n
    channels : ByAcmod a.cells
    rows : (i : ℕ) → i < j → Row a.cells es i
    far : q ≤ farthest

  may-block : may (leaves (ending [])) BLOCK 0 0 6 ≡ true
  unfolding clear
  may-block = refl

  -- its number is put
  dynamics-walk : (n j : ℕ) (st : State) (p : ℕ) (es : List Entry) → Before n j st p es → j < 6 → cell_of st.cells BLK ≡ j → Walks s l Any dynamics st p es (InBlock n j)
  unfolding dynamics clear Any
  dynamics-walk n j st p es c few blk =
      walks_next s l Any _ _ st p es {M = InBlock n j} tt
      (walked_put s l Any _ _ st p es
      (let m = st.cells in
      let k : place_of (cell BLOCK) m ≡ BLOCK = place-cell BLOCK m in
      let v : ℕ = 1 + 1 * held_of (cell BLK) m in
      let b : held_of (cell BLK) m ≡ j = held-cell BLK m ∙ blk in
      let g : Changed (leaves (ending [])) m (put_in m (place_of (cell BLOCK) m) v) = puts (leaves (ending [])) m (place_of (cell BLOCK) m) v BLOCK 0 0 6 c.within may-block (omega arith) (omega arith) (omega arith) (omega arith) in
      record {
        within = g.within;
        few = few;
        blocks = blocks-stay (rows_read []) m _ g ∙ c.blocks;
        channels = channels-stay (rows_read []) m _ g c.channels;
        blk = cell-beside m (place_of (cell BLOCK) m) v BLK (omega arith) (omega arith) (λ z. omega arith) ∙ blk;
        block = subst (λ n. cell_of (put_in m n v) BLOCK ≡ suc j) (sym k) (cell_at m BLOCK v c.within.sized (omega arith) (omega arith) ∙ (let z : v % 65536 ≡ suc j = omega arith in z));
        rows = λ i h. row-stay [] m (put_in m (place_of (cell BLOCK) m) v) es es i (omega arith) g (grows-refl es) (c.rows i h);
        far = c.far;
      }))
      (λ a q fs d. walk-on s l short (kept []) (InBlock n j) (in_block n j) _ refl a q fs d)

  -- its use of coupling is put
  may-cplinu : may (leaves (kept [])) CPLINU 0 0 1 ≡ true
  unfolding clear
  may-cplinu = refl

  coupling-walk : (n j : ℕ) (st : State) (p : ℕ) (es : List Entry) → InBlock n j st p es → Walks s l Any cpl_strategy st p es (InCoupled n j)
  unfolding cpl_strategy clear Any
  coupling-walk n j st p es c =
      walks_next s l Any _ _ st p es {M = InCoupled n j} tt
      (walked_put s l Any _ _ st p es
      (let m = st.cells in
      let g = cplinu-put (kept []) may-cplinu m j c.within c.few c.blk in
      record {
        inside = block-stays [] n j st (state (cplinu_put m) st.bins) p p es es g.0 (grows-refl es) c.far c;
        cplinu = g.1 ∙ sym ((settled-by (rows_read ((BLOCK, BLK) ∷ [])) m (cplinu_put m) g.0).cplinus j c.few);
      }))
      (λ a q fs d. walk-on s l short (kept_coupled []) (InCoupled n j) (in-coupled n j) _ refl a q fs d)

  -- the mantissas were read, and the cells hold what their walk told
  record Told (n j : ℕ) (a : State) (q : ℕ) (es : List Entry) : Type 0 where
    inside : InCoupled n j a q es
    unused : Unused a.cells (λ i. cell_of a.cells (TAGS + 1 + i))
    entry : Entry
    among : Among entry es
    name : entry.field.name ≡ mantissas-of-block
    block : entry.field.block ≡ pos j
    width : entry.field.width ≡ sum_of (λ i. cell_of a.cells (TAGS + 1 + i)) 7

  may-told : may (leaves kept_channels) TAGS 0 0 tags_most ≡ true
  unfolding clear
  may-told = refl

  may-bits : may (leaves kept_channels) (suc TAGS) (0 + 6) 0 65535 ≡ true
  unfolding clear
  may-bits = refl

  mantissas-walk : (n j : ℕ) (st : State) (p : ℕ) (es : List Entry) → InCoupled n j st p es → Walked s l Any (mantissas mantissas-of-block (cell TAGS)) st p es (Told n j)
  mantissas-walk n j st p es c =
      walked-mantissas s l Any mantissas-of-block (cell TAGS) st p es
      (λ vs q fs len tags grows sum far member accepts.
      let m = st.cells in
      let i = c.inside in
      let k : place_of (cell TAGS) m ≡ TAGS = place-cell TAGS m in
      let g : Changed (leaves kept_channels) m (puts_in m (place_of (cell TAGS) m) vs) = told-changes (leaves kept_channels) m (place_of (cell TAGS) m) vs TAGS 0 i.within len tags may-told may-bits (omega arith) (omega arith) in
      let d : length (drop 1 vs) ≡ 7 = length-drop 1 vs ∙ (let z : length vs - 1 ≡ 7 = omega arith in z) in
      let f : q ≤ farthest = let z = i.far in omega arith in
      let told : (i : ℕ) → i < 7 → cell_of (puts_in m (place_of (cell TAGS) m) vs) (TAGS + 1 + i) ≡ get_or (drop 1 vs) i 0 = λ i h.
      subst (λ k. cell_of (puts_in m k vs) (TAGS + 1 + i) ≡ get_or (drop 1 vs) i 0) (sym k)
      (let y : TAGS + 1 + i ≡ TAGS + suc i = omega arith in
      ap (cell_of (puts_in m TAGS vs)) y ∙ puts-at vs m TAGS (suc i) c.inside.within.sized (omega arith) (omega arith) (omega arith)
      ∙ (let t = entry-most (drop 1 vs) i in let u : get_or vs (suc i) 0 ≡ get_or (drop 1 vs) i 0 = get_d_drop vs i in let x : get_or vs (suc i) 0 % 65536 ≡ get_or (drop 1 vs) i 0 = omega arith in x)) in
      record {
        inside = coupled-stays _ n j st (stored_all st (place_of (cell TAGS) m) vs) p q es fs g grows f c;
        unused = unused-alike m (puts_in m (place_of (cell TAGS) m) vs) (bits_told vs) _ (alike-by m _ g) (λ i h. told i h ∙ sym (get_d_drop vs i)) (unused-told m vs (unasked-take-none st s p l vs accepts));
        entry = region (part_of mantissas-of-block none m) p (q - p);
        among = member;
        name = refl;
        block = signed-block (cell_of m BLOCK) j i.block i.few;
        width = (let z : q - p ≡ total (drop 1 vs) = omega arith in z) ∙ sym (total-is (drop 1 vs)) ∙ ap (sum_of (λ i. get_or (drop 1 vs) i 0)) d ∙ sum_same _ _ 7 (λ i h. sym (told i h));
      })

  -- what the frame says stays
  pass-read : fits_derived (leaves (settled [])) AhtRead ≡ true
  unfolding clear
  pass-read = refl

  after_read : (n j : ℕ) (st : State) (p : ℕ) (es : List Entry) → Told n j st p es → Before n (suc j) (derived AhtRead st).st p es
  after_read n j st p es t =
      let c = t.inside.inside in
      let g : Changed (leaves (settled [])) st.cells (derived AhtRead st).st.cells = derived-changes (leaves (settled [])) AhtRead st c.within pass-read in
      record {
        within = g.within;
        blocks = blocks-stay [] st.cells (derived AhtRead st).st.cells g ∙ c.blocks;
        channels = channels-stay [] st.cells (derived AhtRead st).st.cells g c.channels;
        rows = λ i h. subst (λ m. Row m es i) (sym (read_is st)) (row (settled-by [] m (aht_read_by m) (subst (Changed (leaves (settled [])) m) (read_is st) g)) (ℕ_discrete i j) h);
        far = c.far;
      }
    where
      m : List ℕ
      m = st.cells

      I : InBlock n j st p es
      I = t.inside.inside

      told : (slot : ℕ) → slot < 7 → slot_bits (aht_read_by m) j slot ≡ cell_of m (TAGS + 1 + slot)
      told slot k = row_told m I.within j I.blk I.few slot k

      stays : (i slot : ℕ) → i < j → slot < 7 → slot_bits (aht_read_by m) i slot ≡ slot_bits m i slot
      stays i slot h k = row_stays m I.within j I.blk I.few i slot (let z = I.few in omega arith) (λ z. omega arith) k

      this : Settled m (aht_read_by m) → NoBits (aht_read_by m) j
      this g = record {
        channels = λ ch h k. told ch (omega arith) ∙ t.unused.channels ch (omega (arith, g.nfchans)) k;
        lfe = λ e. told LFE (omega arith) ∙ t.unused.lfe (ap (λ n. eqb n 1) (sym g.lfeon) ∙ e);
        coupling = λ e. told CPL (omega arith)
            ∙ t.unused.uncoupled (λ ch k. ap (λ b. b && flag_of m (CHINCPL + ch)) (ap (λ n. eqb n 1) (t.inside.cplinu ∙ sym (g.cplinus j I.few)) ∙ e));
        hybrid = λ slot i k h e z.
            told slot k ∙ t.unused.read slot k (ap (λ n. eqb n 1) (sym (g.ahtinu slot k)) ∙ e)
            (ap (λ n. eqb n 1) ((I.rows i (omega arith)).marks-set.marked slot k (ap (λ n. eqb n 1) (sym (g.ahtinu slot k)) ∙ e) (let y = stays i slot (omega arith) k in omega arith)));
      }

      row : {i : ℕ} → Settled m (aht_read_by m) → Dec (i ≡ j) → i < suc j → Row (aht_read_by m) es i
      row g (yes e) h = subst (Row (aht_read_by m) es) (sym e) (record {
        adds = record {
          entry = t.entry;
          among = t.among;
          name = t.name;
          block = t.block;
          width = t.width ∙ sum_same _ _ 7 (λ i k. sym (told i k));
        };
        empty = this g;
        marks-set = record {
          marked = λ slot k e z. read-marks m I.within j I.blk I.few (λ i. cell_of m (TAGS + 1 + i)) t.unused slot k (ap (λ n. eqb n 1) (sym (g.ahtinu slot k)) ∙ e) (let y = told slot k in omega arith);
        };
      })
      row {i} g (no e) h =
          let k : i < j = omega arith in
          let r = I.rows i k in
          record {
            adds = adds-by m (aht_read_by m) es es i (λ slot b. stays i slot k b) (grows-refl es) r.adds;
            empty = no-bits-stay m (aht_read_by m) i (let z = I.few in omega arith) g (λ b slot o x. stays b slot (omega arith) x) r.empty;
            marks-set = marked-stay m (aht_read_by m) i g (λ slot b. stays i slot k b) (λ slot b x. read_keeps m I.within j I.blk I.few slot b x) r.marks-set;
          }

  quantized-walk : (n j : ℕ) (st : State) (p : ℕ) (es : List Entry) → InCoupled n j st p es → Walks s l Any quantized st p es (Before n (suc j))
  unfolding quantized first_items after_items clear Any
  quantized-walk n j st p es c =
      subst (λ b. Walks s l Any b st p es (Before n (suc j))) (first-after 2 quantized)
      (walks-append s l Any (first_items 2 quantized) (after_items 2 quantized) st p es {M = InCoupled n j}
      (walk-on s l short (kept_coupled []) (InCoupled n j) (in-coupled n j) (first_items 2 quantized) refl st p es c)
      (λ a q fs d. walks_next s l Any _ _ a q fs {M = Told n j} tt (mantissas-walk n j a q fs d)
      (λ b r gs t. walks_next s l Any _ _ b r gs {M = Before n (suc j)} tt (walked-derive s l Any AhtRead b r gs (λ _. after_read n j b r gs t))
      (λ e u hs f. walks-end s l Any e u hs f))))

  block-walk : (n j : ℕ) (st : State) (p : ℕ) (es : List Entry) → Before n j st p es → j < 6 → cell_of st.cells BLK ≡ j → Walks s l Any audblk st p es (Before n (suc j))
  unfolding audblk joined sections sections_coupled
  block-walk n j st p es c few blk =
      walks-append s l Any dynamics (joined sections (cpl_strategy ⧺ joined sections_coupled quantized)) st p es (dynamics-walk n j st p es c few blk)
      (λ a q fs d. pass s l short (kept []) (InBlock n j) (in_block n j) sections _ sections-clear a q fs d
      (λ b r gs e. walks-append s l Any cpl_strategy (joined sections_coupled quantized) b r gs (coupling-walk n j b r gs e)
      (λ x u hs i. pass s l short (kept_coupled []) (InCoupled n j) (in-coupled n j) sections_coupled quantized coupled-clear x u hs i (λ y v is o. quantized-walk n j y v is o))))

  may-blk : may (leaves (ending [])) BLK 0 0 5 ≡ true
  unfolding clear
  may-blk = refl

  turn-walk : (n j : ℕ) (a : State) (q : ℕ) (fs : List Entry) → n ≤ 6 → j < n → Before n j a q fs → Walks s l Any audblk (stored a BLK j) q fs (Before n (suc j))
  turn-walk n j a q fs few h c =
      let m = a.cells in
      let g : Changed (leaves (ending [])) m (put_in m BLK j) = puts (leaves (ending [])) m BLK j BLK 0 0 5 c.within may-blk (omega arith) (omega arith) (omega arith) (omega arith) in
      block-walk n j (stored a BLK j) q fs
      (record {
        within = g.within;
        blocks = blocks-stay (rows_read []) m (put_in m BLK j) g ∙ c.blocks;
        channels = channels-stay (rows_read []) m (put_in m BLK j) g c.channels;
        rows = λ i k. row-stay [] m (put_in m BLK j) fs fs i (omega arith) g (grows-refl fs) (c.rows i k);
        far = c.far;
      })
      (omega arith)
      (cell_at m BLK j c.within.sized (omega arith) (omega arith) ∙ (let z : j % 65536 ≡ j = omega arith in z))

  blocks-walk : (st : State) (p : ℕ) (es : List Entry) → Within st.cells → ByAcmod st.cells → p ≤ farthest → Walks s l Any audblks st p es All
  unfolding audblks clear Any
  blocks-walk st p es w h f =
      let n = cell_of st.cells NUMBLKS in
      let e = held-cell NUMBLKS st.cells in
      let k : n ≤ 6 = omega (arith, w.below NUMBLKS, numblks-most) in
      walks_next s l Any _ _ st p es {M = Before n n} tt
      (walked-each s l Any BLK _ _ _ st p es (Before n)
      (record { within = w; blocks = refl; channels = h; rows = λ i h. absurd (let z : ⊥ = omega (arith, cell-zero st.cells) in z); far = f })
      (λ j a q fs i c. turn-walk n j a q fs k (omega arith) c)
      (λ j a q fs i c. record { within = c.within; blocks = c.blocks; channels = c.channels; rows = λ t h. c.rows t (omega arith); far = c.far }))
      (λ a q fs c. walks-map s l Any
      (λ b r gs d. record {
        channels = channels-stay (rows_read []) a.cells b.cells d.changed c.channels;
        rows = λ j h.
            let t : cell_of b.cells NUMBLKS ≡ n = blocks-stay (rows_read []) a.cells b.cells d.changed ∙ c.blocks in
            (omega arith, row-stay [] a.cells b.cells fs gs j (omega arith) d.changed d.grows (c.rows j (omega arith)));
      })
      (walk-by s l short (ending []) _ refl a q fs c.within c.far))

  -- acmod and its channels, which stay through the rest of bsi and through audfrm
  abbrev acmods : Ranges
  acmods = (ACMOD, NFCHANS) ∷ []

  record Channelled (a : State) (q : ℕ) (fs : List Entry) : Type 0 where
    within : Within a.cells
    channels : ByAcmod a.cells
    far : q ≤ farthest

  in-channelled : Stays acmods Channelled
  in-channelled = record {
    within = λ a q es c. (c.within, c.far);
    stays = λ a b q r es fs g h f c. record { within = g.within; channels = acmod-stays _ _ _ a.cells b.cells (omega arith) (omega arith) g c.channels; far = f };
  }

  channels-are : (st : State) → Within st.cells → ByAcmod (derived Nfchans st).st.cells
  unfolding derived nfchans_by
  channels-are st w =
      let m = st.cells in
      let v = get_or nfchans (cell_of m ACMOD) 0 in
      cell_at m NFCHANS v w.sized (omega arith) (omega arith) ∙ (let b = nfchans-most (cell_of m ACMOD) in let z : v % 65536 ≡ v = omega arith in z)
      ∙ ap (λ n. get_or nfchans n 0) (sym (cell-beside m NFCHANS v ACMOD (omega arith) (omega arith) (λ z. omega arith)))

  pass-channels : fits_derived (leaves []) Nfchans ≡ true
  unfolding clear
  pass-channels = refl

  bsi-walk : (st : State) (p : ℕ) (es : List Entry) → Within st.cells → p ≤ farthest → Walks s l Any bsi st p es Channelled
  unfolding clear bsi mixing_metadata mixdef3 informational_metadata ◌⧺◌ first_items after_items Any
  bsi-walk st p es w f =
      subst (λ b. Walks s l Any b st p es Channelled) (first-after 5 bsi)
      (walks-append s l Any (first_items 5 bsi) (after_items 5 bsi) st p es {M = After [] st es} (walk-by s l short [] (first_items 5 bsi) refl st p es w f)
      (λ a q fs c. walks_next s l Any _ _ a q fs {M = Channelled} tt
      (walked-derive s l Any Nfchans a q fs (λ _. record { within = (derived-changes (leaves []) Nfchans a c.changed.within pass-channels).within; channels = channels-are a c.changed.within; far = c.far }))
      (λ b r gs d. walk-on s l short acmods Channelled in-channelled _ refl b r gs d)))

  audfrm-clear : clear acmods audfrm ≡ true
  unfolding clear audfrm flags coupling strategies hybrid offsets ◌⧺◌
  audfrm-clear = refl

  body-walk : (st : State) (p : ℕ) (es : List Entry) → Within st.cells → p ≤ farthest → Walks s l Any body st p es All
  unfolding body
  body-walk st p es w f =
      walks-append s l Any bsi _ st p es (bsi-walk st p es w f)
      (λ a q fs c. walks-append s l Any audfrm _ a q fs (walk-on s l short acmods Channelled in-channelled audfrm audfrm-clear a q fs c)
      (λ b r gs d. blocks-walk b r gs d.within d.channels d.far))

-- whatever the buffer, of every block of a body that is read to its end
ends : AfterBody All
ends = body-ends All (λ s h e short p es f. body-walk s (8 * bytes_of h) short h p es (header-within s h e) f)

pub slots-add-up : SlotsAddUp
slots-add-up s h st e d j k = let r = (ends s h st e d).rows j k in (r.0, r.1.adds)

pub unused-have-none : UnusedHaveNone
unused-have-none s h st e d j k = ((ends s h st e d).rows j k).1.empty

pub channels-by-acmod : AtBodyEnd (λ m. cell_of m NFCHANS ≡ get_or nfchans (cell_of m ACMOD) 0)
channels-by-acmod s h st e d = (ends s h st e d).channels
