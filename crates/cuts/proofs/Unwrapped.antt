-- Nothing that is put into a cell wraps, wherever a reading comes. Assumes nothing.
use mathlib.Core.Path.{◌≡◌, refl, ap, sym, ◌∙◌, subst}
use mathlib.Core.Bool.{Bool, true, false, cond, not, ◌&&◌, true≢false}
use mathlib.Core.List.{List, [], ◌∷◌}
use mathlib.Core.Logic.{inl, inr}
use Prim.Native.Nat.{ℕ, zero, suc, ◌+◌, ◌-◌, ◌*◌, ◌%◌, ◌^◌, ◌≤◌, ◌<◌}
use native.Mathlib.Omega.{arith}
use native.Mathlib.Nat.{mul-le-mul_left, mul-le-mul_right}
use lib.Dec.{eqb, leb, ltb}
use lib.ListN.{length, get_or}
use borrow.Author.Tests.{leb-true, not-false}
use Rattle.reading.specs.Run.{Entry, accepted, skim}
use Rattle.reading.specs.Frame.{header_by, seen}
use Rattle.cells.specs.Cells.{State, Addr, cell_of, put_in, stored, place_of, held_of}
use Rattle.cells.specs.Names.{AHT_READ, AHT_TAGS, AHTINU, BLK, CPL_BLOCKS, CPL_SUBND_END, CPLBEGF, CPLBNDSTRC, CPLINUS, FRMSIZ, LFEON, NUMBLKS, SLOT_BITS, SPX_BEGIN, SPX_BLOCKS, SPX_END, SPXBNDSTRC, TAGS}
use Rattle.sideinfo.specs.Steps.{each_of}
use Rattle.sideinfo.specs.Frames.{holding, powers_below}
use Rattle.sideinfo.specs.Blocks.{flag_of, coupled_in, channels_of, marked_in, read_of, slot_bits_of, aht_read_by}
use Rattle.derivations.specs.Mantissas.{mantissas_in}
use Rattle.derivations.specs.Derivations.{AhtRead, derived}
use Rattle.rows.specs.Syntax.{Count, Fixed, Held, Value, Here, Let, Less, Plus, Minus, Item, Block, element, elements, span, mantissas, exponents, when, each, reject, reject_at, put, fill, derive, ◌⧺◌, cell, amount_of}
use Rattle.annex.specs.Syncinfo.{syncinfo, bsi_size}
use Rattle.annex.specs.Bsi.{bsi}
use Rattle.annex.specs.Audfrm.{audfrm}
use Rattle.annex.specs.Audblk.{dynamics, spx_strategy, spx_coordinates, cpl_strategy, cpl_coordinates, rematrixing, bandwidth, exponents_of_block, parameters, deltas, skip_field, quantized, audblk}
use Rattle.annex.specs.Annex.{header, audblks, body}
use Rattle.cells.proofs.Cells.{cell-none}
use Rattle.sideinfo.proofs.StepLaws.{each_within}
use Rattle.annex.specs.Frame.{start, bytes_of, eac3}
use Rattle.annex.proofs.Header.{headed-gives}
use Rattle.bounds.specs.Along.{Point, Along}
use Rattle.bounds.specs.Bounds.{tags_most, bounds, most_in, most, Within}
use Rattle.outcomes.specs.Outcomes.{farthest}
use Rattle.cuts.specs.Unwrapped.{word, PutsFit, Unwrapped, NothingWraps}
use Rattle.bounds.proofs.Alongs.{Place, along-both, along-place}
use Rattle.bounds.proofs.Bounds.{most-word, frmsiz-most, numblks-most, may, Changed, puts, none_within, value_at, value-at, greatest_of, ranges}
use Rattle.bounds.proofs.Bounded.{fitting, pages}
use Rattle.bounds.proofs.Cells.{cell_at, cell-beside}
use Rattle.bounds.proofs.Reaches.{run-reaches}
use Rattle.bounds.proofs.Derived.{limits, sum-most, flag-most, fits_derived, derived-changes}
use Rattle.bounds.proofs.Fits.{fits-block}
use Rattle.unmet.proofs.Leaves.{Ranges, outside, leaves, leaves-same, first_items, after_items, place-cell, held-cell}
use Rattle.bounds.proofs.Spent.{bits_most}
use Rattle.bounds.proofs.Tags.{tags-most}
use Rattle.bounds.proofs.Walking.{Walks, walks-end, walks_next, walks-map, walks-append, walked-when, walked_put, walked-derive, walked-each}

-- a value that the bounds do not limit: none but the counts of blocks
unlimited : Value → Bool
unlimited Here = false
unlimited (Let x y a) = not (leb (greatest_of (Let x y a) []) 65535)
unlimited (Less x y a) = not (leb (greatest_of (Less x y a) []) 65535)
unlimited (Plus a k) = not (leb (greatest_of (Plus a k) []) 65535)
unlimited (Minus a k) = not (leb (greatest_of (Minus a k) []) 65535)

limited : (v : Value) (m : List ℕ) (p : ℕ) → Within m → p ≤ farthest → unlimited v ≡ false → amount_of v p m < word
unfolding unlimited
limited Here m p w h e = omega arith
limited (Let x y a) m p w h e = let i = leb-true (greatest_of (Let x y a) []) 65535 (not-false _ e) in omega (arith, (ranges (Let x y a) [] m p w tt i).1)
limited (Less x y a) m p w h e = let i = leb-true (greatest_of (Less x y a) []) 65535 (not-false _ e) in omega (arith, (ranges (Less x y a) [] m p w tt i).1)
limited (Plus a k) m p w h e = let i = leb-true (greatest_of (Plus a k) []) 65535 (not-false _ e) in omega (arith, (ranges (Plus a k) [] m p w tt i).1)
limited (Minus a k) m p w h e = let i = leb-true (greatest_of (Minus a k) []) 65535 (not-false _ e) in omega (arith, (ranges (Minus a k) [] m p w tt i).1)

-- what is left to show of those, and of the tags of a frame
record Counted (i : Item) (st : State) (p : ℕ) (es : List Entry) : Type 0 where
  puts-fit : (a : Addr) (v : Value) → i ≡ put a v → unlimited v ≡ true → amount_of v p st.cells < word
  tags-fit : i ≡ derive AhtRead → cell_of st.cells AHT_TAGS + cell_of st.cells TAGS < word

-- all else follows from the bounds and the place
abbrev Rest : List ℕ → ℕ → Item → Point
Rest s l i st p es = p ≤ farthest → Counted i st p es → Unwrapped s l i st p es

counts-to : Count → Bool
counts-to (Fixed n) = leb n word
counts-to (Held a) = true

small : Item → Bool
small (element name i w a) = leb (2 ^ w) word
small (elements name i w a k f n) = true
small (span name k) = true
small (mantissas name a) = true
small (exponents x name i) = true
small (when c b) = true
small (each k i n b) = counts-to n
small (reject c n) = true
small (reject_at c n k) = true
small (put a v) = true
small (fill k n x y a) = leb (x + y * value_at a []) 65535
small (derive k) = true

-- the sums and products of the derivations
bands-few : (m : List ℕ) (k n : ℕ) → holding m k 0 n ≤ n
bands-few m k n = sum-most (λ i. cond (eqb (cell_of m (k + i)) 0) 1 0) n (λ i. flag-most (eqb (cell_of m (k + i)) 0))

puts-fit-by : (k : ℕ) (m : List ℕ) → Within m → (k ≡ AhtRead → cell_of m AHT_TAGS + cell_of m TAGS < word) → PutsFit k m
puts-fit-by k m w t =
    let b = limits m w in
    record {
      numblks = λ _. omega (arith, b.numblkscod);
      ncplblks = λ _. omega (arith, sum-most (λ i. cond (eqb (cell_of m (CPLINUS + i)) 1) 1 0) (cell_of m NUMBLKS) (λ i. flag-most (eqb (cell_of m (CPLINUS + i)) 1)), b.numblks);
      blkstrtinfo = λ _.
          let n = b.numblks in
          let r = sum-most (λ i. cond (ltb (2 ^ i) (cell_of m FRMSIZ + 1)) 1 0) 17 (λ i. flag-most (ltb (2 ^ i) (cell_of m FRMSIZ + 1))) in
          let z = mul-le-mul_right (4 + powers_below (cell_of m FRMSIZ + 1) 17) (let y : cell_of m NUMBLKS - 1 ≤ 5 = omega arith in y) in
          omega arith;
      spx_range = λ _. (omega (arith, b.spxbegf), omega (arith, b.spxendf));
      nspxbnds = λ _. omega (arith, bands-few m (SPXBNDSTRC + cell_of m SPX_BEGIN + 1) (cell_of m SPX_END - (cell_of m SPX_BEGIN + 1)), b.spx-end);
      cpl_range = λ _. (omega (arith, b.spxbegf), omega (arith, b.cplendf));
      ncplbnd = λ _. omega (arith, bands-few m (CPLBNDSTRC + cell_of m CPLBEGF + 1) (cell_of m CPL_SUBND_END - (cell_of m CPLBEGF + 1)), b.cpl-end);
      endmants = λ _. (omega (arith, b.cplbegf), omega (arith, b.cpl-end), omega (arith, b.spx-begin));
      codes = λ _ ch h. omega (arith, b.chbwcod ch h);
      aht_read = t;
    }

module _ (s : List ℕ) (l : ℕ) (short : l ≤ farthest) where
  by-bounds : (i : Item) (st : State) (p : ℕ) (es : List Entry) → small i ≡ true → Within st.cells → Rest s l i st p es
  unfolding small counts-to
  by-bounds (element name i w a) st p es h k q c = leb-true (2 ^ w) word h
  by-bounds (elements name i w a j f n) st p es h k q c = omega (arith, k.below n, most-word n)
  by-bounds (span name j) st p es h k q c = tt
  by-bounds (mantissas name a) st p es h k q c = told
    where
      told : (v : List ℕ) → (skim (mantissas_in st) s p l).result ≡ accepted v → (i : ℕ) → get_or v i 0 < word
      told v e zero = omega (arith, tags-most st s p l v e)
      told v e (suc i) = omega (arith, bits_most st s p l farthest q short v e i)
  by-bounds (exponents x name i) st p es h k q c = tt
  by-bounds (when d b) st p es h k q c = tt
  by-bounds (each j i (Fixed n) b) st p es h k q c = leb-true n word h
  by-bounds (each j i (Held a) b) st p es h k q c = omega (arith, k.below (place_of a st.cells), most-word (place_of a st.cells))
  by-bounds (reject d n) st p es h k q c = tt
  by-bounds (reject_at d n j) st p es h k q c = tt
  by-bounds (put a v) st p es h k q c = go (unlimited v) refl
    where
      go : (b : Bool) → unlimited v ≡ b → amount_of v p st.cells < word
      go true e = c.puts-fit a v refl e
      go false e = limited v st.cells p k q e
  by-bounds (fill j n x y a) st p es h k q c =
      let r = mul-le-mul_left y (value-at a [] st.cells k tt) in
      omega (arith, leb-true (x + y * value_at a []) 65535 h)
  by-bounds (derive j) st p es h k q c = puts-fit-by j st.cells k (λ e. c.tags-fit (ap derive e))

-- the counts of blocks, and the tags of the frame, which nothing else puts
counters : Ranges
counters = (SPX_BLOCKS, SPX_BLOCKS) ∷ (CPL_BLOCKS, CPL_BLOCKS) ∷ (AHT_TAGS, AHT_TAGS) ∷ []

record Tally (a b c : ℕ) (m : List ℕ) : Type 0 where
  within : Within m
  spx : cell_of m SPX_BLOCKS ≤ a
  cpl : cell_of m CPL_BLOCKS ≤ b
  tags : cell_of m AHT_TAGS ≤ c

count-stays : (a b c : ℕ) (x y : List ℕ) → Changed (leaves counters) x y → Tally a b c x → Tally a b c y
unfolding counters
count-stays a b c x y g k = record {
  within = g.within;
  spx = rw (leaves-same counters x y SPX_BLOCKS g (omega arith) (inl (omega arith, omega arith))) k.spx;
  cpl = rw (leaves-same counters x y CPL_BLOCKS g (omega arith) (inr (inl (omega arith, omega arith)))) k.cpl;
  tags = rw (leaves-same counters x y AHT_TAGS g (omega arith) (inr (inr (inl (omega arith, omega arith))))) k.tags;
}

uncounted : Item → Bool
uncounted (element name i w a) = true
uncounted (elements name i w a k f n) = true
uncounted (span name k) = true
uncounted (mantissas name a) = true
uncounted (exponents x name i) = true
uncounted (when c b) = true
uncounted (each k i n b) = true
uncounted (reject c n) = true
uncounted (reject_at c n k) = true
uncounted (put a v) = not (unlimited v)
uncounted (fill k n x y a) = true
uncounted (derive k) = not (eqb k AhtRead)

counted-by : (i : Item) (st : State) (p : ℕ) (es : List Entry) → uncounted i ≡ true → Within st.cells → Counted i st p es
unfolding uncounted
counted-by i st p es h w = record {
  puts-fit = λ a v e u. absurd (true≢false (sym (subst (λ c. not c ≡ true) u (subst (λ j. uncounted j ≡ true) e h))));
  tags-fit = λ e. absurd (true≢false (sym (subst (λ j. uncounted j ≡ true) e h)));
}

-- a section that puts none of them
unfoldable quiet : Block → Bool
unfolding fitting unlimited uncounted counters outside leaves
quiet b = fitting uncounted (leaves counters) b

everything : ℕ → ℕ → ℕ → Bool
everything j a z = true

not-put : (k : ℕ) (a : Addr) (v : Value) → derive k ≡ put a v → ⊥
not-put k a v e = let z : ◌≡◌ {A = ℕ} 0 1 = cc in omega arith

not-derive : (a : Addr) (v : Value) (k : ℕ) → put a v ≡ derive k → ⊥
not-derive a v k e = let z : ◌≡◌ {A = ℕ} 0 1 = cc in omega arith

module _ (s : List ℕ) (l : ℕ) where
  quiet_walk : (x : Block) → quiet x ≡ true → (a b c : ℕ) (st : State) (p : ℕ) (es : List Entry) → Tally a b c st.cells → Walks s l Counted x st p es (λ y q fs. Tally a b c y.cells)
  unfolding quiet
  quiet_walk x h a b c st p es k =
      walks-map s l Counted (λ y q fs r. count-stays a b c st.cells y.cells r.changed k) (fits-block uncounted s l Counted counted-by (leaves counters) x [] h st p es k.within tt)

  -- one block more, in one of two counts
  one_more : (k : ℕ) (m : List ℕ) (n p : ℕ) → cell_of m k ≤ n → n ≤ 6 → (a : Addr) (v : Value) → put (cell k) (Let 1 1 (cell k)) ≡ put a v → amount_of v p m < word
  one_more k m n p h i a v e =
      let z : Let 1 1 (cell k) ≡ v = cc in
      subst (λ u. amount_of u p m < word) z (let y = held-cell k m in let o : 1 + 1 * held_of (cell k) m < word = omega arith in o)

  may-count : (may everything SPX_BLOCKS 0 0 65535 ≡ true) × (may everything CPL_BLOCKS 0 0 65535 ≡ true) × (may (leaves counters) BLK 0 0 5 ≡ true)
  unfolding quiet everything
  may-count = (refl, refl, refl)

  spx-walk : (a b c : ℕ) (st : State) (p : ℕ) (es : List Entry) → a ≤ 5 → Tally a b c st.cells → Walks s l Counted spx_coordinates st p es (λ y q fs. Tally (suc a) b c y.cells)
  unfolding spx_coordinates quiet
  spx-walk a b c st p es h k =
      let m = st.cells in
      walks_next s l Counted _ _ st p es {M = λ y q fs. Tally (suc a) b c y.cells} (counted-by _ st p es refl k.within)
      (walked-when s l Counted _ _ st p es
      (λ _. walks_next s l Counted _ _ st p es {M = λ y q fs. Tally (suc a) b c y.cells}
      (record { puts-fit = λ x v e _. one_more SPX_BLOCKS m a p k.spx (omega arith) x v e; tags-fit = λ e. absurd (not-derive _ _ _ e) })
      (walked_put s l Counted _ _ st p es
      (let v = 1 + 1 * held_of (cell SPX_BLOCKS) m in
      let z = place-cell SPX_BLOCKS m in
      let y = held-cell SPX_BLOCKS m in
      let u = k.spx in
      let g = puts everything m (place_of (cell SPX_BLOCKS) m) v SPX_BLOCKS 0 0 65535 k.within may-count.0 (omega arith) (omega arith) (omega arith) (omega arith) in
      record {
        within = g.within;
        spx = subst (λ i. cell_of (put_in m i v) SPX_BLOCKS ≤ suc a) (sym z) (let o = cell_at m SPX_BLOCKS v k.within.sized (omega arith) (omega arith) in omega arith);
        cpl = rw (cell-beside m (place_of (cell SPX_BLOCKS) m) v CPL_BLOCKS (omega arith) (omega arith) (λ i. omega arith)) k.cpl;
        tags = rw (cell-beside m (place_of (cell SPX_BLOCKS) m) v AHT_TAGS (omega arith) (omega arith) (λ i. omega arith)) k.tags;
      }))
      (λ y q fs d. quiet_walk _ refl (suc a) b c y q fs d))
      (λ _. record { within = k.within; spx = let u = k.spx in omega arith; cpl = k.cpl; tags = k.tags }))
      (λ y q fs d. walks-end s l Counted y q fs d)

  cpl-walk : (a b c : ℕ) (st : State) (p : ℕ) (es : List Entry) → b ≤ 5 → Tally a b c st.cells → Walks s l Counted cpl_coordinates st p es (λ y q fs. Tally a (suc b) c y.cells)
  unfolding cpl_coordinates quiet
  cpl-walk a b c st p es h k =
      let m = st.cells in
      walks_next s l Counted _ _ st p es {M = λ y q fs. Tally a (suc b) c y.cells} (counted-by _ st p es refl k.within)
      (walked-when s l Counted _ _ st p es
      (λ _. walks_next s l Counted _ _ st p es {M = λ y q fs. Tally a (suc b) c y.cells}
      (record { puts-fit = λ x v e _. one_more CPL_BLOCKS m b p k.cpl (omega arith) x v e; tags-fit = λ e. absurd (not-derive _ _ _ e) })
      (walked_put s l Counted _ _ st p es
      (let v = 1 + 1 * held_of (cell CPL_BLOCKS) m in
      let z = place-cell CPL_BLOCKS m in
      let y = held-cell CPL_BLOCKS m in
      let u = k.cpl in
      let g = puts everything m (place_of (cell CPL_BLOCKS) m) v CPL_BLOCKS 0 0 65535 k.within may-count.1 (omega arith) (omega arith) (omega arith) (omega arith) in
      record {
        within = g.within;
        spx = rw (cell-beside m (place_of (cell CPL_BLOCKS) m) v SPX_BLOCKS (omega arith) (omega arith) (λ i. omega arith)) k.spx;
        cpl = subst (λ i. cell_of (put_in m i v) CPL_BLOCKS ≤ suc b) (sym z) (let o = cell_at m CPL_BLOCKS v k.within.sized (omega arith) (omega arith) in omega arith);
        tags = rw (cell-beside m (place_of (cell CPL_BLOCKS) m) v AHT_TAGS (omega arith) (omega arith) (λ i. omega arith)) k.tags;
      }))
      (λ y q fs d. quiet_walk _ refl a (suc b) c y q fs d))
      (λ _. record { within = k.within; spx = k.spx; cpl = let u = k.cpl in omega arith; tags = k.tags }))
      (λ y q fs d. walks-end s l Counted y q fs d)

-- the tags after the slots that are read are marked
read-tags : (m : List ℕ) → length m ≡ 1024 → cell_of m BLK ≤ 5 → cell_of (aht_read_by m) AHT_TAGS ≡ (cell_of m AHT_TAGS + cell_of m TAGS) % 65536
unfolding aht_read_by
read-tags m h d =
    marks (flag_of z LFEON && flag_of z (AHTINU + 6)) z 6 (omega arith)
    ∙ each_within (λ x. cell_of x AHT_TAGS ≡ v % 65536) read_of (channels_of m) y
    (λ ch x i e.
    let u = marked_in (flag_of x (AHTINU + ch)) (AHT_READ + ch) x in
    marks (coupled_in u ch && flag_of u (AHTINU + 5)) u 5 (omega arith) ∙ marks (flag_of x (AHTINU + ch)) x ch (omega arith) ∙ e)
    (each_within (λ x. (cell_of x AHT_TAGS ≡ v % 65536) × (cell_of x BLK ≤ 5)) slot_bits_of 7 (put_in m AHT_TAGS v)
    (λ slot x i e. let k : SLOT_BITS + 8 * cell_of x BLK + slot < 1024 = omega (arith, e.1) in (
      cell-beside x (SLOT_BITS + 8 * cell_of x BLK + slot) _ AHT_TAGS (omega arith) k (λ z. omega arith) ∙ e.0,
      let z = cell-beside x (SLOT_BITS + 8 * cell_of x BLK + slot) (cell_of x (TAGS + 1 + slot)) BLK (omega arith) k (λ z. omega arith) in omega (arith, e.1),
    ))
    (cell_at m AHT_TAGS v h (omega arith) (omega arith), let z = cell-beside m AHT_TAGS v BLK (omega arith) (omega arith) (λ z. omega arith) in omega arith)).0
  where
    v : ℕ
    v = cell_of m AHT_TAGS + cell_of m TAGS

    y : List ℕ
    y = each_of slot_bits_of 7 (put_in m AHT_TAGS v)

    z : List ℕ
    z = each_of read_of (channels_of m) y

    marks : (c : Bool) (x : List ℕ) (k : ℕ) → k ≤ 6 → cell_of (marked_in c (AHT_READ + k) x) AHT_TAGS ≡ cell_of x AHT_TAGS
    marks true x k b = cell-beside x (AHT_READ + k) 1 AHT_TAGS (omega arith) (omega arith) (λ i. omega arith)
    marks false x k b = refl

read_is : (st : State) → (derived AhtRead st).st.cells ≡ aht_read_by st.cells
unfolding derived
read_is st = refl

blocks_counted : Ranges
blocks_counted = (SPX_BLOCKS, SPX_BLOCKS) ∷ (CPL_BLOCKS, CPL_BLOCKS) ∷ []

pass-read : fits_derived (leaves blocks_counted) AhtRead ≡ true
unfolding quiet blocks_counted
pass-read = refl

tags-here : most TAGS ≡ tags_most
unfolding most most_in bounds
tags-here = refl

read-counts : (a b c : ℕ) (st : State) → c + tags_most < word → Tally a b c st.cells → Tally a b (c + tags_most) (derived AhtRead st).st.cells
unfolding blocks_counted
read-counts a b c st h k =
    let m = st.cells in
    let x = (derived AhtRead st).st.cells in
    let g : Changed (leaves blocks_counted) m x = derived-changes (leaves blocks_counted) AhtRead st k.within pass-read in
    let t : cell_of m TAGS ≤ tags_most = omega (arith, k.within.below TAGS, tags-here) in
    let e : cell_of x AHT_TAGS ≡ (cell_of m AHT_TAGS + cell_of m TAGS) % 65536 = ap (λ y. cell_of y AHT_TAGS) (read_is st) ∙ read-tags m k.within.sized (limits m k.within).block in
    record {
      within = g.within;
      spx = rw (leaves-same blocks_counted m x SPX_BLOCKS g (omega arith) (inl (omega arith, omega arith))) k.spx;
      cpl = rw (leaves-same blocks_counted m x CPL_BLOCKS g (omega arith) (inr (inl (omega arith, omega arith)))) k.cpl;
      tags = let u = k.tags in omega arith;
    }

module _ (s : List ℕ) (l : ℕ) where
  quantized-walk : (a b c : ℕ) (st : State) (p : ℕ) (es : List Entry) → c + tags_most < word → Tally a b c st.cells → Walks s l Counted quantized st p es (λ y q fs. Tally a b (c + tags_most) y.cells)
  unfolding quantized first_items after_items ◌⧺◌ quiet
  quantized-walk a b c st p es h k =
      walks-append s l Counted (first_items 3 quantized) (after_items 3 quantized) st p es (quiet_walk s l (first_items 3 quantized) refl a b c st p es k)
      (λ y q fs d. walks_next s l Counted _ _ y q fs {M = λ z r gs. Tally a b (c + tags_most) z.cells}
      (record { puts-fit = λ x v e _. absurd (not-put AhtRead x v e); tags-fit = λ _. let t = d.within.below TAGS in let u = d.tags in omega (arith, tags-here) })
      (walked-derive s l Counted AhtRead y q fs (λ _. read-counts a b c y h d))
      (λ z r gs f. walks-end s l Counted z r gs f))

  -- sections one after another
  quiet-first : (quiet dynamics ≡ true) × (quiet spx_strategy ≡ true) × (quiet cpl_strategy ≡ true) × (quiet rematrixing ≡ true) × (quiet bandwidth ≡ true) × (quiet exponents_of_block ≡ true) × (quiet parameters ≡ true) × (quiet deltas ≡ true)
      × (quiet skip_field ≡ true) × (quiet bsi ≡ true) × (quiet audfrm ≡ true)
  unfolding quiet pages
  quiet-first = (refl, refl, refl, refl, refl, refl, refl, refl, refl, refl, refl)

  on : (x y : Block) (a b c : ℕ) (st : State) (p : ℕ) (es : List Entry) {R : Point} → quiet x ≡ true → Tally a b c st.cells
      → ((z : State) (q : ℕ) (fs : List Entry) → Tally a b c z.cells → Walks s l Counted y z q fs R) → Walks s l Counted (x ⧺ y) st p es R
  on x y a b c st p es h k f = walks-append s l Counted x y st p es (quiet_walk s l x h a b c st p es k) f

  block-walk : (j : ℕ) (st : State) (p : ℕ) (es : List Entry) → j ≤ 5 → Tally j j (tags_most * j) st.cells → Walks s l Counted audblk st p es (λ y q fs. Tally (suc j) (suc j) (tags_most * suc j) y.cells)
  unfolding audblk
  block-walk j st p es h k =
      let t = tags_most * j in
      on _ _ j j t st p es quiet-first.0 k
      (λ st p es k. on _ _ j j t st p es quiet-first.1 k
      (λ st p es k. walks-append s l Counted spx_coordinates _ st p es (spx-walk s l j j t st p es h k)
      (λ st p es k. on _ _ (suc j) j t st p es quiet-first.2 k
      (λ st p es k. walks-append s l Counted cpl_coordinates _ st p es (cpl-walk s l (suc j) j t st p es h k)
      (λ st p es k. on _ _ (suc j) (suc j) t st p es quiet-first.3 k
      (λ st p es k. on _ _ (suc j) (suc j) t st p es quiet-first.4 k
      (λ st p es k. on _ _ (suc j) (suc j) t st p es quiet-first.5 k
      (λ st p es k. on _ _ (suc j) (suc j) t st p es quiet-first.6 k
      (λ st p es k. on _ _ (suc j) (suc j) t st p es quiet-first.7 k
      (λ st p es k. on _ _ (suc j) (suc j) t st p es quiet-first.8 k
      (λ st p es k. walks-map s l Counted
      (λ y q fs d. let z : tags_most * j + tags_most ≡ tags_most * suc j = omega arith in subst (λ c. Tally (suc j) (suc j) c y.cells) z d)
      (quantized-walk (suc j) (suc j) t st p es (omega arith) k))))))))))))

  blocks-walk : (st : State) (p : ℕ) (es : List Entry) → Tally 0 0 0 st.cells → Walks s l Counted audblks st p es (λ y q fs. Within y.cells)
  unfolding audblks quiet
  blocks-walk st p es k =
      let n : held_of (cell NUMBLKS) st.cells ≤ 6 = let e = held-cell NUMBLKS st.cells in omega (arith, k.within.below NUMBLKS, numblks-most) in
      walks_next s l Counted _ _ st p es {M = λ y q fs. (j : ℕ) × Tally j j (tags_most * j) y.cells} (counted-by _ st p es refl k.within)
      (walked-each s l Counted BLK _ _ _ st p es (λ j y q fs. Tally j j (tags_most * j) y.cells)
      (record { within = k.within; spx = let u = k.spx in omega arith; cpl = let u = k.cpl in omega arith; tags = let u = k.tags in omega arith })
      (λ j y q fs i d. block-walk j (stored y BLK j) q fs (omega arith)
      (count-stays j j (tags_most * j) y.cells (put_in y.cells BLK j)
      (puts (leaves counters) y.cells BLK j BLK 0 0 5 d.within (may-count s l).2 (omega arith) (omega arith) (omega arith) (omega arith)) d))
      (λ j y q fs i d. (j, d)))
      (λ y q fs d. walks-map s l Counted (λ z r gs f. f.within) (quiet_walk s l _ refl d.0 d.0 (tags_most * d.0) y q fs d.1))

  body-walk : (st : State) (p : ℕ) (es : List Entry) → Tally 0 0 0 st.cells → Walks s l Counted body st p es (λ y q fs. Within y.cells)
  unfolding body
  body-walk st p es k = on _ _ 0 0 0 st p es quiet-first.9 k (λ st p es k. on _ _ 0 0 0 st p es quiet-first.10 k (λ st p es k. blocks-walk st p es k))

-- together
small_all : (fitting small everything header ≡ true) × (fitting small everything body ≡ true)
unfolding fitting small counts-to everything syncinfo bsi_size pages header
small_all = (refl, refl)

quiet-header : quiet header ≡ true
unfolding quiet header syncinfo bsi_size ◌⧺◌
quiet-header = refl

start-counts : Tally 0 0 0 start.cells
unfolding start
start-counts = record { within = none_within; spx = let z = cell-none SPX_BLOCKS in omega arith; cpl = let z = cell-none CPL_BLOCKS in omega arith; tags = let z = cell-none AHT_TAGS in omega arith }

module _ (s : List ℕ) (l : ℕ) (short : l ≤ farthest) where
  unwraps : (b : Block) → fitting small everything b ≡ true → (st : State) (p : ℕ) (es : List Entry) → Within st.cells → p ≤ farthest → Along s l Counted b st p es → Along s l (Unwrapped s l) b st p es
  unfolding fitting
  unwraps b h st p es w q c =
      along-both s l (λ i st p es. Counted i st p es → Unwrapped s l i st p es) Counted (Unwrapped s l) (λ i st p es f k. f k) b st p es
      (along-both s l (Rest s l) (Place s l farthest short) (λ i st p es. Counted i st p es → Unwrapped s l i st p es) (λ i st p es f k. f k) b st p es
      (fits-block small s l (Rest s l) (by-bounds s l short) everything b [] h st p es w tt).along (along-place s l farthest short b st p es q))
      c

pub nothing-wraps : NothingWraps
nothing-wraps = record {
  in_header = λ s. unwraps s 48 (omega arith) header small_all.0 start 0 [] start-counts.within (omega arith) (quiet_walk s 48 header quiet-header 0 0 0 start 0 [] start-counts).along;
  in_body = λ s h e.
      let k : Tally 0 0 0 h.cells = (quiet_walk s 48 header quiet-header 0 0 0 start 0 [] start-counts).ends h (headed-gives s h e) in
      let z : 8 * bytes_of h ≤ farthest = omega (arith, k.within.below FRMSIZ, frmsiz-most) in
      let r = (run-reaches (header_by eac3 (seen eac3 s)) s 0 48).reaches h e in
      unwraps s (8 * bytes_of h) z body small_all.1 h _ _ k.within (omega arith) (body-walk s (8 * bytes_of h) h _ _ k).along;
}
