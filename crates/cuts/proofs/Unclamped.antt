-- No clamp of the definitions acts, wherever a reading comes: it follows from the bounds by one computed test, and from what allocations find. Assumes nothing.
use mathlib.Core.Path.{◌≡◌, refl, ap}
use mathlib.Core.Bool.{Bool, true, ◌&&◌}
use mathlib.Core.List.{List, []}
use Prim.Native.Nat.{ℕ, ◌+◌, ◌*◌, ◌≤◌, ◌<◌}
use native.Mathlib.Omega.{arith}
use lib.Dec.{leb, ltb}
use borrow.Author.Tests.{leb-true, ltb-true}
use Rattle.reading.specs.Run.{Entry}
use Rattle.reading.specs.Frame.{header_by, seen}
use Rattle.cells.specs.Cells.{State, Addr, Sum, cell_of, held_of}
use Rattle.cells.specs.Names.{ABSEXP, ACMOD, BLOCK, CH, CPL_SUBND_END, CPLBEGF, CPLEND, CPLENDF, CPLFLEAK, CPLSLEAK, CSNROFFST, DBPBCOD, DELTBA, DELTLEN, DELTNSEG, DELTOFFST, FDCYCOD, FGAINCOD, FLOORCOD, FRMCHEXPSTR, FRMCPLEXPSTR, FRMSIZ, FSNROFFST, NFCHANS, NUMBLKS, NUMBLKSCOD, SDCYCOD, SGAINCOD, SPX_BEGIN, SPX_END, SPXBEGF, SPXENDF}
use Rattle.derivations.specs.Derivations.{Blkstrtinfo, Nspxbnds, Ncplbnd, Allocation}
use Rattle.rows.specs.Syntax.{Number, Cell, Word, Cond, Is, Not, Above, Below, Among, Differs, Over, Under, AtLeast, Value, Here, Let, Less, Plus, Minus, Count, Fixed, Held, Item, Block, element, elements, span, mantissas, exponents, when, each, reject, reject_at, put, fill, derive, none}
use Rattle.annex.specs.Syncinfo.{syncinfo, bsi_size}
use Rattle.annex.specs.Annex.{header, body}
use Rattle.annex.specs.Frame.{start, bytes_of, eac3}
use Rattle.bounds.specs.Along.{Point, Along}
use Rattle.bounds.specs.Bounds.{bounds, most_in, most, Within}
use Rattle.unmet.specs.Unmet.{EndsFit, Ready, Unmet}
use Rattle.cuts.specs.Unclamped.{RangesFit, PartFits, Placed, NumberPlaced, CondPlaced, ValueFits, CountPlaced, DerivationFits, CodesFit, Unclamped, NothingClamped}
use Rattle.bounds.proofs.Bounds.{both, frmsiz-most, spread, spreads, most_over, most-over}
use Rattle.bounds.proofs.Bounded.{fitting, pages, start-within, header-within}
use Rattle.bounds.proofs.Alongs.{Place, along-both, along-place}
use Rattle.bounds.proofs.Reaches.{run-reaches}
use Rattle.cuts.proofs.Differences.{Taken, Differences, header-differs, body-differs}
use Rattle.outcomes.specs.Outcomes.{farthest}
use Rattle.bounds.proofs.Fits.{fits-block}
use Rattle.unmet.proofs.Unmet.{unmet}
use Rattle.unmet.proofs.Uses.{header-unmet}

everything : ℕ → ℕ → ℕ → Bool
everything j a z = true

-- the tests: of a part, an address, a number, a condition, a value, the end of a loop, an item
part : Sum → Bool
part i = ltb (most BLOCK) 128 && ltb (i.number + most i.cell) 32768

place : Addr → Bool
place a = ltb (a.base + spread a []) 1024

number : Number → Bool
number (Cell a) = place a
number (Word n) = true

condition : Cond → Bool
condition (Is a x) = place a
condition (Not a x) = place a
condition (Above a x) = place a
condition (Below a x) = place a
condition (Among a xs) = place a
condition (Differs a n) = place a && number n
condition (Over a n) = place a && number n
condition (Under a n) = place a && number n
condition (AtLeast a n) = place a && number n

value : Value → Bool
value Here = true
value (Let x y a) = place a
value (Less x y a) = place a
value (Plus a k) = place a && ltb k 1024
value (Minus a k) = place a && ltb k 1024

count : Count → Bool
count (Fixed n) = true
count (Held a) = place a

in_range : Item → Bool
in_range (element name i w a) = part i && place a
in_range (elements name i w a k f n) = ltb k 1024 && ltb n 1024
in_range (span name k) = part none && ltb k 1024
in_range (mantissas name a) = part none && place a
in_range (exponents s name i) = part i && (ltb (s.number + most s.cell) 7 && ltb (most ABSEXP) 16)
in_range (when c b) = condition c
in_range (each k i n b) = ltb k 1024 && count n
in_range (reject c n) = condition c
in_range (reject_at c n k) = condition c && ltb k 1024
in_range (put a v) = place a && value v
in_range (fill k n x y a) = leb (k + n) 1024 && place a
in_range (derive k) = true

-- what they say
module _ (m : List ℕ) (w : Within m) where
  part-fits : (i : Sum) → part i ≡ true → PartFits i m
  unfolding part
  part-fits i h =
      let t = both (ltb (most BLOCK) 128) (ltb (i.number + most i.cell) 32768) h in
      (omega (arith, w.below BLOCK, ltb-true (most BLOCK) 128 t.0), omega (arith, w.below i.cell, ltb-true (i.number + most i.cell) 32768 t.1))

  placed : (a : Addr) → place a ≡ true → Placed a m
  unfolding place
  placed a h = let s = spreads a [] m w tt in omega (arith, ltb-true (a.base + spread a []) 1024 h)

  number-placed : (n : Number) → number n ≡ true → NumberPlaced n m
  unfolding number
  number-placed (Cell a) h = placed a h
  number-placed (Word n) h = tt

  two-placed : (a : Addr) (n : Number) → (place a && number n) ≡ true → Placed a m × NumberPlaced n m
  two-placed a n h = let t = both (place a) (number n) h in (placed a t.0, number-placed n t.1)

  condition-placed : (c : Cond) → condition c ≡ true → CondPlaced c m
  unfolding condition
  condition-placed (Is a x) h = placed a h
  condition-placed (Not a x) h = placed a h
  condition-placed (Above a x) h = placed a h
  condition-placed (Below a x) h = placed a h
  condition-placed (Among a xs) h = placed a h
  condition-placed (Differs a n) h = two-placed a n h
  condition-placed (Over a n) h = two-placed a n h
  condition-placed (Under a n) h = two-placed a n h
  condition-placed (AtLeast a n) h = two-placed a n h

  beside_placed : (a : Addr) (k : ℕ) → (place a && ltb k 1024) ≡ true → Placed a m × (k < 1024)
  beside_placed a k h = let t = both (place a) (ltb k 1024) h in (placed a t.0, ltb-true k 1024 t.1)

  value-fits : (v : Value) → value v ≡ true → ((x y : ℕ) (a : Addr) → v ≡ Less x y a → x ≤ y * held_of a m) → ((a : Addr) (k : ℕ) → v ≡ Minus a k → cell_of m k ≤ held_of a m) → ValueFits v m
  unfolding value
  value-fits Here h f g = tt
  value-fits (Let x y a) h f g = placed a h
  value-fits (Less x y a) h f g = (placed a h, f x y a refl)
  value-fits (Plus a k) h f g = beside_placed a k h
  value-fits (Minus a k) h f g = let t = beside_placed a k h in (t.0, t.1, g a k refl)

  count-placed : (n : Count) → count n ≡ true → CountPlaced n m
  unfolding count
  count-placed (Fixed n) h = tt
  count-placed (Held a) h = placed a h

-- the codes of an allocation
codes-most : (most_over FSNROFFST 6 ≡ 15) × (most_over FGAINCOD 6 ≡ 7) × (most_over DELTNSEG 5 ≡ 8) × (most_over DELTOFFST 47 ≡ 31) × (most_over DELTLEN 47 ≡ 15) × (most_over DELTBA 47 ≡ 7)
unfolding most_over most most_in bounds
codes-most = (refl, refl, refl, refl, refl, refl)

ranges-fit : (m : List ℕ) → Within m → EndsFit m → RangesFit m
unfolding most most_in bounds
ranges-fit m w e = record { channels = w.below NFCHANS; ends = e.channels; coupling_ends = w.below CPLEND; coupling = e.coupling }

codes-fit : (es : List Entry) (m : List ℕ) → Within m → Ready es m → CodesFit m
unfolding most most_in bounds
codes-fit es m w r = record {
  ranges = ranges-fit m w r.ends;
  some = r.some;
  rate = r.rate;
  parameters = (w.below SDCYCOD, w.below FDCYCOD, w.below SGAINCOD, w.below DBPBCOD, w.below FLOORCOD);
  coarse = let z = w.below CSNROFFST in omega arith;
  fine = λ slot h. (over FSNROFFST 6 slot (omega arith) 15 codes-most.0, over FGAINCOD 6 slot (omega arith) 7 codes-most.1);
  leaks = (let z = w.below CPLFLEAK in omega arith, let z = w.below CPLSLEAK in omega arith);
  segments = λ slot h. over DELTNSEG 5 slot (omega arith) 8 codes-most.2;
  segment = λ i h. (over DELTOFFST 47 i (omega arith) 31 codes-most.3, over DELTLEN 47 i (omega arith) 15 codes-most.4, over DELTBA 47 i (omega arith) 7 codes-most.5);
}
  where
    over : (k n i : ℕ) → i ≤ n → (x : ℕ) → most_over k n ≡ x → cell_of m (k + i) ≤ x
    over k n i h x e = omega (arith, w.below (k + i), most-over k n (k + i) (omega arith) (omega arith))

derivation-fits : (k : ℕ) (m : List ℕ) → Within m → (k ≡ Allocation → CodesFit m) → (k ≡ Blkstrtinfo → 1 ≤ cell_of m NUMBLKS) → (k ≡ Nspxbnds → cell_of m SPX_BEGIN < cell_of m SPX_END)
    → (k ≡ Ncplbnd → cell_of m CPLBEGF < cell_of m CPL_SUBND_END) → DerivationFits k m
unfolding most most_in bounds
derivation-fits k m w a b c d = record {
  numblks = λ _. w.below NUMBLKSCOD;
  nfchans = λ _. w.below ACMOD;
  cpl_strategies = λ _. w.below FRMCPLEXPSTR;
  ch_strategies = λ _. (w.below FRMCHEXPSTR, w.below CH);
  blkstrtinfo = λ e. (b e, w.below FRMSIZ);
  spx_range = λ _. (w.below SPXBEGF, w.below SPXENDF);
  nspxbnds = λ e. (c e, w.below SPX_END);
  cpl_range = λ _. (w.below SPXBEGF, w.below CPLENDF);
  ncplbnd = λ e. (let z = d e in omega arith, w.below CPL_SUBND_END);
  endmants = λ _. w.below NFCHANS;
  allocation = a;
  aht_read = λ _. w.below NFCHANS;
}

-- with what was shown of allocations and mantissas, and of differences
abbrev Rest : Item → Point
Rest i st p es = Unmet i st p es → Taken i st p es → Unclamped i st p es

in-range : (i : Item) (st : State) (p : ℕ) (es : List Entry) → in_range i ≡ true → Within st.cells → Rest i st p es
unfolding in_range
in-range (element name i b a) st p es h w u f = let t = both (part i) (place a) h in (part-fits st.cells w i t.0, placed st.cells w a t.1)
in-range (elements name i b a k o n) st p es h w u f = let t = both (ltb k 1024) (ltb n 1024) h in (ltb-true k 1024 t.0, ltb-true n 1024 t.1)
in-range (span name k) st p es h w u f = let t = both (part none) (ltb k 1024) h in (part-fits st.cells w none t.0, ltb-true k 1024 t.1)
in-range (mantissas name a) st p es h w u f = let t = both (part none) (place a) h in (part-fits st.cells w none t.0, placed st.cells w a t.1, ranges-fit st.cells w u)
in-range (exponents s name i) st p es h w u f =
    let t = both (part i) (ltb (s.number + most s.cell) 7 && ltb (most ABSEXP) 16) h in
    let v = both (ltb (s.number + most s.cell) 7) (ltb (most ABSEXP) 16) t.1 in (
      part-fits st.cells w i t.0,
      omega (arith, w.below s.cell, ltb-true (s.number + most s.cell) 7 v.0),
      omega (arith, w.below ABSEXP, ltb-true (most ABSEXP) 16 v.1),
    )
in-range (when c b) st p es h w u f = condition-placed st.cells w c h
in-range (each k i n b) st p es h w u f = let t = both (ltb k 1024) (count n) h in (ltb-true k 1024 t.0, count-placed st.cells w n t.1)
in-range (reject c n) st p es h w u f = condition-placed st.cells w c h
in-range (reject_at c n k) st p es h w u f = let t = both (condition c) (ltb k 1024) h in (condition-placed st.cells w c t.0, ltb-true k 1024 t.1)
in-range (put a v) st p es h w u f = let t = both (place a) (value v) h in (placed st.cells w a t.0, value-fits st.cells w v t.1 (λ x y b e. f.less a b x y (ap (put a) e)) (λ b k e. f.minus a b k (ap (put a) e)))
in-range (fill k n x y a) st p es h w u f = let t = both (leb (k + n) 1024) (place a) h in (leb-true (k + n) 1024 t.0, placed st.cells w a t.1)
in-range (derive k) st p es h w u f =
    derivation-fits k st.cells w (λ e. codes-fit es st.cells w (u e)) (λ e. f.starts (ap derive e)) (λ e. f.spx-bands (ap derive e)) (λ e. f.cpl-bands (ap derive e))

-- the test of the pages
all-in-range : (fitting in_range everything header ≡ true) × (fitting in_range everything body ≡ true)
unfolding fitting in_range part place number condition value count everything header syncinfo bsi_size pages
all-in-range = (refl, refl)

module _ (s : List ℕ) (l : ℕ) where
  unclamped-by : l ≤ farthest → (b : Block) → fitting in_range everything b ≡ true → (st : State) (p : ℕ) (es : List Entry) → p ≤ farthest → Within st.cells → Along s l Unmet b st p es
      → Along s l Differences b st p es → Along s l Unclamped b st p es
  unfolding fitting
  unclamped-by short b h st p es q w u d =
      along-both s l (λ i st p es. Taken i st p es → Unclamped i st p es) Taken Unclamped (λ i st p es f k. f k) b st p es
      (along-both s l Rest Unmet (λ i st p es. Taken i st p es → Unclamped i st p es) (λ i st p es f k. f k) b st p es (fits-block in_range s l Rest in-range everything b [] h st p es w tt).along u)
      (along-both s l Differences (Place s l farthest short) Taken (λ i st p es f k. f k) b st p es d (along-place s l farthest short b st p es q))

pub nothing-clamped : NothingClamped
nothing-clamped = record {
  in_header = λ s. unclamped-by s 48 (omega arith) header all-in-range.0 start 0 [] (omega arith) start-within (header-unmet s 48) (header-differs s 48 start 0 [] start-within);
  in_body = λ s h e.
      let w = header-within s h e in
      let z : 8 * bytes_of h ≤ farthest = omega (arith, w.below FRMSIZ, frmsiz-most) in
      let r = (run-reaches (header_by eac3 (seen eac3 s)) s 0 48).reaches h e in
      unclamped-by s (8 * bytes_of h) z body all-in-range.1 h _ _ (omega arith) w (unmet s h e) (body-differs s (8 * bytes_of h) h _ _ w);
}
