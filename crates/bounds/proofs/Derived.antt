-- What the derivations put: of each the cells and their range, and that a test which permits these permits the derivation. Assumes nothing.
use mathlib.Core.Path.{◌≡◌, refl, subst}
use mathlib.Core.Bool.{Bool, true, false, cond, not, ◌&&◌, ◌||◌}
use mathlib.Core.List.{List, [], ◌∷◌}
use Prim.Native.Nat.{ℕ, zero, suc, ◌+◌, ◌-◌, ◌*◌, ◌%◌, ◌^◌, ◌≤◌, ◌<◌}
use native.Mathlib.Omega.{arith}
use native.Mathlib.Nat.{mul-le-mul_left, mul-le-mul_right}
use lib.Dec.{eqb, leb, ltb}
use lib.ListN.{length, get_or}
use borrow.Author.Tests.{leb-true}
use Rattle.tables.specs.Small.{nfchans, frmexpstr, defspxbndstrc, defcplbndstrc}
use Rattle.allocation.specs.State.{fresh_state}
use Rattle.cells.specs.Cells.{State, cell_of, put_in}
use Rattle.cells.specs.Names.{ACMOD, CHBWCOD, CPLINUS, CPLSTRE, FRMSIZ, LFEEXPSTR, AHT_READ, AHT_TAGS, AHTINU, BAI_SENT, BLK, CH, CHEXPSTR, CPL_SUBND_END, CPLBEGF, CPLBNDSTRC, CPLEND, CPLENDF, CPLEXPSTR, CPLINU, CPLSTRT, CSNROFFST, DELTNSEG, ENDMANT, FGAINCOD, FIRSTCPLCOS, FIRSTCPLLEAK, FIRSTSPXCOS, FRMCHEXPSTR, FRMCPLEXPSTR, FSNROFFST, LFEON, NCHREGS, NCPLBLKS, NCPLBND, NCPLREGS, NFCHANS, NLFEREGS, NREMATBD, NSPXBNDS, NUMBLKS, NUMBLKSCOD, SLOT_BITS, SPX_BEGIN, SPX_END, SPXBEGF, SPXBNDSTRC, SPXENDF, SPXINU, TAGS, WIDTH}
use Rattle.derivations.specs.Acted.{Acted, acted}
use Rattle.sideinfo.specs.Steps.{sum_of, each_of}
use Rattle.sideinfo.specs.Frames.{numblks_by, nfchans_by, holding, ncplblks_by, strategies_by, cpl_strategies_by, ch_strategies_by, cpl_regions, regions_from, nchregs_by, regions_by, powers_below, blkstrtinfo_by}
use Rattle.sideinfo.specs.Blocks.{spx_range_by, nspxbnds_by, cpl_range_by, ncplbnd_by, nrematbd_by, flag_of, coupled_in, extended_in, endmant_of, cpl_bins_by, channels_of, unknown_here, endmants_by, marked_in, read_of, slot_bits_of, aht_read_by}
use Rattle.derivations.specs.Allocating.{put_all, sent_of, put_state, five_ones, fresh_by, defaults_by, allocate_in}
use Rattle.derivations.specs.Derivations.{Numblks, Nfchans, Fresh, Ncplblks, CplStrategies, ChStrategies, Regions, Blkstrtinfo, SpxRange, Nspxbnds, CplRange, Ncplbnd, Nrematbd, Endmants, Defaults, Allocation, AhtRead, puts as putting, endmants_in, derived}
use Rattle.bounds.specs.Bounds.{bounds, most_in, most, Within}
use Rattle.bounds.proofs.Bounds.{both, Test, may, most_over, most-over, Changed, changed-none, changed_then, puts}

-- a table's largest
all_up_to : ℕ → List ℕ → Bool
all_up_to z [] = true
all_up_to z (v ∷ vs) = leb v z && all_up_to z vs

at_most : (z : ℕ) (vs : List ℕ) (i : ℕ) → all_up_to z vs ≡ true → get_or vs i 0 ≤ z
unfolding all_up_to
at_most z [] i h = omega arith
at_most z (v ∷ vs) zero h = leb-true v z (both (leb v z) (all_up_to z vs) h).0
at_most z (v ∷ vs) (suc i) h = at_most z vs i (both (leb v z) (all_up_to z vs) h).1

-- one of two values
either : (c : Bool) (x y a z : ℕ) → (c ≡ true → (a ≤ x) × (x ≤ z)) → (c ≡ false → (a ≤ y) × (y ≤ z)) → (a ≤ cond c x y) × (cond c x y ≤ z)
either true x y a z h k = h refl
either false x y a z h k = k refl

-- acmod gives at most five channels; a strategy has two bits; there are two to four rematrixing bands
pub nfchans-most : (i : ℕ) → get_or nfchans i 0 ≤ 5
unfolding nfchans all_up_to
nfchans-most i = at_most 5 nfchans i refl

strategy-most : (i : ℕ) → get_or frmexpstr i 0 ≤ 3
unfolding frmexpstr all_up_to
strategy-most i = at_most 3 frmexpstr i refl

remat-range : (a b c d : Bool) → (2 ≤ cond a (cond b 2 (cond c 3 4)) (cond d 3 4)) × (cond a (cond b 2 (cond c 3 4)) (cond d 3 4) ≤ 4)
remat-range a b c d =
    either a (cond b 2 (cond c 3 4)) (cond d 3 4) 2 4
    (λ _. either b 2 (cond c 3 4) 2 4 (λ _. (omega arith, omega arith)) (λ _. either c 3 4 2 4 (λ _. (omega arith, omega arith)) (λ _. (omega arith, omega arith))))
    (λ _. either d 3 4 2 4 (λ _. (omega arith, omega arith)) (λ _. (omega arith, omega arith)))

-- what is counted one by one
pub flag-most : (c : Bool) → cond c 1 0 ≤ 1
flag-most true = omega arith
flag-most false = omega arith

flag-not-most : (c : Bool) → cond c 0 1 ≤ 1
flag-not-most true = omega arith
flag-not-most false = omega arith

pub sum-most : (f : ℕ → ℕ) (n : ℕ) → ((i : ℕ) → f i ≤ 1) → sum_of f n ≤ n
unfolding sum_of
sum-most f zero h = omega arith
sum-most f (suc n) h = omega (arith, sum-most f n h, h n)

-- the bounds that the ranges follow from
pub record Limits (m : List ℕ) : Type 0 where
  pub numblkscod : cell_of m NUMBLKSCOD ≤ 3
  pub numblks : cell_of m NUMBLKS ≤ 6
  pub block : cell_of m BLK ≤ 5
  pub channel : cell_of m CH ≤ 4
  pub nfchans : cell_of m NFCHANS ≤ 5
  pub spxbegf : cell_of m SPXBEGF ≤ 7
  pub spxendf : cell_of m SPXENDF ≤ 7
  pub spx-begin : cell_of m SPX_BEGIN ≤ 11
  pub spx-end : cell_of m SPX_END ≤ 17
  pub cplbegf : cell_of m CPLBEGF ≤ 15
  pub cplendf : cell_of m CPLENDF ≤ 15
  pub cpl-end : cell_of m CPL_SUBND_END ≤ 18
  pub cplstrt : cell_of m CPLSTRT ≤ 217
  pub chbwcod : (ch : ℕ) → ch < 5 → cell_of m (CHBWCOD + ch) ≤ 63

chbwcods-most : most_over CHBWCOD 4 ≡ 63
unfolding most_over most most_in bounds
chbwcods-most = refl

pub limits : (m : List ℕ) → Within m → Limits m
unfolding most most_in bounds
limits m w = record {
  numblkscod = w.below NUMBLKSCOD;
  numblks = w.below NUMBLKS;
  block = w.below BLK;
  channel = w.below CH;
  nfchans = w.below NFCHANS;
  spxbegf = w.below SPXBEGF;
  spxendf = w.below SPXENDF;
  spx-begin = w.below SPX_BEGIN;
  spx-end = w.below SPX_END;
  cplbegf = w.below CPLBEGF;
  cplendf = w.below CPLENDF;
  cpl-end = w.below CPL_SUBND_END;
  cplstrt = w.below CPLSTRT;
  chbwcod = λ ch h. omega (arith, w.below (CHBWCOD + ch), most-over CHBWCOD 4 (CHBWCOD + ch) (omega arith) (omega arith), chbwcods-most);
}

-- the end of a channel
endmant-most : (m : List ℕ) (ch : ℕ) → Within m → ch < 5 → endmant_of m ch ≤ 262
unfolding endmant_of
endmant-most m ch w h =
    let b = limits m w in
    let r = b.chbwcod ch h in
    let e = either (extended_in m ch) (25 + 12 * cell_of m SPX_BEGIN) (37 + 3 * (cell_of m (CHBWCOD + ch) + 12)) 0 262 (λ _. (omega arith, omega arith)) (λ _. (omega arith, omega arith)) in
    (either (coupled_in m ch) (cell_of m CPLSTRT) _ 0 262 (λ _. (omega arith, omega arith)) (λ _. e)).1

module _ (permits : Test) where
  -- these values, from the cell k on
  unfoldable pub may_all : ℕ → List ℕ → Bool
  may_all k [] = true
  may_all k (v ∷ vs) = (leb v 65535 && may permits k 0 v v) && may_all (suc k) vs

  unfoldable pub fits_fresh : Bool
  unfolding fresh_state defspxbndstrc defcplbndstrc
  fits_fresh =
      may_all BAI_SENT (sent_of fresh_state.parameters)
      && (may_all CSNROFFST (fresh_state.csnroffst ∷ fresh_state.cplfleak ∷ fresh_state.cplsleak ∷ [])
      && (may_all FSNROFFST fresh_state.fsnroffst
      && (may_all FGAINCOD fresh_state.fgaincod
      && (may_all DELTNSEG (0 ∷ 0 ∷ 0 ∷ 0 ∷ 0 ∷ 0 ∷ [])
      && (may_all SPXBNDSTRC defspxbndstrc
      && (may_all CPLBNDSTRC defcplbndstrc
      && (may_all FIRSTSPXCOS five_ones
      && (may_all FIRSTCPLCOS five_ones
      && may permits FIRSTCPLLEAK 0 1 1))))))))

  -- of each the first cell, how many follow it, and the least and the greatest value
  unfoldable pub fits_derived : ℕ → Bool
  fits_derived k =
      cond (eqb k Numblks) (may permits NUMBLKS 0 1 6)
      (cond (eqb k Nfchans) (may permits NFCHANS 0 0 5)
      (cond (eqb k Fresh) fits_fresh
      (cond (eqb k Ncplblks) (may permits NCPLBLKS 0 0 6)
      (cond (eqb k CplStrategies) (may permits CPLEXPSTR 5 0 3)
      (cond (eqb k ChStrategies) (may permits CHEXPSTR 44 0 3)
      (cond (eqb k Regions) (may permits NCPLREGS 6 0 6)
      (cond (eqb k Blkstrtinfo) (may permits WIDTH 0 0 105)
      (cond (eqb k SpxRange) (may permits SPX_BEGIN 0 0 11 && may permits SPX_END 0 0 17)
      (cond (eqb k Nspxbnds) (may permits NSPXBNDS 0 1 17)
      (cond (eqb k CplRange) (may permits CPL_SUBND_END 0 0 18)
      (cond (eqb k Ncplbnd) (may permits NCPLBND 0 1 18)
      (cond (eqb k Nrematbd) (may permits NREMATBD 0 2 4)
      (cond (eqb k Endmants) (may permits CPLSTRT 0 0 217 && (may permits CPLEND 0 0 253 && may permits ENDMANT 4 0 262))
      (cond (eqb k Defaults) (may_all BAI_SENT (1 ∷ 2 ∷ 1 ∷ 1 ∷ 2 ∷ 7 ∷ []))
      (cond (eqb k Allocation) true
      (cond (eqb k AhtRead) (may permits AHT_TAGS 0 0 65535 && (may permits SLOT_BITS 47 0 65535 && may permits AHT_READ 6 1 1))
      true))))))))))))))))

  -- one put more: of any value; of one in a range
  any : (x y : List ℕ) (k v lo n : ℕ) → Changed permits x y → may permits lo n 0 65535 ≡ true → lo ≤ k → k ≤ lo + n → Changed permits x (put_in y k v)
  any x y k v lo n g h i j = changed_then permits x y (put_in y k v) g (puts permits y k v lo n 0 65535 g.within h i j (omega arith) (omega arith))

  ranged : (x y : List ℕ) (k v lo n a z : ℕ) → Changed permits x y → may permits lo n a z ≡ true → lo ≤ k → k ≤ lo + n → (a ≤ v) × (v ≤ z) → z ≤ 65535 → Changed permits x (put_in y k v)
  ranged x y k v lo n a z g h i j r e =
      let t : v % 65536 ≡ v = omega arith in
      changed_then permits x y (put_in y k v) g (puts permits y k v lo n a z g.within h i j (omega arith) (omega arith))

  -- a list of values
  all-at : (k : ℕ) (vs : List ℕ) (i : ℕ) → may_all k vs ≡ true → i < length vs → (get_or vs i 0 ≤ 65535) × (may permits (k + i) 0 (get_or vs i 0) (get_or vs i 0) ≡ true)
  unfolding may_all
  all-at k [] i h j = absurd (let z : ⊥ = omega arith in z)
  all-at k (v ∷ vs) zero h j =
      let b = both (leb v 65535) (may permits k 0 v v) (both (leb v 65535 && may permits k 0 v v) (may_all (suc k) vs) h).0 in
      let e : k ≡ k + 0 = omega arith in
      (leb-true v 65535 b.0, subst (λ x. may permits x 0 v v ≡ true) e b.1)
  all-at k (v ∷ vs) (suc i) h j =
      let r = all-at (suc k) vs i (both (leb v 65535 && may permits k 0 v v) (may_all (suc k) vs) h).1 (omega arith) in
      let e : suc k + i ≡ k + suc i = omega arith in
      (r.0, subst (λ x. may permits x 0 (get_or vs i 0) (get_or vs i 0) ≡ true) e r.1)

  -- what is done for each of the first n numbers
  each : (x m : List ℕ) (f : ℕ → List ℕ → List ℕ) (top n : ℕ) → Changed permits x m → ((i : ℕ) (y : List ℕ) → i < top → Changed permits x y → Changed permits x (f i y)) → n ≤ top → Changed permits x (each_of f n m)
  unfolding each_of
  each x m f top zero g h j = g
  each x m f top (suc n) g h j = h n (each_of f n m) (omega arith) (each x m f top n g h (omega arith))

  all : (x m : List ℕ) (k : ℕ) (vs : List ℕ) → Changed permits x m → may_all k vs ≡ true → Changed permits x (put_all m k vs)
  all x m k vs g h =
      each x m (λ i y. put_in y (k + i) (get_or vs i 0)) (length vs) (length vs) g
      (λ i y j c. let r = all-at k vs i h j in
      ranged x y (k + i) (get_or vs i 0) (k + i) 0 (get_or vs i 0) (get_or vs i 0) c r.1 (omega arith) (omega arith) (omega arith, omega arith) r.0)
      (omega arith)

  module _ (m : List ℕ) (w : Within m) where
    same : Changed permits m m
    same = changed-none permits m w

    bound : Limits m
    bound = limits m w

    numblks-changes : may permits NUMBLKS 0 1 6 ≡ true → Changed permits m (numblks_by m)
    unfolding numblks_by
    numblks-changes h =
        let b = bound.numblkscod in
        ranged m m NUMBLKS _ NUMBLKS 0 1 6 same h (omega arith) (omega arith)
        (either (eqb (cell_of m NUMBLKSCOD) 3) 6 (cell_of m NUMBLKSCOD + 1) 1 6 (λ _. (omega arith, omega arith)) (λ _. (omega arith, omega arith))) (omega arith)

    nfchans-changes : may permits NFCHANS 0 0 5 ≡ true → Changed permits m (nfchans_by m)
    unfolding nfchans_by
    nfchans-changes h = ranged m m NFCHANS _ NFCHANS 0 0 5 same h (omega arith) (omega arith) (omega arith, nfchans-most (cell_of m ACMOD)) (omega arith)

    pub fresh-changes : fits_fresh ≡ true → Changed permits m (fresh_by m)
    unfolding fits_fresh fresh_by put_state
    fresh-changes h =
        let b0 = both (may_all BAI_SENT (sent_of fresh_state.parameters)) _ h in
        let b1 = both (may_all CSNROFFST (fresh_state.csnroffst ∷ fresh_state.cplfleak ∷ fresh_state.cplsleak ∷ [])) _ b0.1 in
        let b2 = both (may_all FSNROFFST fresh_state.fsnroffst) _ b1.1 in
        let b3 = both (may_all FGAINCOD fresh_state.fgaincod) _ b2.1 in
        let b4 = both (may_all DELTNSEG (0 ∷ 0 ∷ 0 ∷ 0 ∷ 0 ∷ 0 ∷ [])) _ b3.1 in
        let b5 = both (may_all SPXBNDSTRC defspxbndstrc) _ b4.1 in
        let b6 = both (may_all CPLBNDSTRC defcplbndstrc) _ b5.1 in
        let b7 = both (may_all FIRSTSPXCOS five_ones) _ b6.1 in
        let b8 = both (may_all FIRSTCPLCOS five_ones) _ b7.1 in
        ranged m _ FIRSTCPLLEAK 1 FIRSTCPLLEAK 0 1 1
        (all m _ FIRSTCPLCOS five_ones
        (all m _ FIRSTSPXCOS five_ones
        (all m _ CPLBNDSTRC defcplbndstrc
        (all m _ SPXBNDSTRC defspxbndstrc
        (all m _ DELTNSEG (0 ∷ 0 ∷ 0 ∷ 0 ∷ 0 ∷ 0 ∷ [])
        (all m _ FGAINCOD fresh_state.fgaincod
        (all m _ FSNROFFST fresh_state.fsnroffst
        (all m _ CSNROFFST (fresh_state.csnroffst ∷ fresh_state.cplfleak ∷ fresh_state.cplsleak ∷ [])
        (all m m BAI_SENT (sent_of fresh_state.parameters) same b0.0) b1.0) b2.0) b3.0) b4.0) b5.0) b6.0) b7.0) b8.0)
        b8.1 (omega arith) (omega arith) (omega arith, omega arith) (omega arith)

    ncplblks-changes : may permits NCPLBLKS 0 0 6 ≡ true → Changed permits m (ncplblks_by m)
    unfolding ncplblks_by
    ncplblks-changes h =
        let b = bound.numblks in
        let r = sum-most (λ i. cond (eqb (cell_of m (CPLINUS + i)) 1) 1 0) (cell_of m NUMBLKS) (λ i. flag-most (eqb (cell_of m (CPLINUS + i)) 1)) in
        ranged m m NCPLBLKS _ NCPLBLKS 0 0 6 same h (omega arith) (omega arith) (omega arith, omega arith) (omega arith)

    strategies-changes : (code k d lo e : ℕ) → may permits lo e 0 3 ≡ true → lo ≤ k → k + d * 5 ≤ lo + e → Changed permits m (strategies_by code k d m)
    strategies-changes code k d lo e h i j =
        each m m (λ n x. put_in x (k + d * n) (get_or frmexpstr (6 * code + n) 0)) 6 6 same
        (λ n x b c. let t = mul-le-mul_left d (let z : n ≤ 5 = omega arith in z) in
        ranged m x (k + d * n) _ lo e 0 3 c h (omega arith) (omega arith) (omega arith, strategy-most (6 * code + n)) (omega arith))
        (omega arith)

    cpl-strategies-changes : may permits CPLEXPSTR 5 0 3 ≡ true → Changed permits m (cpl_strategies_by m)
    unfolding cpl_strategies_by
    cpl-strategies-changes h = strategies-changes (cell_of m FRMCPLEXPSTR) CPLEXPSTR 1 CPLEXPSTR 5 h (omega arith) (omega arith)

    ch-strategies-changes : may permits CHEXPSTR 44 0 3 ≡ true → Changed permits m (ch_strategies_by m)
    unfolding ch_strategies_by
    ch-strategies-changes h = let b = bound.channel in strategies-changes (cell_of m FRMCHEXPSTR) (CHEXPSTR + cell_of m CH) 8 CHEXPSTR 44 h (omega arith) (omega arith)

    regions-most : (x : List ℕ) (k d : ℕ) → regions_from x k d ≤ 6
    regions-most x k d = sum-most (λ i. cond (eqb (cell_of x (k + d * i)) 0) 0 1) 6 (λ i. flag-not-most (eqb (cell_of x (k + d * i)) 0))

    regions-changes : may permits NCPLREGS 6 0 6 ≡ true → Changed permits m (regions_by m)
    unfolding regions_by
    regions-changes h =
        let x = nchregs_by m in
        let y = put_in x NCPLREGS (cpl_regions x) in
        ranged m y NLFEREGS _ NCPLREGS 6 0 6
        (ranged m x NCPLREGS _ NCPLREGS 6 0 6
        (each m m (λ ch x. put_in x (NCHREGS + ch) (regions_from x (CHEXPSTR + ch) 8)) 5 5 same
        (λ ch x i c. ranged m x (NCHREGS + ch) _ NCPLREGS 6 0 6 c h (omega arith) (omega arith) (omega arith, regions-most x (CHEXPSTR + ch) 8) (omega arith))
        (omega arith))
        h (omega arith) (omega arith) (
          omega arith,
          sum-most (λ i. cond (eqb (cell_of x (CPLSTRE + i)) 1 || not (eqb (cell_of x (CPLEXPSTR + i)) 0)) 1 0) 6
              (λ i. flag-most (eqb (cell_of x (CPLSTRE + i)) 1 || not (eqb (cell_of x (CPLEXPSTR + i)) 0))),
        )
        (omega arith))
        h (omega arith) (omega arith) (omega arith, regions-most y LFEEXPSTR 1) (omega arith)

    blkstrtinfo-changes : may permits WIDTH 0 0 105 ≡ true → Changed permits m (blkstrtinfo_by m)
    unfolding blkstrtinfo_by
    blkstrtinfo-changes h =
        let b = bound.numblks in
        let r = sum-most (λ i. cond (ltb (2 ^ i) (cell_of m FRMSIZ + 1)) 1 0) 17 (λ i. flag-most (ltb (2 ^ i) (cell_of m FRMSIZ + 1))) in
        let t = mul-le-mul_right (4 + powers_below (cell_of m FRMSIZ + 1) 17) (let z : cell_of m NUMBLKS - 1 ≤ 5 = omega arith in z) in
        ranged m m WIDTH _ WIDTH 0 0 105 same h (omega arith) (omega arith) (omega arith, omega arith) (omega arith)

    bands-most : (k n : ℕ) → holding m k 0 n ≤ n
    bands-most k n = sum-most (λ i. cond (eqb (cell_of m (k + i)) 0) 1 0) n (λ i. flag-most (eqb (cell_of m (k + i)) 0))

    spx-range-changes : (may permits SPX_BEGIN 0 0 11 && may permits SPX_END 0 0 17) ≡ true → Changed permits m (spx_range_by m)
    unfolding spx_range_by
    spx-range-changes h =
        let t = both (may permits SPX_BEGIN 0 0 11) (may permits SPX_END 0 0 17) h in
        let b = bound.spxbegf in
        let e = bound.spxendf in
        ranged m _ SPX_END _ SPX_END 0 0 17
        (ranged m m SPX_BEGIN _ SPX_BEGIN 0 0 11 same t.0 (omega arith) (omega arith)
        (either (ltb (cell_of m SPXBEGF) 6) (cell_of m SPXBEGF + 2) (2 * cell_of m SPXBEGF - 3) 0 11 (λ _. (omega arith, omega arith)) (λ _. (omega arith, omega arith))) (omega arith))
        t.1 (omega arith) (omega arith)
        (either (ltb (cell_of m SPXENDF) 3) (cell_of m SPXENDF + 5) (2 * cell_of m SPXENDF + 3) 0 17 (λ _. (omega arith, omega arith)) (λ _. (omega arith, omega arith))) (omega arith)

    nspxbnds-changes : may permits NSPXBNDS 0 1 17 ≡ true → Changed permits m (nspxbnds_by m)
    unfolding nspxbnds_by
    nspxbnds-changes h =
        let b = bound.spx-end in
        let r = bands-most (SPXBNDSTRC + cell_of m SPX_BEGIN + 1) (cell_of m SPX_END - (cell_of m SPX_BEGIN + 1)) in
        ranged m m NSPXBNDS _ NSPXBNDS 0 1 17 same h (omega arith) (omega arith) (omega arith, omega arith) (omega arith)

    cpl-range-changes : may permits CPL_SUBND_END 0 0 18 ≡ true → Changed permits m (cpl_range_by m)
    unfolding cpl_range_by
    cpl-range-changes h =
        let b = bound.spxbegf in
        let e = bound.cplendf in
        let r = either (ltb (cell_of m SPXBEGF) 6) (cell_of m SPXBEGF + 1) (2 * cell_of m SPXBEGF - 4) 0 18 (λ _. (omega arith, omega arith)) (λ _. (omega arith, omega arith)) in
        ranged m m CPL_SUBND_END _ CPL_SUBND_END 0 0 18 same h (omega arith) (omega arith) (either (eqb (cell_of m SPXINU) 1) _ (cell_of m CPLENDF + 3) 0 18 (λ _. r) (λ _. (omega arith, omega arith))) (omega arith)

    ncplbnd-changes : may permits NCPLBND 0 1 18 ≡ true → Changed permits m (ncplbnd_by m)
    unfolding ncplbnd_by
    ncplbnd-changes h =
        let b = bound.cpl-end in
        let r = bands-most (CPLBNDSTRC + cell_of m CPLBEGF + 1) (cell_of m CPL_SUBND_END - (cell_of m CPLBEGF + 1)) in
        ranged m m NCPLBND _ NCPLBND 0 1 18 same h (omega arith) (omega arith) (omega arith, omega arith) (omega arith)

    nrematbd-changes : may permits NREMATBD 0 2 4 ≡ true → Changed permits m (nrematbd_by m)
    unfolding nrematbd_by
    nrematbd-changes h =
        ranged m m NREMATBD _ NREMATBD 0 2 4 same h (omega arith) (omega arith)
        (remat-range (eqb (cell_of m CPLINU) 1) (eqb (cell_of m CPLBEGF) 0) (ltb (cell_of m CPLBEGF) 3) (eqb (cell_of m SPXINU) 1 && ltb (cell_of m SPXBEGF) 2)) (omega arith)

    cpl-bins-changes : may permits CPLSTRT 0 0 217 ≡ true → may permits CPLEND 0 0 253 ≡ true → Changed permits m (cpl_bins_by m)
    unfolding cpl_bins_by
    cpl-bins-changes h k =
        let b = bound.cplbegf in
        let e = bound.cpl-end in
        ranged m _ CPLEND _ CPLEND 0 0 253
        (ranged m m CPLSTRT _ CPLSTRT 0 0 217 same h (omega arith) (omega arith) (omega arith, omega arith) (omega arith))
        k (omega arith) (omega arith) (omega arith, omega arith) (omega arith)

    endmants-changes : Changed permits m (cpl_bins_by m) → may permits ENDMANT 4 0 262 ≡ true → Changed permits m (endmants_by m)
    unfolding endmants_by
    endmants-changes c h =
        each m (cpl_bins_by m) (λ ch x. put_in x (ENDMANT + ch) (endmant_of x ch)) 5 (channels_of m) c
        (λ ch x i g. ranged m x (ENDMANT + ch) _ ENDMANT 4 0 262 g h (omega arith) (omega arith) (omega arith, endmant-most x ch g.within i) (omega arith))
        (omega arith)

    defaults-changes : may_all BAI_SENT (1 ∷ 2 ∷ 1 ∷ 1 ∷ 2 ∷ 7 ∷ []) ≡ true → Changed permits m (defaults_by m)
    unfolding defaults_by
    defaults-changes h = all m m BAI_SENT _ same h

    marked : (c : Bool) (x : List ℕ) (k : ℕ) → k ≤ 6 → may permits AHT_READ 6 1 1 ≡ true → Changed permits m x → Changed permits m (marked_in c (AHT_READ + k) x)
    marked true x k b h g = ranged m x (AHT_READ + k) 1 AHT_READ 6 1 1 g h (omega arith) (omega arith) (omega arith, omega arith) (omega arith)
    marked false x k b h g = g

    aht-read-changes : (may permits AHT_TAGS 0 0 65535 && (may permits SLOT_BITS 47 0 65535 && may permits AHT_READ 6 1 1)) ≡ true → Changed permits m (aht_read_by m)
    unfolding aht_read_by
    aht-read-changes h =
        let u = both (may permits AHT_TAGS 0 0 65535) (may permits SLOT_BITS 47 0 65535 && may permits AHT_READ 6 1 1) h in
        let t = both (may permits SLOT_BITS 47 0 65535) (may permits AHT_READ 6 1 1) u.1 in
        let v = put_in m AHT_TAGS (cell_of m AHT_TAGS + cell_of m TAGS) in
        let y = each_of slot_bits_of 7 v in
        let z = each_of read_of (channels_of m) y in
        marked (flag_of z LFEON && flag_of z (AHTINU + 6)) z 6 (omega arith) t.1
        (each m y read_of 5 (channels_of m)
        (each m v slot_bits_of 7 7 (any m m AHT_TAGS _ AHT_TAGS 0 same u.0 (omega arith) (omega arith))
        (λ slot x i g. let b = (limits x g.within).block in any m x (SLOT_BITS + 8 * cell_of x BLK + slot) _ SLOT_BITS 47 g t.0 (omega arith) (omega arith))
        (omega arith))
        (λ ch x i g.
        let u = marked_in (flag_of x (AHTINU + ch)) (AHT_READ + ch) x in
        marked (coupled_in u ch && flag_of u (AHTINU + 5)) u 5 (omega arith) t.1 (marked (flag_of x (AHTINU + ch)) x ch (omega arith) t.1 g))
        (omega arith))

  endmants-in-changes : (st : State) → Within st.cells → (may permits CPLSTRT 0 0 217 && (may permits CPLEND 0 0 253 && may permits ENDMANT 4 0 262)) ≡ true → Changed permits st.cells (endmants_in st).st.cells
  unfolding endmants_in
  endmants-in-changes st w h = go (unknown_here st.cells)
    where
      go : (c : Bool) → Changed permits st.cells (cond c (acted 23 st) (putting endmants_by st)).st.cells
      go true = changed-none permits st.cells w
      go false =
          let t = both (may permits CPLSTRT 0 0 217) (may permits CPLEND 0 0 253 && may permits ENDMANT 4 0 262) h in
          let u = both (may permits CPLEND 0 0 253) (may permits ENDMANT 4 0 262) t.1 in
          endmants-changes st.cells w (cpl-bins-changes st.cells w t.0 u.0) u.1

  pub derived-changes : (k : ℕ) (st : State) → Within st.cells → fits_derived k ≡ true → Changed permits st.cells (derived k st).st.cells
  unfolding fits_derived derived allocate_in
  derived-changes k st w =
      pick (eqb k Numblks) _ _ _ _ (numblks-changes m w)
      (pick (eqb k Nfchans) _ _ _ _ (nfchans-changes m w)
      (pick (eqb k Fresh) _ _ _ _ (fresh-changes m w)
      (pick (eqb k Ncplblks) _ _ _ _ (ncplblks-changes m w)
      (pick (eqb k CplStrategies) _ _ _ _ (cpl-strategies-changes m w)
      (pick (eqb k ChStrategies) _ _ _ _ (ch-strategies-changes m w)
      (pick (eqb k Regions) _ _ _ _ (regions-changes m w)
      (pick (eqb k Blkstrtinfo) _ _ _ _ (blkstrtinfo-changes m w)
      (pick (eqb k SpxRange) _ _ _ _ (spx-range-changes m w)
      (pick (eqb k Nspxbnds) _ _ _ _ (nspxbnds-changes m w)
      (pick (eqb k CplRange) _ _ _ _ (cpl-range-changes m w)
      (pick (eqb k Ncplbnd) _ _ _ _ (ncplbnd-changes m w)
      (pick (eqb k Nrematbd) _ _ _ _ (nrematbd-changes m w)
      (pick (eqb k Endmants) _ _ _ _ (endmants-in-changes st w)
      (pick (eqb k Defaults) _ _ _ _ (defaults-changes m w)
      (pick (eqb k Allocation) true _ _ _ (λ _. same m w)
      (pick (eqb k AhtRead) _ true _ _ (aht-read-changes m w)
      (λ _. same m w)))))))))))))))))
    where
      m : List ℕ
      m = st.cells

      pick : (c t u : Bool) (a b : Acted) → (t ≡ true → Changed permits m a.st.cells) → (u ≡ true → Changed permits m b.st.cells) → cond c t u ≡ true → Changed permits m (cond c a b).st.cells
      pick true t u a b g i h = g h
      pick false t u a b g i h = i h
