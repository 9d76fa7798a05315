-- What one pass over pointers comes to: the mantissas of the range, where the frame does not end before. Assumes nothing.
use mathlib.Core.Path.{◌≡◌, refl, ap, sym, ◌∙◌}
use mathlib.Core.Bool.{Bool, true, false, cond}
use mathlib.Core.List.{List, []}
use mathlib.Core.Logic.{by_cases}
use Prim.Native.Nat.{ℕ, zero, suc, ◌+◌, ◌-◌, ◌*◌, ◌/◌, ◌%◌, ◌≤◌, ◌<◌}
use native.Mathlib.Omega.{arith}
use native.Mathlib.Decide.{ℕ_discrete, dec_lt}
use native.Mathlib.Nat.{zero-add, mod-add-mod}
use lib.Dec.{eqb}
use lib.ListN.{get_or}
use borrow.Author.Tests.{eq-eqb, ne_eqb, le-ltb}
use Rattle.tables.specs.Small.{bap_bits}
use Rattle.tables.proofs.Limits.{bap_bits-high}
use Rattle.tables.proofs.Rule.{at_most}
use Rattle.alloc.specs.Allocation.{tab}
use Rattle.alloc.specs.Shares.{total}
use Rattle.alloc.proofs.Lists.{get_d-tab}
use Rattle.reading.specs.Run.{accepted, out, skim}
use Rattle.slots.specs.Slots.{pointer}
use Rattle.mantissas.specs.Mantissas.{opens_of, width_of, counted_of, conventional_of}
use Rattle.mantissas.specs.Tally.{alone_of, count_of, tally_of, packed, share_of, fields_of, opened_of, turned_of, spent_of, left_of}
use Rattle.mantissas.specs.declared.Groups.{Groups}
use Rattle.mantissas.specs.declared.tally.Tally.{Tally}
use Rattle.skim.proofs.SkimLaws.{skim-on, skim-stop}

-- the table of shares, whose entries are small
pub share-at : (b : ℕ) → b < 256 → get_or (tab share_of 0 256) b 0 ≡ share_of b
share-at b h = get_d-tab share_of 256 b h

pub shares-small : (k : ℕ) → get_or (tab share_of 0 256) k 0 ≤ 281474976710656
unfolding share_of bap_bits
shares-small = at_most 281474976710656 (tab share_of 0 256) tt

-- one or none
one-most : (t : Bool) → cond t 1 0 ≤ 1
one-most true = omega arith
one-most false = omega arith

module _ (baps : List ℕ) (slot : ℕ) where
  alone-most : (n i : ℕ) → alone_of baps slot i n ≤ 16 * n
  unfolding alone_of
  alone-most zero i = omega arith
  alone-most (suc n) i = omega (arith, alone-most n (suc i), bap_bits-high (pointer baps slot i))

  count_most : (b n i : ℕ) → count_of b baps slot i n ≤ n
  unfolding count_of
  count_most b zero i = omega arith
  count_most b (suc n) i = omega (arith, count_most b n (suc i), one-most (eqb (pointer baps slot i) b))

  -- the sum of a pass: its start, a step, its end, and that it fits
  pack-end : (i end : ℕ) → end ≤ i → packed (tally_of baps slot i (end - i)) ≡ 0
  unfolding alone_of count_of
  pack-end i end h = let e : end - i ≡ 0 = omega arith in rw e

  pack-on : (i end : ℕ) → i < end → packed (tally_of baps slot i (end - i)) ≡ share_of (pointer baps slot i) + packed (tally_of baps slot (i + 1) (end - (i + 1)))
  unfolding alone_of count_of share_of
  pack-on i end h =
      let q : end - i ≡ suc (end - (i + 1)) = omega arith in
      let r : i + 1 ≡ suc i = omega arith in
      rw (q, r) (omega arith)

  pack-fits : (i n : ℕ) → n ≤ 256 → packed (tally_of baps slot i n) < 18446744073709551616
  pack-fits i n h = omega (arith, alone-most n i, count_most 1 n i, count_most 2 n i, count_most 4 n i)

  module _ (shares : List ℕ) (made : shares ≡ tab share_of 0 256) (start end x i : ℕ) (small : end ≤ 256)
      (inv : x + packed (tally_of baps slot i (end - i)) ≡ packed (tally_of baps slot start (end - start)))
      (h : i < end) (b : ℕ) (e : b ≡ get_or baps (256 * slot + i) 0) (f : b < 256) where
    entry : get_or shares b 0 ≡ share_of (pointer baps slot i)
    unfolding pointer
    entry = rw (made, get_d-tab share_of 256 b f, e)

    pub sum-on : x + get_or shares b 0 + packed (tally_of baps slot (i + 1) (end - (i + 1))) ≡ packed (tally_of baps slot start (end - start))
    sum-on = rw entry (omega (arith, pack-on i end h))

    pub sum_fits : x + get_or shares b 0 < 18446744073709551616
    sum_fits = omega (arith, sum-on, pack-fits start (end - start) (omega arith))

  pub sum-end : (start end x i : ℕ) → x + packed (tally_of baps slot i (end - i)) ≡ packed (tally_of baps slot start (end - start)) → end ≤ i
      → x ≡ packed (tally_of baps slot start (end - start))
  sum-end start end x i inv h = omega (arith, inv, pack-end i end h)

  -- the shares of a range, added one after the other
  module _ (f : ℕ → ℕ) (shares : (k : ℕ) → k < 256 → f k ≡ share_of (pointer baps slot k)) (start end : ℕ) (small : end ≤ 256) where
    so_far : (n : ℕ) → start + n ≤ end → total f start n + packed (tally_of baps slot (start + n) (end - (start + n))) ≡ packed (tally_of baps slot start (end - start))
    so_far zero h = let e : start + 0 ≡ start = omega arith in rw e (zero-add _)
    so_far (suc n) h =
        let e : start + suc n ≡ start + n + 1 = omega arith in
        rw e (omega (arith, so_far n (omega arith), pack-on (start + n) end (omega arith), shares (start + n) (omega arith)))

    pub total-is : total f start (end - start) ≡ packed (tally_of baps slot start (end - start))
    total-is = by_cases (dec_lt end start)
        (λ h. let e : end - start ≡ 0 = omega arith in ap (λ n. total f start n) e ∙ sym (pack-end start end (omega arith)))
        (λ h. let e : start + (end - start) ≡ end = omega arith in
        let z = so_far (end - start) (omega arith) in
        omega (arith, z, pack-end (start + (end - start)) end (omega arith)))

  low_field : (a m : ℕ) → a < 65536 → (a + 65536 * m) % 65536 ≡ a
  low_field a m h = omega arith

  high-field : (a m : ℕ) → a < 65536 → (a + 65536 * m) / 65536 ≡ m
  high-field a m h = omega arith

  fields : (t : Tally) → t.alone < 65536 → t.n1 < 65536 → t.n2 < 65536 → fields_of (packed t) ≡ t
  fields t a b c =
      rw (
        low_field t.alone (t.n1 + 65536 * (t.n2 + 65536 * t.n4)) a,
        high-field t.alone (t.n1 + 65536 * (t.n2 + 65536 * t.n4)) a,
        low_field t.n1 (t.n2 + 65536 * t.n4) b,
        high-field t.n1 (t.n2 + 65536 * t.n4) b,
        low_field t.n2 t.n4 c,
        high-field t.n2 t.n4 c,
      )

  pub unpacked : (i n : ℕ) → n ≤ 256 → fields_of (packed (tally_of baps slot i n)) ≡ tally_of baps slot i n
  unpacked i n h =
      fields (tally_of baps slot i n) (omega (arith, alone-most n i)) (omega (arith, count_most 1 n i)) (omega (arith, count_most 2 n i))

-- groups that n mantissas open
opens-times : (k c : ℕ) → k * opens_of c 1 ≡ opens_of c k
opens-times k c = go (eqb c 0)
  where
    go : (t : Bool) → k * cond t 1 0 ≡ cond t k 0
    go true = omega arith
    go false = omega arith

opened_one : (size c n : ℕ) → opened_of size c (1 + n) ≡ opens_of c 1 + opened_of size ((c + 1) % size) n
unfolding opened_of
opened_one size c n = let e : 1 + n ≡ suc n = omega arith in rw e

turned-one : (size c n : ℕ) → turned_of size c (1 + n) ≡ turned_of size ((c + 1) % size) n
unfolding turned_of
turned-one size c n = let e : 1 + n ≡ suc n = omega arith in rw e

opened-by : (size : ℕ) (f : ℕ → ℕ → ℕ) → ((c : ℕ) → 0 ≡ f c 0) → ((c n : ℕ) → opens_of c 1 + f ((c + 1) % size) n ≡ f c (suc n))
    → (n c : ℕ) → opened_of size c n ≡ f c n
unfolding opened_of
opened-by size f start step zero c = start c
opened-by size f start step (suc n) c = ap (λ x. opens_of c 1 + x) (opened-by size f start step n ((c + 1) % size)) ∙ step c n

abbrev closed3 : ℕ → ℕ → ℕ
closed3 c n = cond (eqb c 0) ((n + 2) / 3) ((n + c % 3 - 3 + 2) / 3)

abbrev closed2 : ℕ → ℕ → ℕ
closed2 c n = cond (eqb c 0) ((n + 1) / 2) ((n + c % 2 - 2 + 1) / 2)

step3 : (c n : ℕ) → opens_of c 1 + closed3 ((c + 1) % 3) n ≡ closed3 c (suc n)
step3 c n = go (ℕ_discrete c 0) (ℕ_discrete ((c + 1) % 3) 0)
  where
    go : Dec (c ≡ 0) → Dec ((c + 1) % 3 ≡ 0) → opens_of c 1 + closed3 ((c + 1) % 3) n ≡ closed3 c (suc n)
    go (yes h) d = rw h (omega arith)
    go (no h) (yes d) = rw (ne_eqb c 0 h, eq-eqb ((c + 1) % 3) 0 d) (omega arith)
    go (no h) (no d) = rw (ne_eqb c 0 h, ne_eqb ((c + 1) % 3) 0 d) (omega arith)

step2 : (c n : ℕ) → opens_of c 1 + closed2 ((c + 1) % 2) n ≡ closed2 c (suc n)
step2 c n = go (ℕ_discrete c 0) (ℕ_discrete ((c + 1) % 2) 0)
  where
    go : Dec (c ≡ 0) → Dec ((c + 1) % 2 ≡ 0) → opens_of c 1 + closed2 ((c + 1) % 2) n ≡ closed2 c (suc n)
    go (yes h) d = rw h (omega arith)
    go (no h) (yes d) = rw (ne_eqb c 0 h, eq-eqb ((c + 1) % 2) 0 d) (omega arith)
    go (no h) (no d) = rw (ne_eqb c 0 h, ne_eqb ((c + 1) % 2) 0 d) (omega arith)

start3 : (c : ℕ) → 0 ≡ closed3 c 0
start3 c = go (eqb c 0)
  where
    go : (t : Bool) → 0 ≡ cond t ((0 + 2) / 3) ((0 + c % 3 - 3 + 2) / 3)
    go true = refl
    go false = omega arith

start2 : (c : ℕ) → 0 ≡ closed2 c 0
start2 c = go (eqb c 0)
  where
    go : (t : Bool) → 0 ≡ cond t ((0 + 1) / 2) ((0 + c % 2 - 2 + 1) / 2)
    go true = refl
    go false = omega arith

opened3-is : (n c : ℕ) → opened_of 3 c n ≡ cond (eqb c 0) ((n + 2) / 3) ((n + c % 3 - 3 + 2) / 3)
opened3-is = opened-by 3 closed3 start3 step3

opened2-is : (n c : ℕ) → opened_of 2 c n ≡ cond (eqb c 0) ((n + 1) / 2) ((n + c % 2 - 2 + 1) / 2)
opened2-is = opened-by 2 closed2 start2 step2

-- of a group of two or of three
module _ (size count n m : ℕ) (lo : 2 ≤ size) (hi : size ≤ 3) (e : m ≡ cond (eqb count 0) n (n + count % size - size)) where
  two : size ≡ 2 → (m + size - 1) / size ≡ opened_of size count n
  two h = rw (e, h, opened2-is n count) (go (eqb count 0))
    where
      go : (t : Bool) → (cond t n (n + count % 2 - 2) + 2 - 1) / 2 ≡ cond t ((n + 1) / 2) ((n + count % 2 - 2 + 1) / 2)
      go true = omega arith
      go false = omega arith

  three : size ≡ 3 → (m + size - 1) / size ≡ opened_of size count n
  three h = rw (e, h, opened3-is n count) (go (eqb count 0))
    where
      go : (t : Bool) → (cond t n (n + count % 3 - 3) + 3 - 1) / 3 ≡ cond t ((n + 2) / 3) ((n + count % 3 - 3 + 2) / 3)
      go true = omega arith
      go false = omega arith

  pub opened-is : (m + size - 1) / size ≡ opened_of size count n
  opened-is = by_cases (ℕ_discrete size 2) two (λ h. three (omega arith))

  ahead-most : m ≤ n
  ahead-most = rw e (go (eqb count 0))
    where
      go : (t : Bool) → cond t n (n + count % size - size) ≤ n
      go true = omega arith
      go false = omega arith

  pub opened-low : n < 65536 → (m + size - 1) / size ≤ 65535
  opened-low h = by_cases (ℕ_discrete size 2) (λ d. rw d (omega (arith, ahead-most))) (λ k. let d : size ≡ 3 = omega arith in rw d (omega (arith, ahead-most)))

pub turned-is : (size n c : ℕ) → turned_of size c n ≡ cond (eqb n 0) c ((c + n) % size)
unfolding turned_of
turned-is size zero c = refl
turned-is size (suc n) c = turned-is size n ((c + 1) % size) ∙ go (ℕ_discrete n 0)
  where
    some : eqb (suc n) 0 ≡ false
    some = ne_eqb (suc n) 0 (λ e. let z : ⊥ = omega arith in z)

    go : Dec (n ≡ 0) → cond (eqb n 0) ((c + 1) % size) (((c + 1) % size + n) % size) ≡ cond (eqb (suc n) 0) c ((c + suc n) % size)
    go (yes h) = rw h
    go (no h) = let e : c + 1 + n ≡ c + suc n = omega arith in rw (ne_eqb n 0 h, some) (mod-add-mod (c + 1) size n ∙ ap (λ x. x % size) e)

-- one mantissa more, in front
module _ (g : Groups) (b : ℕ) (t : Tally) where
  abbrev more : Tally
  more = record { alone = get_or bap_bits b 0 + t.alone; n1 = cond (eqb b 1) 1 0 + t.n1; n2 = cond (eqb b 2) 1 0 + t.n2; n4 = cond (eqb b 4) 1 0 + t.n4 }

  spent-more : spent_of g more ≡ width_of g b + spent_of (counted_of g b) t
  unfolding spent_of width_of counted_of bap_bits
  spent-more = go (ℕ_discrete b 1) (ℕ_discrete b 2) (ℕ_discrete b 4)
    where
      go : Dec (b ≡ 1) → Dec (b ≡ 2) → Dec (b ≡ 4) → spent_of g more ≡ width_of g b + spent_of (counted_of g b) t
      go (yes h) d e = rw h (simp (opened_one, zero-add, ← opens-times 5 g.g1) (omega arith))
      go (no h) (yes d) e = rw d (simp (opened_one, zero-add, ← opens-times 7 g.g2) (omega arith))
      go (no h) (no d) (yes e) = rw e (simp (opened_one, zero-add, ← opens-times 7 g.g4) (omega arith))
      go (no h) (no d) (no e) = rw (ne_eqb b 1 h, ne_eqb b 2 d, ne_eqb b 4 e) (simp zero-add (omega arith))

  left-more : left_of g more ≡ left_of (counted_of g b) t
  unfolding left_of counted_of
  left-more = go (ℕ_discrete b 1) (ℕ_discrete b 2) (ℕ_discrete b 4)
    where
      go : Dec (b ≡ 1) → Dec (b ≡ 2) → Dec (b ≡ 4) → left_of g more ≡ left_of (counted_of g b) t
      go (yes h) d e = rw h (simp (turned-one, zero-add))
      go (no h) (yes d) e = rw d (simp (turned-one, zero-add))
      go (no h) (no d) (yes e) = rw e (simp (turned-one, zero-add))
      go (no h) (no d) (no e) = rw (ne_eqb b 1 h, ne_eqb b 2 d, ne_eqb b 4 e) (simp zero-add)

-- all mantissas of a range, where the last does not pass the end
module _ (s : List ℕ) (baps : List ℕ) (slot l : ℕ) where
  passes : (n i : ℕ) (g : Groups) (p : ℕ) → p + spent_of g (tally_of baps slot i n) ≤ l
      → skim (conventional_of baps slot i n g) s p l ≡ out (accepted (left_of g (tally_of baps slot i n))) (p + spent_of g (tally_of baps slot i n)) []
  unfolding conventional_of alone_of count_of spent_of left_of opened_of turned_of
  passes zero i g p h = let e : p + 0 ≡ p = omega arith in skim-stop s p l g ∙ rw e
  passes (suc n) i g p h =
      let b = pointer baps slot i in
      let w = width_of g b in
      let t = tally_of baps slot (suc i) n in
      let e : p + spent_of g (tally_of baps slot i (suc n)) ≡ p + w + spent_of (counted_of g b) t = omega (arith, spent-more g b t) in
      skim-on s p l w _ (le-ltb l (p + w) (omega arith))
      ∙ passes n (suc i) (counted_of g b) (p + w) (omega arith)
      ∙ rw (e, left-more g b t)

  pub outcome-all : (n i p w : ℕ) (g g' : Groups) (t : Tally) → t ≡ tally_of baps slot i n → w ≡ spent_of g t → p + w ≤ l → g' ≡ left_of g t
      → out (accepted g') (p + w) [] ≡ skim (conventional_of baps slot i n g) s p l
  outcome-all n i p w g g' t e f h k = let z : p + spent_of g (tally_of baps slot i n) ≤ l = rw (f, e) at h in sym (passes n i g p z ∙ rw (k, f, e))
