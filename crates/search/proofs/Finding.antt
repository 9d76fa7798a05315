-- The search, from the readings that are made: the positions between them leave nothing behind. Assumes nothing.
use mathlib.Core.Path.{◌≡◌, refl, sym, ap, ap₂, subst, ◌∙◌}
use mathlib.Core.Bool.{Bool, true, false, cond, true≢false}
use mathlib.Core.List.{List}
use Prim.Native.Nat.{ℕ, zero, suc, ◌+◌, ◌-◌, ◌≤◌, ◌<◌, min}
use native.Mathlib.Omega.{arith}
use native.Mathlib.Decide.{dec_lt}
use native.Mathlib.Nat.{add-zero, add-suc}
use native.Mathlib.Numerals.{add-one}
use lib.Dec.{leb, ltb}
use lib.ListN.{length, length-drop, drop}
use borrow.Author.Tests.{lt-ltb, le-ltb}
use Rattle.bits.specs.Bits.{bits_at}
use Rattle.reading.specs.Run.{field_of, refused}
use Rattle.reading.specs.Frame.{plain}
use Rattle.reading.specs.Room.{Room, size, pushed, Out, got}
use Rattle.syntax.specs.Rooms.{Same}
use Rattle.syntax.proofs.Rooms.{same_refl, same-trans}
use Rattle.names.specs.Names.{syncword}
use Rattle.cells.specs.Cells.{State}
use Rattle.answer.specs.Answer.{answer_of, count_of}
use Rattle.answer.specs.declared.Answer.{Answer}
use Rattle.eac3.specs.Called.{answered, Called}
use Rattle.search.specs.declared.Found.{Found}
use Rattle.search.specs.Find.{ends, ends_by, none_number, not_found, room_after, reading, count_after, passed, tries, found_in, First, NoneFound, Searched}
use Rattle.positions.specs.Passes.{Synced, Passes}
use Rattle.refusals.specs.Refusals.{number_of}
use Rattle.refusals.specs.declared.Refusal.{Refusal}
use Rattle.refusals.specs.declared.Refusal.TheVariants.{NoPositionLeft, AllowanceUsedUp}
use Rattle.search.proofs.Readings.{short, unsynced, over}
use Rattle.search.proofs.Passing.{answer-ends, none-ends, room-size, passed-more, first-is, at_first, here_found, none_found, found_here, found_none, first-words, none-words}

-- what is found by the definition, with the room that the readings left, is what the search tells
module _ (s : List ℕ) (m : Room) (start most : ℕ) where
  abbrev n : ℕ
  n = tries s m start most

  abbrev k : ℕ
  k = passed s m start n

  pub searched : {r : Found} {m' : Room} → r ≡ found_in s m start most → m' ≡ room_after s m start r.tried → Searched s m start most r m'
  searched {r} {m'} er el = go (dec_lt k n)
    where
      go : Dec (k < n) → Searched s m start most r m'
      go (yes u) =
          let e : r ≡ here_found s m start most = er ∙ found_here s m start most u in
          let q : ends_by r.answer.verdict ≡ true
          = ap (λ (r : Found). ends_by r.answer.verdict) e ∙ answer-ends (reading s m start k) ∙ at_first s m start n u in
          record {
            found = er;
            left = el;
            first = λ _. subst (λ (r : Found). First s m start most r) (sym e) (first-words s m start most u);
            none = λ f. absurd (true≢false (sym q ∙ f));
          }
      go (no d) =
          let u : n ≤ k = omega (arith, d) in
          let e : r ≡ none_found s m start most = er ∙ found_none s m start most u in
          let q : ends_by r.answer.verdict ≡ false
          = ap (λ (r : Found). ends_by r.answer.verdict) e ∙ none-ends (length s - start) most (count_after s m start n) n in
          record {
            found = er;
            left = el;
            first = λ t. absurd (true≢false (sym t ∙ q));
            none = λ _. subst (λ (r : Found). NoneFound s m start most r) (sym e) (none-words s m start most u);
          }

-- n positions are tried, and all are passed over
pub record Trying (s : List ℕ) (m : Room) (start n count : ℕ) (now : Room) : Type 0 where
  pub passes : passed s m start n ≡ n
  pub left : now ≡ room_after s m start n
  pub counted : count ≡ count_after s m start n

pub none_tried : (s : List ℕ) (m : Room) (start : ℕ) → Trying s m start 0 0 m
unfolding passed room_after count_after
none_tried s m start = record { passes = refl; left = refl; counted = refl }

abbrev found : Answer → ℕ → ℕ → Found
found a p n = record { answer = a; position = p; tried = n }

module _ (s : List ℕ) (m : Room) (start : ℕ) where
  room-more : (n : ℕ) → room_after s m start (suc n) ≡ (reading s m start n).left
  unfolding room_after
  room-more n = refl

  count-more : (n : ℕ) → count_after s m start (suc n) ≡ (reading s m start n).count
  unfolding count_after
  count-more n = refl

  long-from : (p : ℕ) → p + 6 ≤ length s → 6 ≤ length (drop p s)
  long-from p h = omega (arith, length-drop p s)

  short-from : (p : ℕ) → length s ≤ p + 5 → length (drop p s) < 6
  short-from p h = omega (arith, length-drop p s)

  -- positions without the sync word, where there is room for a record
  module _ (n at : ℕ) (P : passed s m start n ≡ n) (roomy : size m ≡ 0 → at ≡ start + n) (none : (p : ℕ) → start + n ≤ p → p < at → ¬ Synced s p) (long : at + 6 ≤ length s) where
    some : (d : ℕ) → start + (n + suc d) ≤ at → 1 ≤ size (room_after s m start (n + d))
    some d h = go (dec_lt 0 (size m))
      where
        go : Dec (0 < size m) → 1 ≤ size (room_after s m start (n + d))
        go (yes u) = omega (arith, room-size s m start (n + d))
        go (no e) = absurd (let z : ⊥ = omega (arith, roomy (let z : size m ≡ 0 = omega (arith, e) in z)) in z)

    word : (d : ℕ) → start + (n + suc d) ≤ at
        → reading s m start (n + d) ≡ got (refused 2) 16 1 (pushed (room_after s m start (n + d)) 0 (field_of (plain syncword) 0 16 (bits_at (drop (start + (n + d)) s) 0 16)))
    word d h =
        unsynced (drop (start + (n + d)) s) (long-from (start + (n + d)) (omega arith)) (room_after s m start (n + d)) (some d h)
        (none (start + (n + d)) (omega arith) (omega arith))

    -- are passed over, and the next reading is as if they had not been read
    passes_on : (d : ℕ) → start + (n + d) ≤ at → passed s m start (n + d) ≡ n + d
    passes_on zero h = ap (λ (i : ℕ). passed s m start i) (add-zero n) ∙ P ∙ sym (add-zero n)
    passes_on (suc d) h =
        ap (λ (i : ℕ). passed s m start i) (add-suc n d)
        ∙ passed-more s m start (n + d) (passes_on d (omega arith)) (ap (λ (o : Out State). ends o.result) (word d h))
        ∙ sym (add-suc n d)

    alike : (t : List ℕ) → 6 ≤ length t → (d : ℕ) → start + (n + d) ≤ at → answered t (room_after s m start (n + d)) ≡ answered t (room_after s m start n)
    alike t l zero h = ap (λ (i : ℕ). answered t (room_after s m start i)) (add-zero n)
    alike t l (suc d) h =
        ap (λ (i : ℕ). answered t (room_after s m start i)) (add-suc n d)
        ∙ ap (λ (x : Room). answered t x) (room-more (n + d) ∙ ap (λ (o : Out State). o.left) (word d h))
        ∙ over t l (room_after s m start (n + d)) _ (some d h)
        ∙ alike t l d (omega arith)

    -- the reading at the position that they lead to
    module _ (low : start + n ≤ at) where
      passes-to : passed s m start (at - start) ≡ at - start
      passes-to =
          let z : n + (at - start - n) ≡ at - start = omega arith in
          ap (λ (i : ℕ). passed s m start i) (sym z) ∙ passes_on (at - start - n) (omega arith) ∙ z

      reading-at : answered (drop at s) (room_after s m start n) ≡ reading s m start (at - start)
      reading-at =
          let z : n + (at - start - n) ≡ at - start = omega arith in
          let y : at ≡ start + (at - start) = omega arith in
          sym (alike (drop at s) (long-from at long) (at - start - n) (omega arith))
          ∙ ap₂ (λ (p i : ℕ). answered (drop p s) (room_after s m start i)) y z

-- a reading at the position that the sync word is looked for from n positions on
pub record Reads (s : List ℕ) (m : Room) (start n at : ℕ) : Type 0 where
  pub low : start + n ≤ at
  pub roomy : size m ≡ 0 → at ≡ start + n
  pub none : (p : ℕ) → start + n ≤ p → p < at → ¬ Synced s p
  pub long : at + 6 ≤ length s

module _ {s : List ℕ} {m : Room} {start n count at : ℕ} {now : Room} (T : Trying s m start n count now) (R : Reads s m start n at) {x : List ℕ} (ex : x ≡ drop at s)
    {a : Answer} {m' : Room} (C : Called x now a m') where
  abbrev i : ℕ
  i = at - start

  passes-i : passed s m start i ≡ i
  passes-i = passes-to s m start n at T.passes R.roomy R.none R.long R.low

  read_is : answered x now ≡ reading s m start i
  read_is = ap₂ (λ (y : List ℕ) (r : Room). answered y r) ex T.left ∙ reading-at s m start n at T.passes R.roomy R.none R.long R.low

  answer-is : a ≡ answer_of (reading s m start i)
  answer-is = C.answer ∙ ap answer_of read_is

  left_is : m' ≡ room_after s m start (i + 1)
  left_is = C.left ∙ ap (λ (o : Out State). o.left) read_is ∙ sym (room-more s m start i) ∙ ap (λ (j : ℕ). room_after s m start j) (sym (add-one i))

  ends-here : {b : Bool} → ends_by a.verdict ≡ b → ends (reading s m start i).result ≡ b
  ends-here e = sym (answer-ends (reading s m start i)) ∙ ap (λ (a : Answer). ends_by a.verdict) (sym answer-is) ∙ e

  -- it ends the search
  pub finds : (most : ℕ) → i < tries s m start most → ends_by a.verdict ≡ true → Searched s m start most (record { answer = a; position = at; tried = i + 1 }) m'
  finds most u e =
      let f : passed s m start (tries s m start most) ≡ i = first-is s m start i (tries s m start most) passes-i (ends-here e) u in
      let y : at ≡ start + i = omega (arith, R.low) in
      searched s m start most
      (ap₂ (λ (x : Answer) (p : ℕ). found x p (i + 1)) answer-is y
      ∙ ap (λ (j : ℕ). found (answer_of (reading s m start j)) (start + j) (j + 1)) (sym f)
      ∙ sym (found_here s m start most (omega (arith, f))))
      left_is

  -- or is passed over too
  pub goes_on : ends_by a.verdict ≡ false → Trying s m start (i + 1) (count_of a) m'
  goes_on e = record {
    passes = ap (λ (j : ℕ). passed s m start j) (add-one i) ∙ passed-more s m start i passes-i (ends-here e) ∙ sym (add-one i);
    left = left_is;
    counted = C.count ∙ ap (λ (o : Out State). o.count) read_is ∙ sym (count-more s m start i) ∙ ap (λ (j : ℕ). count_after s m start j) (sym (add-one i));
  }

-- positions with fewer than 6 bytes leave all as it was
module _ {s : List ℕ} {m : Room} {start n count : ℕ} {now : Room} (T : Trying s m start n count now) (few : length s ≤ start + n + 5) where
  short-at : (d : ℕ) → reading s m start (n + d) ≡ got (refused 1) 0 0 (room_after s m start (n + d))
  short-at d = short (drop (start + (n + d)) s) (room_after s m start (n + d)) (short-from s m start (start + (n + d)) (omega arith))

  short-passes : (d : ℕ) → passed s m start (n + d) ≡ n + d
  short-passes zero = ap (λ (i : ℕ). passed s m start i) (add-zero n) ∙ T.passes ∙ sym (add-zero n)
  short-passes (suc d) =
      ap (λ (i : ℕ). passed s m start i) (add-suc n d)
      ∙ passed-more s m start (n + d) (short-passes d) (ap (λ (o : Out State). ends o.result) (short-at d))
      ∙ sym (add-suc n d)

  short-room : (d : ℕ) → room_after s m start n ≡ room_after s m start (n + d)
  short-room zero = ap (λ (i : ℕ). room_after s m start i) (sym (add-zero n))
  short-room (suc d) =
      short-room d
      ∙ ap (λ (o : Out State). o.left) (sym (short-at d))
      ∙ sym (room-more s m start (n + d))
      ∙ ap (λ (i : ℕ). room_after s m start i) (sym (add-suc n d))

  short-count : (d : ℕ) → 0 ≡ count_after s m start (n + suc d)
  short-count d =
      ap (λ (o : Out State). o.count) (sym (short-at d)) ∙ sym (count-more s m start (n + d)) ∙ ap (λ (i : ℕ). count_after s m start i) (sym (add-suc n d))

  pub all_short : (k : ℕ) → n < k → Trying s m start k 0 now
  all_short k u =
      let z : n + suc (k - n - 1) ≡ k = omega arith in
      subst (λ (i : ℕ). Trying s m start i 0 now) z
      (record { passes = short-passes (suc (k - n - 1)); left = T.left ∙ short-room (suc (k - n - 1)); counted = short-count (k - n - 1) })

-- no position ends the search
pub finds-none : {s : List ℕ} {m : Room} {start count : ℕ} {now : Room} (most : ℕ) → Trying s m start (tries s m start most) count now → {number : ℕ} → number ≡ none_number (length s - start) most
    → {r : Found} → r ≡ not_found number count (tries s m start most) → Searched s m start most r now
finds-none {s} {m} {start} {count} {now} most T {number} en {r} er =
    searched s m start most
    (er
    ∙ ap₂ (λ (x c : ℕ). not_found x c (tries s m start most)) en T.counted
    ∙ sym (found_none s m start most (omega (arith, T.passes))))
    (T.left ∙ ap (λ (r : Found). room_after s m start r.tried) (sym er))

-- a turn of the loop: n positions are tried
pub record Turn (s : List ℕ) (m : Room) (start whole n count : ℕ) (now : Room) : Type 0 where
  pub few : n ≤ whole
  pub trying : Trying s m start n count now
  pub same : Same m now

pub first-turn : (s : List ℕ) (m : Room) (start whole : ℕ) → Turn s m start whole 0 0 m
first-turn s m start whole = record { few = omega arith; trying = none_tried s m start; same = same_refl m }

-- positions with 6 bytes or more
pub inside : (long start most : ℕ) {l whole n : ℕ} → l ≡ long - 5 → whole ≡ min most (l - start) → n < whole → start + (whole - 1) + 6 ≤ long
inside long start most el ew u = omega arith

few-long : (long start most : ℕ) {l whole : ℕ} → l ≡ long - 5 → whole ≡ min most (l - start) → whole ≤ min most (long - start)
few-long long start most el ew = omega arith

before_last : (start n : ℕ) {whole far at : ℕ} → start + n ≤ at → at ≤ far → far ≤ start + (whole - 1) → n < whole → at - start < whole
before_last start n a b c d = omega arith

pub room-is : (m : Room) {full : ℕ} → full ≡ min (length m.names) (min (length m.blocks) (min (length m.indexes) (min (length m.firsts) (min (length m.widths) (length m.values)))))
    → full ≡ size m
unfolding size
room-is m e = e

module _ {s : List ℕ} {m : Room} {start l whole n count far at : ℕ} (most : ℕ) {now : Room} (T : Turn s m start whole n count now) (el : l ≡ length s - 5) (ew : whole ≡ min most (l - start)) (u : n < whole)
    {full : ℕ} (ef : full ≡ size m)
    (F : (start + n ≤ far) × (far ≤ start + (whole - 1)) × (full ≡ 0 → far ≡ start + n)) (C : Passes s (start + n) far at) where
  pub turn-reads : Reads s m start n at
  turn-reads = record {
    low = C.low;
    roomy = λ e. let z : far ≡ start + n = F.2 (ef ∙ e) in omega (arith, z, C.low, C.high);
    none = C.none;
    long = omega (arith, C.high, F.1, inside (length s) start most el ew u);
  }

  pub turn-tries : at - start < tries s m start most
  turn-tries =
      let w = few-long (length s) start most el ew in
      let z : at - start < whole = before_last start n C.low C.high F.1 u in
      omega (arith, w, z)

  module _ {x : List ℕ} (ex : x ≡ drop at s) {a : Answer} {m' : Room} (S : Same now m') (D : Called x now a m') where
    pub turn-finds : ends_by a.verdict ≡ true → Searched s m start most (record { answer = a; position = at; tried = at - start + 1 }) m'
    turn-finds e = finds T.trying turn-reads ex D most turn-tries e

    pub turn_on : ends_by a.verdict ≡ false → {c : ℕ} → c ≡ count_of a → Turn s m start whole (at - start + 1) c m'
    turn_on e {c} ec = record {
      few = omega (arith, C.high, C.low, F.1);
      trying = subst (λ (c : ℕ). Trying s m start (at - start + 1) c m') (sym ec) (goes_on T.trying turn-reads ex D e);
      same = same-trans T.same S;
    }

pub number_is : (most : ℕ) {x left number : ℕ} → left ≡ x → number ≡ none_number left most → number ≡ none_number x most
number_is most e en = en ∙ ap (λ (n : ℕ). none_number n most) e

-- the number of the refusal where no position is left, or the allowance is used up
pub numbered : (left most : ℕ) {r : Refusal} → r ≡ cond (leb left most) NoPositionLeft AllowanceUsedUp → number_of r ≡ none_number left most
numbered left most {r} e = ap number_of e ∙ go (leb left most)
  where
    go : (b : Bool) → number_of (cond b NoPositionLeft AllowanceUsedUp) ≡ cond b 44 45
    go true = refl
    go false = refl

-- the loop is over
pub turn-none : {s : List ℕ} {m : Room} {start l whole t n count : ℕ} {now : Room} (most : ℕ) → Turn s m start whole n count now → l ≡ length s - 5 → whole ≡ min most (l - start)
    → t ≡ min most (length s - start) → whole ≤ n → {number c : ℕ} → number ≡ none_number (length s - start) most → c ≡ cond (ltb whole t) 0 count
    → {r : Found} → r ≡ not_found number c t → Searched s m start most r now
turn-none {s} {m} {start} {l} {whole} {t} {n} {count} {now} most T el ew et d {number} {c} en ec {r} er = go (dec_lt whole t)
  where
    done : n ≡ whole
    done = omega (arith, T.few, d)

    last : (k : ℕ) → c ≡ k → Trying s m start t k now → Searched s m start most r now
    last k e X =
        finds-none {count = k} most (subst (λ (i : ℕ). Trying s m start i k now) et X) en (er ∙ ap₂ (λ (c t : ℕ). not_found number c t) e et)

    go : Dec (whole < t) → Searched s m start most r now
    go (yes u) = last 0 (ec ∙ rw (lt-ltb whole t u) refl) (all_short T.trying (omega (arith, done)) t (omega (arith, done)))
    go (no v) =
        let z : n ≡ t = omega (arith, done, v) in
        last count (ec ∙ rw (le-ltb whole t (omega (arith, v))) refl) (subst (λ (i : ℕ). Trying s m start i count now) z T.trying)
