-- What the items are found to be, and what is done with them, over names, places and values. Assumes nothing.
use mathlib.Core.Path.{◌≡◌, refl, sym, ap, ap₂, ◌∙◌, subst}
use mathlib.Core.Bool.{Bool, true, false, cond, ◌||◌}
use mathlib.Core.List.{List}
use mathlib.Core.Logic.{by_cases}
use Prim.Native.Nat.{ℕ, zero, suc, ◌+◌, ◌-◌, ◌/◌, ◌^◌, ◌≤◌, ◌<◌}
use native.Mathlib.Omega.{arith}
use native.Mathlib.Decide.{ℕ_discrete}
use native.Mathlib.Numerals.{add-one}
use lib.Dec.{leb, eqb}
use lib.ListN.{length, get_or, set, take, length-set}
use borrow.Author.Tests.{le-leb, lt-leb, ne_eqb, eqb-true, eqb-false, leb-false}
use Rattle.std.specs.List.{list_any}
use Rattle.std.proofs.lemmas.List.Folds.{list_any_more}
use Rattle.refusals.specs.Refusals.{number_of}
use Rattle.refusals.specs.declared.Refusal.{Refusal}
use Rattle.answer.specs.Cursors.{refusal_from}
use Rattle.answer.specs.declared.Answer.{Answer}
use Rattle.words.specs.Words.{width_of, unfit_of, with_word}
use Rattle.crc.specs.Crc.{crc2, with_crc2}
use Rattle.mastering.specs.SetWord.{answer_with}
use Rattle.mastering.specs.SetWords.{items_of, listed, item_number, number_to, words_number, worded_to, values_to, bytes_to, held_to}
use Rattle.mastering.specs.Listed.{Listed, Item, Settable}

-- nothing changes under a refusal
pub kept : {A : Type 0} (k : ℕ) (x y : A) → ¬ (k ≡ 0) → y ≡ cond (eqb k 0) x y
kept k x y h = rw (ne_eqb k 0 h) refl

-- a test of the first t places, in `contains`'s words
pub listed_any : (places : List ℕ) (i t : ℕ) → t ≤ length places → list_any (λ y. eqb y i) (take t places) ≡ listed places t i
unfolding listed
listed_any places i zero h = refl
listed_any places i (suc t) h =
    ap (λ (n : ℕ). list_any (λ y. eqb y i) (take n places)) (sym (add-one t))
    ∙ list_any_more (λ y. eqb y i) places t 0 (omega arith)
    ∙ turn (list_any (λ y. eqb y i) (take t places)) (eqb (get_or places t 0) i) (listed_any places i t (omega arith))
  where
    turn : (a b : Bool) {c : Bool} → a ≡ c → (a || b) ≡ (b || c)
    turn true true e = refl
    turn true false e = e
    turn false true e = refl
    turn false false e = e

pub number-none : (names : List ℕ) (n : ℕ) (places words : List ℕ) → 0 ≡ number_to names n places words 0
unfolding number_to
number-none names n places words = refl

pub worded-none : (s names firsts places words : List ℕ) → s ≡ worded_to s names firsts places words 0
unfolding worded_to
worded-none s names firsts places words = refl

pub values-none : (held places words : List ℕ) → held ≡ values_to held places words 0
unfolding values_to
values-none held places words = refl

-- the number of an item, test by test
module _ (names : List ℕ) (n : ℕ) (places : List ℕ) (t v : ℕ) where
  pub beyond : n ≤ get_or places t 0 → 41 ≡ item_number names n places t v
  unfolding item_number
  beyond h = rw (le-leb n (get_or places t 0) h) refl

  pub twice : get_or places t 0 < n → listed places t (get_or places t 0) ≡ true → 47 ≡ item_number names n places t v
  unfolding item_number
  twice h e = rw (lt-leb n (get_or places t 0) h) (rw e refl)

  pub inside : {k : ℕ} → get_or places t 0 < n → listed places t (get_or places t 0) ≡ false → k ≡ unfit_of (get_or names (get_or places t 0) 0) v → k ≡ item_number names n places t v
  unfolding item_number
  inside h e q = rw (lt-leb n (get_or places t 0) h) (rw e q)

-- and of all
module _ (names : List ℕ) (n : ℕ) (places words : List ℕ) where
  pub number_on : (t : ℕ) → 0 ≡ number_to names n places words t → {k : ℕ} → k ≡ item_number names n places t (get_or words t 0) → k ≡ number_to names n places words (t + 1)
  unfolding number_to
  number_on t e q =
      q ∙ ap (λ (b : ℕ). cond (eqb b 0) (item_number names n places t (get_or words t 0)) b) e ∙ ap (number_to names n places words) (sym (add-one t))

  number_stays : (m t : ℕ) → t ≤ m → 0 < number_to names n places words t → number_to names n places words m ≡ number_to names n places words t
  unfolding number_to
  number_stays zero t h k = let z : 0 ≡ t = omega arith in ap (number_to names n places words) z
  number_stays (suc m) t h k =
      by_cases (ℕ_discrete (suc m) t) (λ z. ap (number_to names n places words) z)
      (λ z. let e = number_stays m t (omega arith) k in
      let p : ¬ (number_to names n places words m ≡ 0) = λ q. omega arith in
      rw (ne_eqb (number_to names n places words m) 0 p) e)

  pub too_many : {m : ℕ} → m ≡ items_of places words → 16 < m → 48 ≡ words_number names n places words
  unfolding words_number
  too_many e h = rw (le-leb 17 (items_of places words) (omega arith)) refl

  pub number-all : {m t r : ℕ} → m ≡ items_of places words → m ≤ 16 → t ≤ m → m ≤ t → r ≡ number_to names n places words t → r ≡ words_number names n places words
  unfolding words_number
  number-all {m} {t} e h i j q =
      let z : t ≡ items_of places words = omega arith in
      rw (lt-leb 17 (items_of places words) (omega arith)) (q ∙ ap (number_to names n places words) z)

  -- the first item that has a number stops the test
  pub stopped : {m t k : ℕ} → m ≡ items_of places words → m ≤ 16 → t < m → 0 ≡ number_to names n places words t → k ≡ item_number names n places t (get_or words t 0) → 0 < k
      → k ≡ words_number names n places words
  stopped {m} {t} {k} e h l z q p =
      let r = number_on t z q in
      number-all {t = m} e h (omega arith) (omega arith) (r ∙ sym (number_stays m (t + 1) (omega arith) (omega (arith, r))))

-- where nothing stands in the way the place is in the list, the name is a word's, and the value has its bits
pub record Fit (names : List ℕ) (n i v : ℕ) : Type 0 where
  pub within : i < n
  pub word : 0 < width_of (get_or names i 0)
  pub value : v < 2 ^ width_of (get_or names i 0)

fits : (names : List ℕ) (n i v : ℕ) → i < n → 0 ≡ unfit_of (get_or names i 0) v → Fit names n i v
unfolding unfit_of
fits names n i v h e = go (eqb (width_of (get_or names i 0)) 0) (leb (2 ^ width_of (get_or names i 0)) v) refl refl e
  where
    go : (x y : Bool) → eqb (width_of (get_or names i 0)) 0 ≡ x → leb (2 ^ width_of (get_or names i 0)) v ≡ y → ◌≡◌ {A = ℕ} 0 (cond x 42 (cond y 43 0)) → Fit names n i v
    go true y p q h = absurd (let z : ⊥ = omega arith in z)
    go false true p q h = absurd (let z : ⊥ = omega arith in z)
    go false false p q _ = record { within = h; word = let z = eqb-false (width_of (get_or names i 0)) 0 p in omega arith; value = leb-false (2 ^ width_of (get_or names i 0)) v q }

item-fits : (names : List ℕ) (n : ℕ) (places : List ℕ) (t v : ℕ) → 0 ≡ item_number names n places t v → Fit names n (get_or places t 0) v
unfolding item_number
item-fits names n places t v e = go (leb n (get_or places t 0)) (listed places t (get_or places t 0)) refl e
  where
    go : (x y : Bool) → leb n (get_or places t 0) ≡ x → ◌≡◌ {A = ℕ} 0 (cond x 41 (cond y 47 (unfit_of (get_or names (get_or places t 0) 0) v))) → Fit names n (get_or places t 0) v
    go true y p h = absurd (let z : ⊥ = omega arith in z)
    go false true p h = absurd (let z : ⊥ = omega arith in z)
    go false false p h = fits names n (get_or places t 0) v (leb-false n (get_or places t 0) p) h

pub all_fit : (names : List ℕ) (n : ℕ) (places words : List ℕ) (t : ℕ) → 0 ≡ number_to names n places words t → (k : ℕ) → k < t → Fit names n (get_or places k 0) (get_or words k 0)
unfolding number_to
all_fit names n places words zero e k h = absurd (let z : ⊥ = omega arith in z)
all_fit names n places words (suc t) e k h = go (eqb (number_to names n places words t) 0) refl e (λ q i. all_fit names n places words t q k i)
  where
    go : (x : Bool) → eqb (number_to names n places words t) 0 ≡ x
        → 0 ≡ cond x (item_number names n places t (get_or words t 0)) (number_to names n places words t)
        → (0 ≡ number_to names n places words t → k < t → Fit names n (get_or places k 0) (get_or words k 0)) → Fit names n (get_or places k 0) (get_or words k 0)
    go true p q f =
        by_cases (ℕ_discrete k t)
        (λ z. subst (λ (j : ℕ). Fit names n (get_or places j 0) (get_or words j 0)) (sym z) (item-fits names n places t (get_or words t 0) q))
        (λ z. f (sym (eqb-true (number_to names n places words t) 0 p)) (omega arith))
    go false p q f = absurd (eqb-false (number_to names n places words t) 0 p (sym q))

pub words-fit : (names : List ℕ) (n : ℕ) (places words : List ℕ) → 0 ≡ words_number names n places words → (k : ℕ) → k < items_of places words → Fit names n (get_or places k 0) (get_or words k 0)
unfolding words_number
words-fit names n places words e = go (leb 17 (items_of places words)) e
  where
    go : (x : Bool) → 0 ≡ cond x 48 (number_to names n places words (items_of places words)) → (k : ℕ) → k < items_of places words → Fit names n (get_or places k 0) (get_or words k 0)
    go true q = absurd (let z : ⊥ = omega arith in z)
    go false q = all_fit names n places words (items_of places words) q

-- so the items may be written
pub settable : {long : ℕ} {names firsts : List ℕ} {room b n : ℕ} {places words : List ℕ} {m k : ℕ} → Listed long names firsts room b n → k ≡ words_number names n places words → k ≡ 0 → m ≡ items_of places words
    → Settable long names firsts room places words m
settable {long} {names} {firsts} {room} {b} {n} {places} {words} {m} L e z q = record {
  places_held = omega arith;
  words_held = omega arith;
  each = λ t h.
      let F = words-fit names n places words (sym z ∙ e) t (omega arith) in
      let W = L.words (get_or places t 0) F.within F.word in
      record {
        named = omega (arith, F.within, L.named);
        placed = omega (arith, F.within, L.placed);
        valued = omega (arith, F.within, L.valued);
        word = F.word;
        value = F.value;
        place = omega (arith, L.most);
        whole = omega (arith, L.whole);
      };
}

-- what writing one asks
pub item-asks : {long : ℕ} {names firsts : List ℕ} {room i v w : ℕ} → Item long names firsts room i v → (w ≡ width_of (get_or names i 0)) × (0 < w) × (w ≤ 8) → {m : ℕ} → m ≡ long
    → (w ≤ 8) × (v < 2 ^ w) × (get_or firsts i 0 + w < 65536) × (get_or firsts i 0 / 8 + 1 < m)
item-asks F q l = (q.2, rw q.0 F.value, omega (arith, q.0, F.place), omega (arith, F.whole))

-- one item more
module _ (s names firsts places words : List ℕ) where
  pub worded-more : (t : ℕ) {i v w m : ℕ} {x y : List ℕ} → x ≡ worded_to s names firsts places words t → i ≡ get_or places t 0 → v ≡ get_or words t 0 → w ≡ width_of (get_or names i 0)
      → y ≡ with_word x (get_or firsts i 0) w v → m ≡ t + 1 → y ≡ worded_to s names firsts places words m
  unfolding worded_to
  worded-more t {i} {v} {w} {m} {x} {y} e p q l h k =
      h ∙ ap (λ (w : ℕ). with_word x (get_or firsts i 0) w v) l
      ∙ ap (λ (x : List ℕ). with_word x (get_or firsts i 0) (width_of (get_or names i 0)) v) e
      ∙ ap₂ (λ (i v : ℕ). with_word (worded_to s names firsts places words t) (get_or firsts i 0) (width_of (get_or names i 0)) v) p q
      ∙ ap (worded_to s names firsts places words) (sym (k ∙ add-one t))

  pub worded-long : (t : ℕ) → length (worded_to s names firsts places words t) ≡ length s
  unfolding worded_to with_word
  worded-long zero = refl
  worded-long (suc t) = rw (length-set, length-set) (worded-long t)

module _ (held places words : List ℕ) where
  pub values-more : (t : ℕ) {i v m : ℕ} {x : List ℕ} → x ≡ values_to held places words t → i ≡ get_or places t 0 → v ≡ get_or words t 0 → m ≡ t + 1 → set x i v ≡ values_to held places words m
  unfolding values_to
  values-more t {i} {v} {m} {x} e p q k =
      ap (λ (x : List ℕ). set x i v) e ∙ ap₂ (λ (i v : ℕ). set (values_to held places words t) i v) p q ∙ ap (values_to held places words) (sym (k ∙ add-one t))

  pub values-long : (t : ℕ) → length (values_to held places words t) ≡ length held
  unfolding values_to
  values-long zero = refl
  values-long (suc t) = rw length-set (values-long t)

-- the bytes and the values then
module _ (s names firsts held : List ℕ) (b n : ℕ) (places words : List ℕ) {m : ℕ} {x : List ℕ} (em : m ≡ items_of places words) (ex : x ≡ worded_to s names firsts places words m) where
  pub bytes_are : {y : List ℕ} → y ≡ with_crc2 x b → y ≡ bytes_to 0 s names firsts b places words
  bytes_are ey = ey ∙ ap (λ (x : List ℕ). with_crc2 x b) (ex ∙ ap (worded_to s names firsts places words) em)

  pub values-are : {c : ℕ} {vs : List ℕ} → vs ≡ values_to held places words m → c ≡ crc2 x b → set vs (n - 1) c ≡ held_to 0 s names firsts held b n places words
  values-are ev ec =
      ap₂ (λ (vs : List ℕ) (c : ℕ). set vs (n - 1) c) (ev ∙ ap (values_to held places words) em)
      (ec ∙ ap (λ (x : List ℕ). crc2 x b) (ex ∙ ap (worded_to s names firsts places words) em))

-- the answer where all is set, and that of a refusal
pub set-is : (a : Answer) (k n : ℕ) → k ≡ 0 → a ≡ answer_with a k n
set-is a k n e = rw e refl

pub refused-is : (a : Answer) (k : Refusal) (n : ℕ) {r : Answer} → r ≡ refusal_from (record { refusal = k; at = record { 0 = 0 }; count = n }) → (j : ℕ) → number_of k ≡ j → ¬ (j ≡ 0) → r ≡ answer_with a j n
refused-is a k n er j ej h = rw (← ej) (er ∙ kept (number_of k) a (refusal_from (record { refusal = k; at = record { 0 = 0 }; count = n })) (λ z. h (sym ej ∙ z)))
