-- A byte, a digit or a record more. Assumes nothing.
use mathlib.Core.Path.{◌≡◌, refl, sym, ap, ◌∙◌}
use mathlib.Core.Bool.{Bool, true, false}
use mathlib.Core.List.{List}
use mathlib.Core.Logic.{by_cases}
use Rattle.std.specs.Prelude.{bytes_eq, Option, Some, None, is_some, ok_or, MatchOption, ⊤, Err}
use Prim.Native.Nat.{ℕ, zero, suc, ◌+◌, ◌-◌, ◌≤◌, ◌<◌}
use native.Mathlib.Omega.{arith}
use native.Mathlib.Decide.{ℕ_discrete}
use Rattle.std.proofs.Common.{zero-add}
use Rattle.std.proofs.lemmas.List.{get_or-drop, length-drop}
use native.Mathlib.Numerals.{add-one}
use lib.ListN.{length, get_or, drop}
use borrow.Author.Tests.{eq-eqb, ne_eqb, le-leb, lt-leb}
use Rattle.names.specs.Spelling.{bytes}
use Rattle.word_items.specs.declared.Unplaced.TheVariants.{Nowhere, Twice}
use Rattle.word_items.specs.Items.{last_to, name_of, digit_of, behind, value_to, marks_hex, number_of, is_meant, meant_to, place_of}

module _ (s : List ℕ) (c : ℕ) where
  pub last_none : (n : ℕ) → ((k : ℕ) → k < n → ¬ (get_or s k 0 ≡ c)) → None ≡ last_to s c n
  unfolding last_to
  last_none zero h = refl
  last_none (suc n) h = rw (ne_eqb (get_or s n 0) c (h n (omega arith))) (last_none n (λ k l. h k (omega arith)))

  pub last_at : (n i : ℕ) → i < n → get_or s i 0 ≡ c → ((k : ℕ) → i < k → k < n → ¬ (get_or s k 0 ≡ c)) → Some i ≡ last_to s c n
  unfolding last_to
  last_at zero i l e h = absurd (let z : ⊥ = omega arith in z)
  last_at (suc n) i l e h =
      by_cases (ℕ_discrete n i) (λ z. let q : get_or s n 0 ≡ c = ap (λ (k : ℕ). get_or s k 0) z ∙ e in rw (eq-eqb (get_or s n 0) c q) (ap Some (sym z)))
      (λ z. rw (ne_eqb (get_or s n 0) c (h n (omega arith) (omega arith))) (last_at n i (omega arith) e (λ k a b. h k a (omega arith))))

  pub last_is : (r : Option ℕ) → MatchOption r ((k : ℕ) → k < length s → ¬ (get_or s k 0 ≡ c)) (λ i. (i < length s) × (get_or s i 0 ≡ c) × ((k : ℕ) → i < k → k < length s → ¬ (get_or s k 0 ≡ c)))
      → r ≡ last_to s c (length s)
  last_is None h = last_none (length s) h
  last_is (Some i) h = last_at (length s) i h.0 h.1 h.2

module _ (s : List ℕ) (base : ℕ) where
  pub value_none : Some 0 ≡ value_to s base 0 0
  unfolding value_to
  value_none = refl

  pub value_on : (t : ℕ) {v d r : Option ℕ} → v ≡ value_to s base 0 t → d ≡ digit_of (get_or s t 0) → r ≡ behind base v d → r ≡ value_to s base 0 (t + 1)
  unfolding value_to
  value_on t {v} {d} e q h =
      h ∙ ap (behind base v) (q ∙ ap (λ (i : ℕ). digit_of (get_or s i 0)) (sym (zero-add t)))
      ∙ ap (λ (v : Option ℕ). behind base v (digit_of (get_or s (0 + t) 0))) e ∙ ap (value_to s base 0) (sym (add-one t))

  -- what is no number stays none
  value_stays : (n t : ℕ) → t ≤ n → None ≡ value_to s base 0 t → None ≡ value_to s base 0 n
  unfolding value_to behind
  value_stays zero t l e = let z : t ≡ 0 = omega arith in e ∙ ap (value_to s base 0) z
  value_stays (suc n) t l e =
      by_cases (ℕ_discrete t (suc n)) (λ z. e ∙ ap (value_to s base 0) z)
      (λ z. ap (λ (v : Option ℕ). behind base v (digit_of (get_or s (0 + n) 0))) (value_stays n t (omega arith) e))

  pub value_stops : (n t : ℕ) {v d : Option ℕ} → t < n → v ≡ value_to s base 0 t → d ≡ digit_of (get_or s t 0) → None ≡ behind base v d → None ≡ value_to s base 0 n
  value_stops n t l e q h = value_stays n (t + 1) (omega arith) (value_on t e q h)

pub behind-none : (base : ℕ) (v : ℕ) → None ≡ behind base (Some v) None
unfolding behind
behind-none base v = refl

-- behind the first two letters
value_behind : (s : List ℕ) (base t : ℕ) → value_to (drop 2 s) base 0 t ≡ value_to s base 2 t
unfolding value_to
value_behind s base zero = refl
value_behind s base (suc t) =
    ap (λ (v : Option ℕ). behind base v (digit_of (get_or (drop 2 s) (0 + t) 0))) (value_behind s base t)
    ∙ ap (λ (x : ℕ). behind base (value_to s base 2 t) (digit_of x)) (get_or-drop 2 s (0 + t) 0 ∙ ap (λ (i : ℕ). get_or s (2 + i) 0) (zero-add t))

module _ (names blocks : List ℕ) (name : ℕ) (block : Option ℕ) where
  abbrev means : ℕ → Bool
  means t = is_meant (get_or names t 0) (get_or blocks t 0) name block

  pub meant-none : None ≡ meant_to names blocks name block 0
  unfolding meant_to
  meant-none = refl

  pub meant-hit : (t : ℕ) → means t ≡ true → Some t ≡ meant_to names blocks name block (t + 1)
  unfolding meant_to
  meant-hit t e = let q : Some t ≡ meant_to names blocks name block (suc t) = rw e refl in q ∙ ap (meant_to names blocks name block) (sym (add-one t))

  pub meant-miss : (t : ℕ) {p : Option ℕ} → p ≡ meant_to names blocks name block t → means t ≡ false → p ≡ meant_to names blocks name block (t + 1)
  unfolding meant_to
  meant-miss t {p} h e = let q : p ≡ meant_to names blocks name block (suc t) = rw e h in q ∙ ap (meant_to names blocks name block) (sym (add-one t))

  record Last (t n : ℕ) : Type 0 where
    place : ℕ
    is : meant_to names blocks name block n ≡ Some place
    low : t ≤ place
    high : place < n

  last : (n t : ℕ) → t < n → means t ≡ true → Last t n
  unfolding meant_to
  last zero t l e = absurd (let z : ⊥ = omega arith in z)
  last (suc n) t l e = go (means n) refl (λ h. last n t h e)
    where
      go : (b : Bool) → means n ≡ b → (t < n → Last t n) → Last t (suc n)
      go true q f = record { place = n; is = rw q refl; low = omega arith; high = omega arith }
      go false q f =
          by_cases (ℕ_discrete t n) (λ z. absurd (let x : ◌≡◌ {A = Bool} true false = sym e ∙ ap means z ∙ q in let y : ◌≡◌ {A = ℕ} 0 1 = cc in omega arith))
          (λ z. let w = f (omega arith) in record { place = w.place; is = rw q w.is; low = w.low; high = omega (arith, w.high) })

  pub is-twice : (n t : ℕ) {q : ℕ} → t < n → means t ≡ true → Some q ≡ meant_to names blocks name block t → Err Twice ≡ place_of names blocks n name block
  unfolding place_of
  is-twice n t {q} l e h =
      let w = last n t l e in
      by_cases (ℕ_discrete t w.place) (λ z. rw w.is (rw (← z, ← h) refl))
      (λ z. let v = last w.place t (omega (arith, w.low)) e in rw w.is (rw v.is refl))

  -- the record t is meant, where one before it was, and where none was
  pub again : (p : Option ℕ) (n t : ℕ) → p ≡ meant_to names blocks name block t → is_some p ≡ true → t < n → means t ≡ true → Err Twice ≡ place_of names blocks n name block
  again None n t h k l e = absurd (let y : ◌≡◌ {A = ℕ} 0 1 = cc in omega arith)
  again (Some q) n t h k l e = is-twice n t l e h

  pub alone : (p : Option ℕ) (t : ℕ) {q : Option ℕ} → p ≡ meant_to names blocks name block t → is_some p ≡ false → means t ≡ true → q ≡ Some t
      → (q ≡ meant_to names blocks name block (t + 1)) × MatchOption q ⊤ (λ p. None ≡ meant_to names blocks name block p)
  alone None t h k e w = rw w (meant-hit t e, h)
  alone (Some q) t h k e w = absurd (let y : ◌≡◌ {A = ℕ} 0 1 = cc in omega arith)

  -- all are looked at
  pub placed : (p : Option ℕ) (n : ℕ) → p ≡ meant_to names blocks name block n → MatchOption p ⊤ (λ p. None ≡ meant_to names blocks name block p) → ok_or p Nowhere ≡ place_of names blocks n name block
  unfolding place_of
  placed None n h k = rw (← h) refl
  placed (Some p) n h k = rw (← h) (rw (← k) refl)

module _ (s : List ℕ) where
  pub number-none : length s ≡ 0 → None ≡ number_of s
  unfolding number_of
  number-none h = rw (le-leb (length s) 0 (omega arith)) refl

  pub number-hex : {r : Option ℕ} → 2 < length s → marks_hex (get_or s 0 0) (get_or s 1 0) ≡ true → r ≡ value_to (drop 2 s) 16 0 (length (drop 2 s)) → r ≡ number_of s
  unfolding number_of
  number-hex l q e =
      let h : 0 < length s = omega arith in
      rw (lt-leb (length s) 0 h, lt-leb (length s) 2 l, q) (e ∙ ap (value_to (drop 2 s) 16 0) (length-drop 2 s) ∙ value_behind s 16 (length s - 2))

  pub number_short : {r : Option ℕ} → 0 < length s → length s ≤ 2 → r ≡ value_to s 10 0 (length s) → r ≡ number_of s
  unfolding number_of
  number_short h l e = rw (lt-leb (length s) 0 h, le-leb (length s) 2 l) e

  pub number-ten : {r : Option ℕ} → 2 < length s → marks_hex (get_or s 0 0) (get_or s 1 0) ≡ false → r ≡ value_to s 10 0 (length s) → r ≡ number_of s
  unfolding number_of
  number-ten l q e =
      let h : 0 < length s = omega arith in
      rw (lt-leb (length s) 0 h, lt-leb (length s) 2 l, q) e

-- the tests of a text's words, one after another
module _ (s : List ℕ) where
  pub first_word : {a : Bool} → a ≡ bytes_eq s (bytes "dialnorm") → a ≡ true → Some 80 ≡ name_of s
  unfolding name_of
  first_word ea ta = rw (sym ea ∙ ta) refl

  pub second_word : {a b : Bool} → a ≡ bytes_eq s (bytes "dialnorm") → a ≡ false → b ≡ bytes_eq s (bytes "dialnorm2") → b ≡ true → Some 81 ≡ name_of s
  unfolding name_of
  second_word ea ta eb tb = rw (sym ea ∙ ta, sym eb ∙ tb) refl

  pub third_word : {a b c : Bool} → a ≡ bytes_eq s (bytes "dialnorm") → a ≡ false → b ≡ bytes_eq s (bytes "dialnorm2") → b ≡ false → c ≡ bytes_eq s (bytes "compr") → c ≡ true → Some 36 ≡ name_of s
  unfolding name_of
  third_word ea ta eb tb ec tc = rw (sym ea ∙ ta, sym eb ∙ tb, sym ec ∙ tc) refl

  pub fourth_word : {a b c d : Bool} → a ≡ bytes_eq s (bytes "dialnorm") → a ≡ false → b ≡ bytes_eq s (bytes "dialnorm2") → b ≡ false → c ≡ bytes_eq s (bytes "compr") → c ≡ false → d ≡ bytes_eq s (bytes "compr2") → d ≡ true → Some 37 ≡ name_of s
  unfolding name_of
  fourth_word ea ta eb tb ec tc ed td = rw (sym ea ∙ ta, sym eb ∙ tb, sym ec ∙ tc, sym ed ∙ td) refl

  pub fifth_word : {a b c d e : Bool} → a ≡ bytes_eq s (bytes "dialnorm") → a ≡ false → b ≡ bytes_eq s (bytes "dialnorm2") → b ≡ false → c ≡ bytes_eq s (bytes "compr") → c ≡ false → d ≡ bytes_eq s (bytes "compr2") → d ≡ false → e ≡ bytes_eq s (bytes "dynrng") → e ≡ true → Some 89 ≡ name_of s
  unfolding name_of
  fifth_word ea ta eb tb ec tc ed td ee te = rw (sym ea ∙ ta, sym eb ∙ tb, sym ec ∙ tc, sym ed ∙ td, sym ee ∙ te) refl

  pub sixth_word : {a b c d e f : Bool} → a ≡ bytes_eq s (bytes "dialnorm") → a ≡ false → b ≡ bytes_eq s (bytes "dialnorm2") → b ≡ false → c ≡ bytes_eq s (bytes "compr") → c ≡ false → d ≡ bytes_eq s (bytes "compr2") → d ≡ false → e ≡ bytes_eq s (bytes "dynrng") → e ≡ false → f ≡ bytes_eq s (bytes "dynrng2") → f ≡ true → Some 90 ≡ name_of s
  unfolding name_of
  sixth_word ea ta eb tb ec tc ed td ee te ef tf = rw (sym ea ∙ ta, sym eb ∙ tb, sym ec ∙ tc, sym ed ∙ td, sym ee ∙ te, sym ef ∙ tf) refl

  pub no_word : {a b c d e f : Bool} → a ≡ bytes_eq s (bytes "dialnorm") → a ≡ false → b ≡ bytes_eq s (bytes "dialnorm2") → b ≡ false → c ≡ bytes_eq s (bytes "compr") → c ≡ false → d ≡ bytes_eq s (bytes "compr2") → d ≡ false → e ≡ bytes_eq s (bytes "dynrng") → e ≡ false → f ≡ bytes_eq s (bytes "dynrng2") → f ≡ false → None ≡ name_of s
  unfolding name_of
  no_word ea ta eb tb ec tc ed td ee te ef tf = rw (sym ea ∙ ta, sym eb ∙ tb, sym ec ∙ tc, sym ed ∙ td, sym ee ∙ te, sym ef ∙ tf) refl
