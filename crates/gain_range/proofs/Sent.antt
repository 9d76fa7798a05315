-- The words in the room are those of the reading's records. Assumes nothing.
use mathlib.Core.Path.{◌≡◌, refl, sym, ap, ◌∙◌, subst}
use mathlib.Core.Bool.{Bool, true, false, cond, true≢false}
use mathlib.Core.List.{List, [], ◌∷◌, map}
use mathlib.Core.Option.{some}
use Prim.Native.Nat.{ℕ, suc, ◌+◌, ◌%◌, ◌≤◌, ◌<◌}
use native.Mathlib.Nat.{mod-eq_of_lt, zero-add, add-zero}
use native.Mathlib.Omega.{arith}
use lib.Dec.{eqb}
use lib.IntN.{ℤ}
use lib.ListN.{length, get_or, get_elem?}
use borrow.Author.Tests.{eqb-true}
use Rattle.bits.proofs.BitLaws.{bits_at-lt}
use Rattle.names.specs.Names.{dynrng, compr, dynrng2, compr2}
use Rattle.reading.specs.Run.{Field, Entry, Result, accepted, refused, Outcome}
use Rattle.reading.specs.Records.{All, Valued}
use Rattle.reading.specs.Room.{Room, room, size}
use Rattle.reading.specs.Frame.{parse}
use Rattle.reading.proofs.Laws.{Ok}
use Rattle.reading.proofs.Rooms.{cut-same}
use Rattle.reading.proofs.Frames.{whole-valued}
use Rattle.steers.proofs.Theorem.{accepted-whole}
use Rattle.cells.specs.Cells.{State}
use Rattle.rows.specs.Syntax.{among}
use Rattle.annex.specs.Frame.{eac3}
use Rattle.outcomes.specs.Outcomes.{Named, span_names}
use Rattle.outcomes.proofs.Outcomes.{all_keep}
use Rattle.words.specs.Words.{width_of}
use Rattle.loudness.proofs.Loudness.{word-widths}
use Rattle.answer.specs.Answer.{answer_by}
use Rattle.answer.specs.declared.Answer.{Answer}
use Rattle.gain.specs.Gains.{gains_of}
use Rattle.gain.specs.Parts.{named}
use Rattle.gain.specs.declared.Gains.{Gains}
use Rattle.gain.proofs.Named.{Bytes}
use Rattle.gain.proofs.Lowest.{kind-holds}
use Rattle.gain.specs.declared.Kind.TheVariants.{Dynrng, Compr}
use Rattle.eac3.specs.Called.{Called}
use Rattle.demands.specs.Calls.{Call, record_at, count}
use Rattle.demands.proofs.Calls.{outcome, is, counts, holds}
use Rattle.demands.proofs.Answers.{all-answer}
use Rattle.gain_range.specs.GainRange.{words_of, sent_by, sent, Exact, GainsRead}

-- ---- a gain word is a byte
-- of this name: not a span's, and of 8 bits
record GainName (name : ℕ) : Type 0 where
  element : among span_names name ≡ false
  wide : width_of name ≡ 8

is-dynrng : GainName dynrng
unfolding among span_names width_of
is-dynrng = record { element = refl; wide = refl }

is-compr : GainName compr
unfolding among span_names width_of
is-compr = record { element = refl; wide = refl }

is-dynrng2 : GainName dynrng2
unfolding among span_names width_of
is-dynrng2 = record { element = refl; wide = refl }

is-compr2 : GainName compr2
unfolding among span_names width_of
is-compr2 = record { element = refl; wide = refl }

abbrev Wide : Entry → Type 0
Wide e = ¬ (width_of e.field.name ≡ 0) → e.field.width ≡ width_of e.field.name

-- a record of this name has a byte's value
abbrev Byte : ℕ → Entry → Type 0
Byte name e = e.field.name ≡ name → e.field.value < 256

byte : (name : ℕ) → GainName name → (s : List ℕ) (e : Entry) → Named e → Valued s e → Wide e → Byte name e
byte name g s e n v w q = go e.spans refl
  where
    width : e.field.width ≡ 8
    width =
        let z : width_of e.field.name ≡ 8 = ap width_of q ∙ g.wide in
        w (λ h. let k : ◌≡◌ {A = ℕ} 8 0 = sym z ∙ h in omega arith) ∙ z

    go : (b : Bool) → e.spans ≡ b → e.field.value < 256
    go true h = absurd (true≢false (sym (n h) ∙ ap (among span_names) q ∙ g.element))
    go false h = let l = bits_at-lt s e.field.first e.field.width in rw (v h, width) (rw width at l)

all-bytes : (name : ℕ) → GainName name → (s : List ℕ) (es : List Entry) → All Named es → All (Valued s) es → All Wide es → All (Byte name) es
all-bytes name g s [] n v w = tt
all-bytes name g s (e ∷ es) n v w = (byte name g s e n.0 v.0 w.0, all-bytes name g s es n.1 v.1 w.1)

-- ---- the words of some records
words-bytes : (name : ℕ) (es : List Entry) → All (Byte name) es → Bytes (words_of name es)
unfolding words_of
words-bytes name [] B = tt
words-bytes name (e ∷ es) B = go (eqb e.field.name name) refl (words-bytes name es B.1)
  where
    go : (b : Bool) → eqb e.field.name name ≡ b → Bytes (words_of name es) → Bytes (cond b (e.field.value ∷ words_of name es) (words_of name es))
    go true h W = (B.0 (eqb-true _ _ h), W)
    go false h W = W

-- those of records that stand in a room from the place j on
words_are : (name : ℕ) (m : Room) (es : List Entry) (j : ℕ)
    → ((i : ℕ) → i < length es → get_elem? (map (λ (e : Entry). e.field) es) i ≡ some (record_at m (j + i)))
    → All (Byte name) es → named name m.names m.values j (length es) ≡ words_of name es
unfolding named words_of record_at
words_are name m [] j h B = refl
words_are name m (e ∷ es) j h B =
    step (eqb e.field.name name) refl (words_are name m es (j + 1) (λ i l. h (suc i) (omega arith) ∙ (let k : j + suc i ≡ j + 1 + i = omega arith in ap (λ (z : ℕ). some (record_at m z)) k)) B.1)
  where
    here : e.field ≡ record_at m j
    here =
        let w : some e.field ≡ some (record_at m j) = h 0 (omega arith) ∙ ap (λ (z : ℕ). some (record_at m z)) (add-zero j) in
        let z : e.field ≡ record_at m j = cc in z

    name-is : get_or m.names j 0 ≡ e.field.name
    name-is = sym (ap (λ (f : Field). f.name) here)

    value-is : get_or m.values j 0 ≡ e.field.value
    value-is = sym (ap (λ (f : Field). f.value) here)

    step : (b : Bool) → eqb e.field.name name ≡ b → named name m.names m.values (j + 1) (length es) ≡ words_of name es
        → cond (eqb (get_or m.names j 0) name) (get_or m.values j 0 % 256 ∷ named name m.names m.values (j + 1) (length es)) (named name m.names m.values (j + 1) (length es))
        ≡ cond (eqb e.field.name name) (e.field.value ∷ words_of name es) (words_of name es)
    step true q r = let l : e.field.value % 256 ≡ e.field.value = mod-eq_of_lt (B.0 (eqb-true _ _ q)) in rw (name-is, value-is, q, r, l)
    step false q r = rw (name-is, q, r)

-- ---- an accepted frame's records
accepted-bytes : (name : ℕ) → GainName name → (s : List ℕ) (o : Outcome State) → o ≡ parse eac3 s → Ok o.result → All (Byte name) o.records
accepted-bytes name g s o q k =
    subst (λ (o : Outcome State). All (Byte name) o.records) (sym q)
    (all-bytes name g s (parse eac3 s).records (all_keep s).spans
    (subst (λ (o : Outcome State). All (Valued s) o.records) (sym (accepted-whole eac3 s (subst (λ (o : Outcome State). Ok o.result) q k))) (whole-valued eac3 s))
    (word-widths s))

fields-by : (r : Result State) (p n : ℕ) → Ok r → (answer_by r p n).frame.fields ≡ n
fields-by (accepted st) p n k = refl
fields-by (refused j) p n k = absurd k

fields-most : (r : Result State) (p n : ℕ) → (answer_by r p n).frame.fields ≤ n
fields-most (accepted st) p n = omega arith
fields-most (refused j) p n = omega arith

-- a call of the reader, and the records that its answer counts
module _ {s : List ℕ} (c : Call s) where
  pub few : c.answer.frame.fields ≤ count c
  few = omega (arith, ap (λ (a : Answer). a.frame.fields) (is c), fields-most (outcome c).result (outcome c).place (0 + length (outcome c).records), counts c)

  sent_is : (name : ℕ) → GainName name → named name c.left.names c.left.values 0 c.answer.frame.fields ≡ sent (outcome c) name
  unfolding named
  sent_is name g = go (outcome c).result refl
    where
      go : (r : Result State) → (outcome c).result ≡ r → named name c.left.names c.left.values 0 c.answer.frame.fields ≡ sent_by r (outcome c).records name
      go (accepted st) e =
          let ok : Ok (outcome c).result = subst Ok (sym e) tt in
          let n : c.answer.frame.fields ≡ length (outcome c).records =
          ap (λ (a : Answer). a.frame.fields) (is c) ∙ fields-by (outcome c).result (outcome c).place (0 + length (outcome c).records) ok ∙ zero-add (length (outcome c).records) in
          let w : outcome c ≡ parse eac3 s = cut-same (size c.lent) (parse eac3 s) (λ q. let z : ◌≡◌ {A = ℕ} 0 1 = clash e q in omega arith) in
          ap (λ (z : ℕ). named name c.left.names c.left.values 0 z) n
          ∙ words_are name c.left (outcome c).records 0 (λ i l. holds c i (omega (arith, counts c)) ∙ ap (λ (z : ℕ). some (record_at c.left z)) (sym (zero-add i))) (accepted-bytes name g s (outcome c) w ok)
        where
          clash : {r : Result State} {a : State} {k : ℕ} → r ≡ accepted a → r ≡ refused k → ◌≡◌ {A = ℕ} 0 1
          clash e f = cc
      go (refused k) e =
          let n : c.answer.frame.fields ≡ 0 = ap (λ (a : Answer). a.frame.fields) (is c) ∙ ap (λ (r : Result State). (answer_by r (outcome c).place (0 + length (outcome c).records)).frame.fields) e in
          ap (λ (z : ℕ). named name c.left.names c.left.values 0 z) n

  sent-bytes : (name : ℕ) → GainName name → Bytes (sent (outcome c) name)
  sent-bytes name g = go (outcome c).result refl
    where
      go : (r : Result State) → (outcome c).result ≡ r → Bytes (sent_by r (outcome c).records name)
      go (accepted st) e =
          let ok : Ok (outcome c).result = subst Ok (sym e) tt in
          let w : outcome c ≡ parse eac3 s = cut-same (size c.lent) (parse eac3 s) (λ q. let z : ◌≡◌ {A = ℕ} 0 1 = clash e q in omega arith) in
          words-bytes name (outcome c).records (accepted-bytes name g s (outcome c) w ok)
        where
          clash : {r : Result State} {a : State} {k : ℕ} → r ≡ accepted a → r ≡ refused k → ◌≡◌ {A = ℕ} 0 1
          clash e f = cc
      go (refused k) e = tt

  exact : Exact (sent (outcome c))
  exact = record {
    first_dynrng = kind-holds Dynrng _ (sent-bytes dynrng is-dynrng);
    first_compr = kind-holds Compr _ (sent-bytes compr is-compr);
    second_dynrng = kind-holds Dynrng _ (sent-bytes dynrng2 is-dynrng2);
    second_compr = kind-holds Compr _ (sent-bytes compr2 is-compr2);
  }

  gains-are : gains_of (λ k. named k c.left.names c.left.values 0 c.answer.frame.fields) ≡ gains_of (sent (outcome c))
  unfolding gains_of
  gains-are = rw (sent_is dynrng is-dynrng, sent_is compr is-compr, sent_is dynrng2 is-dynrng2, sent_is compr2 is-compr2) refl

-- what the entry asks of `gains_in`, and tells
module _ (s : List ℕ) (m : Room) (names : List ℕ) (blocks indexes : List ℤ) (firsts widths values : List ℕ) {a : Answer} (c : Called s m a (room names blocks indexes firsts widths values)) where
  call : Call s
  call = record { lent = m; answer = a; left = room names blocks indexes firsts widths values; called = c }

  pub in-names : a.frame.fields ≤ length names
  unfolding call size
  in-names = let A = all-answer s call in omega (arith, few call, A.fits, A.names.sized)

  pub in-values : a.frame.fields ≤ length values
  unfolding call size
  in-values = let A = all-answer s call in omega (arith, few call, A.fits, A.values.sized)

  pub gains-read : {g : Gains} → g ≡ gains_of (λ k. named k names values 0 a.frame.fields) → GainsRead s m (record { answer = a; gains = g }) (room names blocks indexes firsts widths values)
  unfolding call
  gains-read e = record { called = c; gains = e ∙ gains-are call; exact = exact call }
