-- What the entry tells, from the reading and the rewriting. Assumes nothing.
use mathlib.Core.Path.{◌≡◌, refl, sym, ap, ap₂, ◌∙◌, subst}
use mathlib.Core.Bool.{Bool, true, false, cond, true≢false}
use mathlib.Core.List.{List, [], ◌∷◌}
use Prim.Native.Nat.{ℕ, zero, suc, ◌-◌, ◌<◌}
use native.Mathlib.Omega.{arith}
use lib.Dec.{eqb}
use lib.IntN.{ℤ}
use lib.ListN.{length, get_or, set}
use borrow.Author.Tests.{eqb-true}
use Rattle.reading.specs.Room.{Room, room, size}
use Rattle.answer.specs.Answer.{place_at, answer_of}
use Rattle.answer.specs.declared.Answer.{Answer}
use Rattle.answer.specs.declared.Verdict.{Verdict}
use Rattle.answer.specs.declared.Verdict.TheVariants.{Accepted, Refused}
use Rattle.eac3.specs.Called.{answered, Called}
use Rattle.steers.specs.Writing.{patched}
use Rattle.demands.specs.Calls.{Call, record_at, count, nth}
use Rattle.demands.proofs.Calls.{outcome, holds}
use Rattle.demands.proofs.Answers.{all-answer}
use Rattle.crc.specs.Crc.{crc2, with_crc2}
use Rattle.mastering.specs.SetWord.{accepted_by, word_number, worded, answer_with, WordSet}
use Rattle.mastering.specs.SetWords.{items_of, listed as listed_by, item_number, number_to, words_number, worded_to, values_to, bytes_to, held_to, WordsSet}
use Rattle.mastering.specs.Listed.{Listed}
use Rattle.mastering.proofs.Rewriting.{Fit, words-fit}
use Rattle.mastering.proofs.Setting.{entry_at, ends, fields-are, bytes-is, long, most, some-record, in-front, word-called, crc2-called}

accepted-by : (v : Verdict) → accepted_by v ≡ true → v ≡ Accepted
accepted-by Accepted e = refl
accepted-by (Refused k p n) e = absurd (true≢false (sym e))

refused-by : (v : Verdict) → accepted_by v ≡ false → ¬ (v ≡ Accepted)
refused-by Accepted e q = true≢false e
refused-by (Refused k p n) e q = let z : ◌≡◌ {A = ℕ} 0 1 = cc in omega arith

module _ (s : List ℕ) (m : Room) (places words : List ℕ) {a : Answer} {m' : Room} (c : Called s m a m') where
  -- the reader refuses
  pub reader-refuses : accepted_by a.verdict ≡ false → WordsSet s m places words a s m'
  reader-refuses t =
      let e : accepted_by (answer_of (answered s m)).verdict ≡ false = ap (λ (a : Answer). accepted_by a.verdict) (sym c.answer) ∙ t in
      record {
        answer = rw e c.answer;
        bytes = rw e refl;
        left = rw e c.left;
        again = λ q. absurd (refused-by a.verdict t q);
      }

-- the reader accepts: what `rewrite` asks, and the word set
module _ (s : List ℕ) (m : Room) (names : List ℕ) (blocks indexes : List ℤ) (firsts widths values : List ℕ) {a : Answer} (c : Called s m a (room names blocks indexes firsts widths values)) (t : accepted_by a.verdict ≡ true) where
  call : Call s
  call = record { lent = m; answer = a; left = room names blocks indexes firsts widths values; called = c }

  accepts : a.verdict ≡ Accepted
  accepts = accepted-by a.verdict t

  pub listed : Listed (length s) names firsts (length values) a.frame.bytes.0 a.frame.fields
  unfolding call record_at size
  listed =
      let K = ends call accepts in
      let n = fields-are call accepts in
      let A = all-answer s call in
      let b = bytes-is call accepts K in
      record {
        six = omega (arith, b, long call accepts K);
        most = omega (arith, b, most call accepts K);
        whole = omega (arith, b, K.held);
        some = omega (arith, n, some-record call accepts K);
        named = omega (arith, n, A.fits, A.names.sized);
        placed = omega (arith, n, A.fits, A.firsts.sized);
        valued = omega (arith, n, A.fits, A.values.sized);
        words = λ i h w. in-front call accepts K i (entry_at (outcome call).records i (nth call i) (holds call i (omega (arith, n)))) w;
      }

  module _ (places words : List ℕ) where
    -- the first t items set, one after another
    items-called : (t : ℕ) → ((k : ℕ) → k < t → Fit names a.frame.fields (get_or places k 0) (get_or words k 0))
        → Called (worded_to s names firsts places words t) m a (room names blocks indexes firsts widths (values_to values places words t))
    unfolding worded_to values_to record_at patched
    items-called zero h = c
    items-called (suc t) h = one (items-called t (λ k i. h k (omega arith))) (h t (omega arith))
      where
        one : Called (worded_to s names firsts places words t) m a (room names blocks indexes firsts widths (values_to values places words t)) → Fit names a.frame.fields (get_or places t 0) (get_or words t 0)
            → Called (worded (worded_to s names firsts places words t) names firsts (get_or places t 0) (get_or words t 0)) m a (room names blocks indexes firsts widths (set (values_to values places words t) (get_or places t 0) (get_or words t 0)))
        one c F =
            let d : Call (worded_to s names firsts places words t) = record { lent = m; answer = a; left = room names blocks indexes firsts widths (values_to values places words t); called = c } in
            let n = fields-are d accepts in
            let i = get_or places t 0 in
            word-called d accepts (ends d accepts) i (entry_at (outcome d).records i (nth d i) (holds d i (omega (arith, n, F.within)))) F.word (get_or words t 0) F.value

    -- and crc2
    module _ (h : (k : ℕ) → k < items_of places words → Fit names a.frame.fields (get_or places k 0) (get_or words k 0)) where
      abbrev x : List ℕ
      x = worded_to s names firsts places words (items_of places words)

      abbrev vs : List ℕ
      vs = values_to values places words (items_of places words)

      all-called : Called (with_crc2 x a.frame.bytes.0) m a (room names blocks indexes firsts widths (set vs (a.frame.fields - 1) (crc2 x a.frame.bytes.0)))
      unfolding patched
      all-called =
          let d : Call x = record { lent = m; answer = a; left = room names blocks indexes firsts widths vs; called = items-called (items_of places words) h } in
          let K = ends d accepts in
          subst (λ (n : ℕ). Called (with_crc2 x a.frame.bytes.0) m a (room names blocks indexes firsts widths (set vs (n - 1) (crc2 x a.frame.bytes.0)))) (sym (fields-are d accepts))
          (subst (λ (b : ℕ). Called (with_crc2 x b) m a (room names blocks indexes firsts widths (set vs (count d - 1) (crc2 x b)))) (sym (bytes-is d accepts K))
          (crc2-called d accepts K))

  module _ (places words : List ℕ) (k : ℕ) {s' values' : List ℕ} {r : Answer}
      (ek : k ≡ words_number names a.frame.fields places words)
      (es : s' ≡ bytes_to k s names firsts a.frame.bytes.0 places words)
      (ev : values' ≡ held_to k s names firsts values a.frame.bytes.0 a.frame.fields places words)
      (er : r ≡ answer_with a k a.frame.fields) where
    -- the new frame, where there is one
    set-again : k ≡ 0 → Called s' m r (room names blocks indexes firsts widths values')
    set-again z =
        let C = all-called places words (words-fit names a.frame.fields places words (sym z ∙ ek)) in
        let y = sym (es ∙ ap (λ (k : ℕ). bytes_to k s names firsts a.frame.bytes.0 places words) z) in
        let u = sym (ev ∙ ap (λ (k : ℕ). held_to k s names firsts values a.frame.bytes.0 a.frame.fields places words) z) in
        let q = sym (er ∙ ap (λ (k : ℕ). answer_with a k a.frame.fields) z) in
        subst (λ (x : List ℕ). Called x m r (room names blocks indexes firsts widths values')) y
        (subst (λ (x : List ℕ). Called (bytes_to 0 s names firsts a.frame.bytes.0 places words) m r (room names blocks indexes firsts widths x)) u
        (subst (λ (x : Answer). Called (bytes_to 0 s names firsts a.frame.bytes.0 places words) m x (room names blocks indexes firsts widths (held_to 0 s names firsts values a.frame.bytes.0 a.frame.fields places words))) q C))

    again : r.verdict ≡ Accepted → Called s' m r (room names blocks indexes firsts widths values')
    again q = go (eqb k 0) refl
      where
        go : (b : Bool) → eqb k 0 ≡ b → Called s' m r (room names blocks indexes firsts widths values')
        go true e = set-again (eqb-true k 0 e)
        go false e =
            let f : r.verdict ≡ Refused k (place_at 0) a.frame.fields = ap (λ (r : Answer). r.verdict) er ∙ rw e refl in
            absurd (let z : ◌≡◌ {A = ℕ} 0 1 = cc in omega arith)

    -- the answer, the room and the count are those of the reading
    same : {X : Type 0} (f : Bool → Answer → Room → ℕ → X)
        → f true a (room names blocks indexes firsts widths values) a.frame.fields ≡ f (accepted_by (answer_of (answered s m)).verdict) (answer_of (answered s m)) (answered s m).left (answered s m).count
    unfolding call
    same f =
        let e : true ≡ accepted_by (answer_of (answered s m)).verdict = sym t ∙ ap (λ (a : Answer). accepted_by a.verdict) c.answer in
        ap (λ (b : Bool). f b a (room names blocks indexes firsts widths values) a.frame.fields) e
        ∙ ap (λ (x : Answer). f (accepted_by (answer_of (answered s m)).verdict) x (room names blocks indexes firsts widths values) a.frame.fields) c.answer
        ∙ ap₂ (λ (m' : Room) (n : ℕ). f (accepted_by (answer_of (answered s m)).verdict) (answer_of (answered s m)) m' n) c.left (fields-are call accepts ∙ c.count)

    pub words-set : WordsSet s m places words r s' (room names blocks indexes firsts widths values')
    words-set = record {
      answer = er ∙ ap (λ (k : ℕ). answer_with a k a.frame.fields) ek ∙ same (λ b x m n. cond b (answer_with x (words_number m.names n places words) n) x);
      bytes = es ∙ ap (λ (k : ℕ). bytes_to k s names firsts a.frame.bytes.0 places words) ek
          ∙ same (λ b x m n. cond b (bytes_to (words_number m.names n places words) s m.names m.firsts x.frame.bytes.0 places words) s);
      left = ap (λ (vs : List ℕ). room names blocks indexes firsts widths vs) (ev ∙ ap (λ (k : ℕ). held_to k s names firsts values a.frame.bytes.0 a.frame.fields places words) ek)
          ∙ same (λ b x m n. cond b (room m.names m.blocks m.indexes m.firsts m.widths (held_to (words_number m.names n places words) s m.names m.firsts m.values x.frame.bytes.0 n places words)) m);
      again = again;
    }

-- one word is the one item of its place and value
pub one_word : {s : List ℕ} {m : Room} {i v : ℕ} {a : Answer} {s' : List ℕ} {m' : Room} → WordsSet s m (i ∷ []) (v ∷ []) a s' m' → WordSet s m i v a s' m'
unfolding word_number words_number number_to item_number listed_by worded_to values_to
one_word h = record { answer = h.answer; bytes = h.bytes; left = h.left; again = h.again }
