-- A frame holds at most 16 loudness words: the pages say how many an item can make, and how often a loop turns at most. Assumes nothing.
use mathlib.Core.Path.{◌≡◌, refl}
use mathlib.Core.Bool.{Bool, true, false, cond, ◌&&◌}
use mathlib.Core.List.{List, [], ◌∷◌, ◌++◌}
use Prim.Native.Nat.{ℕ, zero, suc, ◌+◌, ◌-◌, ◌*◌, ◌≤◌}
use native.Mathlib.Omega.{arith}
use lib.Dec.{leb, eqb}
use lib.ListN.{length}
use borrow.Author.Tests.{eqb-true}
use Rattle.bits.specs.Bits.{bits_at}
use Rattle.reading.specs.Tree.{Tree, done, refuse, ◌>>=◌}
use Rattle.reading.specs.Run.{Entry, Result, accepted, refused, Outcome, out, and_then, after, run}
use Rattle.reading.specs.Records.{All}
use Rattle.reading.specs.Frame.{header_by, seen, headed, auxdatae_at, tail, finish, framed, sized, parse}
use Rattle.reading.proofs.Laws.{test}
use Rattle.reading.proofs.Runs.{run_bind}
use Rattle.cells.specs.Cells.{State, Addr, Sum, stored, sum_of}
use Rattle.rows.specs.Syntax.{Item, Block, element, elements, span, mantissas, exponents, when, each, reject, reject_at, put, fill, derive, end, ◌⨾◌, holds_of, count_of, turns, one, item, meaning}
use Rattle.words.specs.Words.{width_of}
use Rattle.annex.specs.Syncinfo.{syncinfo, bsi_size}
use Rattle.annex.specs.Annex.{body}
use Rattle.annex.specs.Frame.{start, tail_names, bytes_of, bsid_ahead, eac3}
use Rattle.bounds.specs.Along.{Turning, Inside, Along}
use Rattle.bounds.specs.Bounds.{bounds, most_in, most, Within, Bounded}
use Rattle.bounds.proofs.Bounds.{both}
use Rattle.bounds.proofs.Bounded.{pages, body-bounded}
use Rattle.outcomes.proofs.Counts.{times_of, times}
use Rattle.unmet.proofs.Recorded.{Reads, Holds, reads-run, reads-bind, reads-if, reads-tail, passes_in, passes, reads-item, reads-block}
use Rattle.loudness.specs.Sixteen.{words_in, SixteenWords}

-- a name that is no word's, of an element and of a span
abbrev no_word : ℕ → Bool
no_word n = eqb (width_of n) 0

abbrev Other : ℕ → ℕ → ℕ → Type 0
Other n p w = width_of n ≡ 0

abbrev OtherSpan : ℕ → Type 0
OtherSpan n = width_of n ≡ 0

-- how many words an item makes at most; only one element by itself may be a word
unfoldable mutual
  words_of : Item → ℕ
  words_of (element name i w a) = cond (no_word name) 0 1
  words_of (elements name i w a k f n) = 0
  words_of (span name k) = 0
  words_of (mantissas name a) = 0
  words_of (exponents s name i) = 0
  words_of (when c b) = words_by b
  words_of (each k i n b) = times_of n (words_by b)
  words_of (reject c n) = 0
  words_of (reject_at c n k) = 0
  words_of (put a v) = 0
  words_of (fill k n x y a) = 0
  words_of (derive k) = 0

  words_by : Block → ℕ
  words_by end = 0
  words_by (i ⨾ b) = words_of i + words_by b

unfoldable mutual
  alone : Item → Bool
  alone (element name i w a) = true
  alone (elements name i w a k f n) = no_word name
  alone (span name k) = no_word name
  alone (mantissas name a) = no_word name
  alone (exponents s name i) = no_word name
  alone (when c b) = all_alone b
  alone (each k i n b) = all_alone b
  alone (reject c n) = true
  alone (reject_at c n k) = true
  alone (put a v) = true
  alone (fill k n x y a) = true
  alone (derive k) = true

  all_alone : Block → Bool
  all_alone end = true
  all_alone (i ⨾ b) = alone i && all_alone b

record Words {A : Type 0} (z : ℕ) (o : Outcome A) : Type 0 where
  few : words_in o.records ≤ z

words-none : {A : Type 0} (r : Result A) (q z : ℕ) → Words z (out r q [])
words-none r q z = record { few = omega arith }

words_more : {A : Type 0} {z : ℕ} {o : Outcome A} (y : ℕ) → z ≤ y → Words z o → Words y o
words_more y h f = record { few = omega (arith, f.few) }

words_append : (es fs : List Entry) → words_in (es ++ fs) ≡ words_in es + words_in fs
words_append [] fs = omega arith
words_append (e ∷ es) fs = let h = words_append es fs in omega arith

words-after : {A B : Type 0} {z y : ℕ} (o : Outcome A) (f : A → ℕ → Outcome B) → Words z o → ((a : A) → o.result ≡ accepted a → Words y (f a o.place)) → Words (z + y) (after o f)
unfolding after
words-after {A} {B} {z} {y} o f h k = go o.result refl
  where
    go : (r : Result A) → o.result ≡ r → Words (z + y) (and_then r o.place o.records f)
    go (accepted a) e = record { few = rw (words_append o.records (f a o.place).records) (omega (arith, h.few, (k a e).few)) }
    go (refused n) e = record { few = omega (arith, h.few) }

-- records of other names
words-other : {A : Type 0} (o : Outcome A) → All (Holds Other OtherSpan) o.records → Words 0 o
words-other o h = record { few = go o.records h }
  where
    name : (e : Entry) → Holds Other OtherSpan e → (c : Bool) → e.spans ≡ c → width_of e.field.name ≡ 0
    name e h true q = h.1 q
    name e h false q = h.0 q

    go : (es : List Entry) → All (Holds Other OtherSpan) es → words_in es ≤ 0
    go [] h = omega arith
    go (e ∷ es) h = rw (name e h.0 e.spans refl) (omega (arith, go es h.1))

module _ (b : List ℕ) (l : ℕ) where
  words-bind : {A B : Type 0} {z y : ℕ} (p : ℕ) (t : Tree A) (f : A → Tree B) → Words z (run t b p l)
      → ((a : A) → (run t b p l).result ≡ accepted a → Words y (run (f a) b (run t b p l).place l)) → Words (z + y) (run (t >>= f) b p l)
  words-bind p t f h k = rw (run_bind t f b p l) (words-after (run t b p l) (λ a q. run (f a) b q l) h k)

  words-done : {A : Type 0} (a : A) (p z : ℕ) → Words z (run (done a) b p l)
  unfolding run
  words-done a p z = words-none (accepted a) p z

  words-refuse : {A : Type 0} (n p z : ℕ) → Words {A = A} z (run (refuse n) b p l)
  unfolding run
  words-refuse n p z = words-none (refused n) p z

  words-one : (name : ℕ) (i : Sum) (w : ℕ) (a : Addr) (st : State) (p : ℕ) → Words (cond (no_word name) 0 1) (run (one name i w a st) b p l)
  unfolding run
  words-one name i w a st p = test (Words (cond (no_word name) 0 1)) (leb (p + w) l) (λ _. record { few = omega arith }) (λ _. words-none (refused 8) p _)

  words-turns : (A : State → ℕ → List Entry → Type 0) (f : State → Tree State) (z : ℕ) → ((st : State) (p : ℕ) (es : List Entry) → A st p es → Words z (run (f st) b p l))
      → (n i k : ℕ) (st : State) (p : ℕ) (es : List Entry) → Turning b l A f n i k st p es → Words (n * z) (run (turns n i k f st) b p l)
  unfolding turns Turning
  words-turns A f z h zero i k st p es t = words-done st p (0 * z)
  words-turns A f z h (suc n) i k st p es t =
      words_more (suc n * z) (omega arith)
      (words-bind {y = n * z} p (f (stored st k i)) (turns n (suc i) k f) (h (stored st k i) p es t.0) (λ a e. words-turns A f z h n (suc i) k a _ _ (t.1 a e)))

  -- an item of other names
  words-others : (i : Item) → passes_in (λ n w. no_word n) no_word i ≡ true → (st : State) (p : ℕ) → Words 0 (run (item i st) b p l)
  words-others i h st p =
      words-other (run (item i st) b p l)
      (reads-run Other OtherSpan (item i st) b p l (reads-item (λ n w. no_word n) no_word Other OtherSpan (λ n w h p. eqb-true (width_of n) 0 h) (λ n h. eqb-true (width_of n) 0 h) i h st p))

  words-if : (c : Bool) (x : Block) (st : State) (p z : ℕ) → (c ≡ true → Words z (run (meaning x st) b p l)) → Words z (run (cond c (meaning x st) (done st)) b p l)
  words-if true x st p z h = h refl
  words-if false x st p z h = words-done st p z

  mutual
    unfolding item words_by all_alone Along passes

    words-item : (i : Item) → alone i ≡ true → (st : State) (p : ℕ) (es : List Entry) → Within st.cells → Inside b l Bounded i st p es → Words (words_of i) (run (item i st) b p l)
    words-item (element name i w a) e st p es h k = words-one name i w a st p
    words-item (elements name i w a c f n) e st p es h k = words-others (elements name i w a c f n) e st p
    words-item (span name c) e st p es h k = words-others (span name c) e st p
    words-item (mantissas name a) e st p es h k = words-others (mantissas name a) e st p
    words-item (exponents s name i) e st p es h k = words-others (exponents s name i) e st p
    words-item (when c x) e st p es h k = words-if (holds_of c st.cells) x st p (words_by x) (λ q. words-block x e st p es (k q))
    words-item (each c i n x) e st p es h k =
        words_more (times_of n (words_by x)) (times n st.cells (sum_of i st.cells) (words_by x) h)
        (words-turns (λ a q fs. Along b l Bounded x a q fs) (λ a. meaning x a) (words_by x) (λ a q fs t. words-block x e a q fs t)
        (count_of n st.cells - sum_of i st.cells) (sum_of i st.cells) c st p es k)
    words-item (reject c n) e st p es h k = words-others (reject c n) e st p
    words-item (reject_at c n j) e st p es h k = words-others (reject_at c n j) e st p
    words-item (put a v) e st p es h k = words-others (put a v) e st p
    words-item (fill j n x y a) e st p es h k = words-others (fill j n x y a) e st p
    words-item (derive j) e st p es h k = words-others (derive j) e st p

    words-block : (x : Block) → all_alone x ≡ true → (st : State) (p : ℕ) (es : List Entry) → Along b l Bounded x st p es → Words (words_by x) (run (meaning x st) b p l)
    words-block end e st p es k = words-done st p 0
    words-block (i ⨾ x) e st p es k =
        let t = both (alone i) (all_alone x) e in
        words-bind p (item i st) (λ y. meaning x y) (words-item i t.0 st p es k.0 k.1) (λ y q. words-block x t.1 y _ _ (k.2 y q))

-- the pages: 16 in the body
body-alone : all_alone body ≡ true
unfolding all_alone pages width_of
body-alone = refl

body-words : words_by body ≡ 16
unfolding words_by most most_in bounds pages width_of
body-words = refl

opening-others : passes (λ n w. no_word n) no_word syncinfo ≡ true
unfolding passes syncinfo width_of
opening-others = refl

rest-others : passes (λ n w. no_word n) no_word bsi_size ≡ true
unfolding passes bsi_size width_of
rest-others = refl

reads-others : (x : Block) → passes (λ n w. no_word n) no_word x ≡ true → (st : State) (p : ℕ) → Reads Other OtherSpan (meaning x st) p
reads-others x h st p = reads-block (λ n w. no_word n) no_word Other OtherSpan (λ n w h p. eqb-true (width_of n) 0 h) (λ n h. eqb-true (width_of n) 0 h) x h st p

module _ (s : List ℕ) where
  header-words : Words 0 (headed eac3 s)
  unfolding header_by eac3
  header-words =
      words-other (headed eac3 s)
      (reads-run Other OtherSpan (header_by eac3 (seen eac3 s)) s 0 48
      (reads-bind Other OtherSpan (meaning syncinfo start) _ 0 (reads-others syncinfo opening-others start 0)
      (λ h q. reads-if Other OtherSpan (bsid_ahead.good (seen eac3 s)) _ _ q (reads-others bsi_size rest-others h q) tt)))

  tail-words : (l : ℕ) (a : State) (p : ℕ) → Words 0 (finish tail_names s l a p)
  unfolding finish width_of
  tail-words l a p =
      words-other (run (tail tail_names (bits_at s (auxdatae_at l) 1) l a) s p l)
      (reads-run Other OtherSpan (tail tail_names (bits_at s (auxdatae_at l) 1) l a) s p l
      (reads-tail Other OtherSpan tail_names refl (λ _. refl) (λ _. refl) (λ _. refl) (λ _. refl) (bits_at s (auxdatae_at l) 1) l a p))

  sized-words : (h : State) → (headed eac3 s).result ≡ accepted h → Words 16 (sized eac3 s h (headed eac3 s).place)
  unfolding sized framed eac3
  sized-words h e =
      let p = (headed eac3 s).place in
      let l = 8 * bytes_of h in
      test (Words 16) (leb (bytes_of h) (length s))
      (λ _. words-after {z = 16} {y = 0} (run (meaning body h) s p l) (finish tail_names s l)
      (rw body-words at (words-block s l body body-alone h p (headed eac3 s).records (body-bounded s h e)))
      (λ a _. tail-words l a _))
      (λ _. words-none (refused 4) p 16)

pub sixteen-words : SixteenWords
unfolding parse eac3
sixteen-words s =
    test (λ o. words_in o.records ≤ 16) (leb 6 (length s))
    (λ _. (words-after {z = 0} {y = 16} (headed eac3 s) (sized eac3 s) (header-words s) (λ h e. sized-words s h e)).few)
    (λ _. omega arith)
