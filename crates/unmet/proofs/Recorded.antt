-- What a syntax says of its records by their names: of each element, of its place and its width; and of each span. Assumes nothing.
use mathlib.Core.Path.{◌≡◌, sym}
use mathlib.Core.Bool.{Bool, true, false, cond, ◌&&◌, true≢false}
use mathlib.Core.List.{List}
use Prim.Native.Nat.{ℕ, zero, suc, ◌+◌, ◌-◌}
use lib.Dec.{leb, eqb}
use Rattle.bits.specs.Bits.{bits_at}
use Rattle.reading.specs.Tree.{Part, Tree, done, refuse, ahead, here, read, span as spanned, scan, ◌>>=◌}
use Rattle.reading.specs.Run.{Entry, skim, run}
use Rattle.reading.specs.Records.{All}
use Rattle.reading.specs.Frame.{TailNames, ending, tail}
use Rattle.reading.proofs.Laws.{test, skimmed, after-skim}
use Rattle.std.specs.Prelude.{Ok, Err}
use Rattle.exponents.specs.Exponents.{Group, decode_of}
use Rattle.exponents.specs.Set.{on_group, groups_from, set_of}
use Rattle.cells.specs.Cells.{State, cell_of, stored, sum_of}
use Rattle.derivations.specs.Sets.{exponents_of}
use Rattle.derivations.specs.Derivations.{derived}
use Rattle.rows.specs.Syntax.{Item, Block, element, elements, span, mantissas, exponents, when, each, reject, reject_at, put, fill, derive, end, ◌⨾◌, holds_of, turns, one, item, meaning}
use Rattle.bounds.proofs.Bounds.{both}

-- in a tree from the place p on: P of the name, the place and the width of each element, and S of the name of each span
module _ (P : ℕ → ℕ → ℕ → Type 0) (S : ℕ → Type 0) where
  abbrev pub Reads : {A : Type 0} → Tree A → ℕ → Type 0
  Reads (done a) p = Unit {0}
  Reads (refuse n) p = Unit {0}
  Reads (ahead n w) p = Unit {0}
  Reads (here k) p = Reads (k p) p
  Reads (read q w k) p = P q.name p w × ((v : ℕ) → Reads (k v) (p + w))
  Reads (spanned q w t) p = S q.name × Reads t (p + w)
  Reads (scan q s k) p = S q.name × ((v : List ℕ) (e : ℕ) → Reads (k v) e)

  -- and of a record
  abbrev pub Holds : Entry → Type 0
  Holds e = (e.spans ≡ false → P e.field.name e.field.first e.field.width) × (e.spans ≡ true → S e.field.name)

  pub reads-run : {A : Type 0} (t : Tree A) (b : List ℕ) (p l : ℕ) → Reads t p → All Holds (run t b p l).records
  unfolding run
  reads-run (done a) b p l h = tt
  reads-run (refuse n) b p l h = tt
  reads-run (ahead n w) b p l h = tt
  reads-run (here k) b p l h = reads-run (k p) b p l h
  reads-run (read q w k) b p l h =
      test (λ o. All Holds o.records) (leb (p + w) l)
      (λ _. ((λ _. h.0, λ c. absurd (true≢false (sym c))), reads-run (k (bits_at b p w)) b (p + w) l (h.1 (bits_at b p w))))
      (λ _. tt)
  reads-run (spanned q w t) b p l h =
      test (λ o. All Holds o.records) (leb (p + w) l) (λ _. ((λ c. absurd (true≢false c), λ _. h.0), reads-run t b (p + w) l h.1)) (λ _. tt)
  reads-run (scan q s k) b p l h =
      after-skim (λ o. All Holds o.records) (skim s b p l) _ (skimmed s b p l)
      (λ v e i. ((λ c. absurd (true≢false c), λ _. h.0), reads-run (k v) b e l (h.1 v e))) (λ n e i. tt)

  pub reads-bind : {A B : Type 0} (t : Tree A) (f : A → Tree B) (p : ℕ) → Reads t p → ((a : A) (q : ℕ) → Reads (f a) q) → Reads (t >>= f) p
  unfolding ◌>>=◌
  reads-bind (done a) f p h k = k a p
  reads-bind (refuse n) f p h k = tt
  reads-bind (ahead n w) f p h k = tt
  reads-bind (here j) f p h k = reads-bind (j p) f p h k
  reads-bind (read q w j) f p h k = (h.0, λ v. reads-bind (j v) f (p + w) (h.1 v) k)
  reads-bind (spanned q w t) f p h k = (h.0, reads-bind t f (p + w) h.1 k)
  reads-bind (scan q s j) f p h k = (h.0, λ v e. reads-bind (j v) f e (h.1 v e) k)

  pub reads-if : {A : Type 0} (c : Bool) (t u : Tree A) (p : ℕ) → Reads t p → Reads u p → Reads (cond c t u) p
  reads-if true t u p h k = h
  reads-if false t u p h k = k

  -- a choice, and what follows it
  pub reads_then : {A B : Type 0} (c : Bool) (t u : Tree A) (f : A → Tree B) (p : ℕ) → Reads (t >>= f) p → Reads (u >>= f) p → Reads (cond c t u >>= f) p
  reads_then true t u f p h k = h
  reads_then false t u f p h k = k

  -- a set of exponents
  reads-groups : (q : Part) → ((p : ℕ) → P q.name p 7) → (slot size n bin prev : ℕ) (exps : List ℕ) (p : ℕ) → Reads (groups_from q slot size n bin prev exps) p
  unfolding groups_from
  reads-groups q o slot size zero bin prev exps p = tt
  reads-groups q o slot size (suc n) bin prev exps p = (o p, λ grp. go (decode_of prev grp) _ (λ a b c. reads-groups q o slot size n _ c _ (p + 7)))
    where
      go : (g : Group) (f : ℕ → ℕ → ℕ → Tree (List ℕ)) → ((a b c : ℕ) → Reads (f a b c) (p + 7)) → Reads (on_group g f) (p + 7)
      go (Err k) f h = tt
      go (Ok (a, b, c)) f h = h a b c

  reads-exponents : (q : Part) → ((p : ℕ) → P q.name p 7) → (slot : ℕ) (st : State) (p : ℕ) → Reads (exponents_of q slot st) p
  unfolding exponents_of set_of
  reads-exponents q o slot st p = reads-bind (groups_from _ _ _ _ _ _ _) _ p (reads-groups q o _ _ _ _ _ _ p) (λ b r. tt)

  reads-turns : (n i k : ℕ) (f : State → Tree State) (st : State) (p : ℕ) → ((st : State) (p : ℕ) → Reads (f st) p) → Reads (turns n i k f st) p
  unfolding turns
  reads-turns zero i k f st p h = tt
  reads-turns (suc n) i k f st p h = reads-bind (f (stored st k i)) (turns n (suc i) k f) p (h (stored st k i) p) (λ a q. reads-turns n (suc i) k f a q h)

  -- the tail
  module _ (names : TailNames) (auxbits : S names.auxbits) (auxdatal : (p : ℕ) → P names.auxdatal p 14) (auxdatae : (p : ℕ) → P names.auxdatae p 1)
      (reserved : (p : ℕ) → P names.reserved p 1) (crc2 : (p : ℕ) → P names.crc2 p 16) where
    reads-ending : {A : Type 0} (a : A) (p : ℕ) → Reads (ending names a) p
    unfolding ending
    reads-ending a p = (auxdatae p, λ _. (reserved (p + 1), λ _. (crc2 (p + 1 + 1), λ _. tt)))

    pub reads-tail : {A : Type 0} (v l : ℕ) (a : A) (p : ℕ) → Reads (tail names v l a) p
    unfolding tail
    reads-tail v l a p =
        reads-if (leb (p + 18) l) _ _ p
        (reads-if (eqb v 1) _ _ p
        (reads-if (leb (p + 32) l) _ _ p
        (auxbits, (auxdatal _, λ n. reads-if (leb n (l - 32 - p)) _ _ _ (reads-ending a _) tt))
        tt)
        (auxbits, reads-ending a _))
        tt

-- a test of the names and widths of elements, and one of the names of spans
module _ (T : ℕ → ℕ → Bool) (U : ℕ → Bool) where
  unfoldable mutual
    pub passes_in : Item → Bool
    passes_in (element name i w a) = T name w
    passes_in (elements name i w a k f n) = T name w
    passes_in (span name k) = U name
    passes_in (mantissas name a) = U name
    passes_in (exponents s name i) = T name 7
    passes_in (when c b) = passes b
    passes_in (each k i n b) = passes b
    passes_in (reject c n) = true
    passes_in (reject_at c n k) = true
    passes_in (put a v) = true
    passes_in (fill k n x y a) = true
    passes_in (derive k) = true

    pub passes : Block → Bool
    passes end = true
    passes (i ⨾ b) = passes_in i && passes b

  module _ (P : ℕ → ℕ → ℕ → Type 0) (S : ℕ → Type 0) (t : (n w : ℕ) → T n w ≡ true → (p : ℕ) → P n p w) (u : (n : ℕ) → U n ≡ true → S n) where
    mutual
      unfolding item passes

      pub reads-item : (i : Item) → passes_in i ≡ true → (st : State) (p : ℕ) → Reads P S (item i st) p
      reads-item (element name i w a) h st p = (t name w h p, λ v. tt)
      reads-item (elements name i w a k f n) h st p = reads-turns P S _ f k (one name i w a) st p (λ y q. (t name w h q, λ v. tt))
      reads-item (span name k) h st p = (u name h, tt)
      reads-item (mantissas name a) h st p = (u name h, λ v e. tt)
      reads-item (exponents s name i) h st p = reads-exponents P S _ (t name 7 h) _ st p
      reads-item (when c b) h st p = reads-if P S (holds_of c st.cells) (meaning b st) (done st) p (reads-block b h st p) tt
      reads-item (each k i n b) h st p = reads-turns P S _ (sum_of i st.cells) k (λ y. meaning b y) st p (λ y q. reads-block b h y q)
      reads-item (reject c n) h st p = reads-if P S (holds_of c st.cells) (refuse n) (done st) p tt tt
      reads-item (reject_at c n k) h st p = reads-if P S (holds_of c st.cells) (ahead n (cell_of st.cells k - p)) (done st) p tt tt
      reads-item (put a v) h st p = tt
      reads-item (fill k n x y a) h st p = tt
      reads-item (derive k) h st p = reads-if P S (eqb (derived k st).number 0) (done (derived k st).st) (refuse (derived k st).number) p tt tt

      pub reads-block : (b : Block) → passes b ≡ true → (st : State) (p : ℕ) → Reads P S (meaning b st) p
      reads-block end h st p = tt
      reads-block (i ⨾ b) h st p =
          let g = both (passes_in i) (passes b) h in
          reads-bind P S (item i st) (λ y. meaning b y) p (reads-item i g.0 st p) (λ y q. reads-block b g.1 y q)
