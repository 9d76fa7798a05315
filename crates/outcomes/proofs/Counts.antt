-- A run makes at most as many records as it passes bits, and as its syntax can make without bits. Assumes nothing.
use mathlib.Core.Path.{◌≡◌, refl}
use mathlib.Core.Bool.{Bool, true, false, cond}
use mathlib.Core.List.{List, []}
use Prim.Native.Nat.{ℕ, zero, suc, ◌+◌, ◌-◌, ◌*◌, min, max, ◌≤◌}
use native.Mathlib.Omega.{arith}
use native.Mathlib.Nat.{mul-le-mul_right}
use lib.Dec.{leb, eqb, leb→le}
use lib.ListN.{length, length-append}
use borrow.Author.Tests.{eqb-true}
use Rattle.bits.specs.Bits.{bits_at}
use Rattle.reading.specs.Tree.{Part, Skim, Tree, done, refuse, ahead, here, read, span as spanned, scan, ◌>>=◌}
use Rattle.reading.specs.Run.{Entry, region, Result, accepted, refused, Outcome, out, cons, and_then, after, skim, run}
use Rattle.reading.proofs.Laws.{test, choice, skimmed}
use Rattle.reading.proofs.Runs.{run_bind}
use Rattle.slots.specs.Held.{bins}
use Rattle.std.specs.Prelude.{Ok, Err}
use Rattle.refusals.specs.Refusals.{number_of}
use Rattle.exponents.specs.Exponents.{Group, decode_of}
use Rattle.exponents.specs.Set.{on_group, groups_from, set_of}
use Rattle.cells.specs.Cells.{State, state, Addr, Sum, cell_of, stored, place_of, held_of, sum_of}
use Rattle.derivations.specs.Derivations.{derived}
use Rattle.derivations.specs.Sets.{exponents_of}
use Rattle.rows.specs.Syntax.{Count, Fixed, Held, Item, Block, element, elements, span, mantissas, exponents, when, each, reject, reject_at, put, fill, derive, end, ◌⨾◌, holds_of, count_of, turns, one, item, meaning}
use Rattle.bounds.specs.Along.{Turning, Inside, Along}
use Rattle.bounds.specs.Bounds.{most, Within, Bounded}
use Rattle.bounds.proofs.Bounds.{most-word}
use Rattle.bounds.proofs.Cells.{cell-zero}
use Rattle.bounds.proofs.Reaches.{skim-reaches, Reaches, run-reaches}

-- the most that a cell holds, where no counter picks it
abbrev pub most_at : Addr → ℕ
most_at a = cond (eqb (a.by + a.row) 0) (most a.base) 65535

-- as often as a loop can turn
abbrev pub times_of : Count → ℕ → ℕ
times_of (Fixed n) z = n * z
times_of (Held a) z = most_at a * z

-- an element without bits, a span or the mantissas may each have width 0
unfoldable mutual
  pub zeros_in : Item → ℕ
  zeros_in (element name i w a) = 1 - w
  zeros_in (elements name i w a k f n) = most n * (1 - w)
  zeros_in (span name k) = 1
  zeros_in (mantissas name a) = 1
  zeros_in (exponents s name i) = 0
  zeros_in (when c b) = zeros b
  zeros_in (each k i n b) = times_of n (zeros b)
  zeros_in (reject c n) = 0
  zeros_in (reject_at c n k) = 0
  zeros_in (put a v) = 0
  zeros_in (fill k n x y a) = 0
  zeros_in (derive k) = 0

  pub zeros : Block → ℕ
  zeros end = 0
  zeros (i ⨾ b) = zeros_in i + zeros b

-- the records of an outcome from the bit p on, in a frame that ends at l, are at most as many as the bits that it passes, and z more
pub record Few {A : Type 0} (l p z : ℕ) (o : Outcome A) : Type 0 where
  pub few : length o.records + p ≤ min o.place (max p l) + z

pub few-more : {A : Type 0} {l p z : ℕ} {o : Outcome A} (y : ℕ) → z ≤ y → Few l p z o → Few l p y o
few-more y h f = record { few = omega (arith, f.few) }

pub few-none : {A : Type 0} (r : Result A) (l p q z : ℕ) → p ≤ q → Few l p z (out r q [])
few-none r l p q z h = record { few = omega arith }

few-cons : {A : Type 0} {o : Outcome A} (l p w z : ℕ) (e : Entry) → p + w ≤ l → Few l (p + w) z o → Few l p (1 - w + z) (cons e o)
few-cons l p w z e h f = record { few = omega (arith, f.few) }

-- what follows an outcome
pub few-after : {A B : Type 0} {l p z y : ℕ} (o : Outcome A) (f : A → ℕ → Outcome B) → Reaches (max p l) o → Few l p z o
    → ((a : A) → o.result ≡ accepted a → Few l o.place y (f a o.place)) → Few l p (z + y) (after o f)
unfolding after
few-after {A} {B} {l} {p} {z} {y} o f r h k = go o.result refl
  where
    go : (x : Result A) → o.result ≡ x → Few l p (z + y) (and_then x o.place o.records f)
    go (accepted a) e =
        let n = (k a e).few in
        let m = r.reaches a e in
        record { few = rw (length-append o.records (f a o.place).records) (omega (arith, h.few)) }
    go (refused n) e = record { few = omega (arith, h.few) }

-- and a tree, of a tree
module _ (b : List ℕ) (l : ℕ) where
  pub few-bind : {A B : Type 0} {p z y : ℕ} (t : Tree A) (f : A → Tree B) → Few l p z (run t b p l)
      → ((a : A) → (run t b p l).result ≡ accepted a → Few l (run t b p l).place y (run (f a) b (run t b p l).place l)) → Few l p (z + y) (run (t >>= f) b p l)
  few-bind {p} t f h k = rw (run_bind t f b p l) (few-after (run t b p l) (λ a q. run (f a) b q l) (run-reaches t b p l) h k)

  pub few-read : {A : Type 0} (q : Part) (w : ℕ) (k : ℕ → Tree A) (p z : ℕ) → ((v : ℕ) → Few l (p + w) z (run (k v) b (p + w) l)) → Few l p (1 - w + z) (run (read q w k) b p l)
  unfolding run
  few-read q w k p z h = test (Few l p (1 - w + z)) (leb (p + w) l) (λ c. few-cons l p w z _ (leb→le (p + w) l c) (h (bits_at b p w))) (λ _. few-none (refused 8) l p p _ (omega arith))

  pub few-span : {A : Type 0} (q : Part) (w : ℕ) (t : Tree A) (p z : ℕ) → Few l (p + w) z (run t b (p + w) l) → Few l p (1 + z) (run (spanned q w t) b p l)
  unfolding run
  few-span q w t p z h =
      test (Few l p (1 + z)) (leb (p + w) l) (λ c. few-more (1 + z) (omega arith) (few-cons l p w z _ (leb→le (p + w) l c) h)) (λ _. few-none (refused 8) l p p _ (omega arith))

  few-scan : {A : Type 0} (q : Part) (s : Skim (List ℕ)) (k : List ℕ → Tree A) (p z : ℕ) → ((v : List ℕ) (e : ℕ) → Few l e z (run (k v) b e l))
      → Few l p (1 + z) (run (scan q s k) b p l)
  unfolding run after
  few-scan {A} q s k p z h = go O.result
    where
      O : Outcome (List ℕ)
      O = skim s b p l

      go : (r : Result (List ℕ)) → Few l p (1 + z) (and_then r O.place O.records (λ v e. cons (region q p (e - p)) (run (k v) b e l)))
      go (accepted v) =
          let i = skimmed s b p l in
          let r = skim-reaches s b p l in
          let n = (h v O.place).few in
          record { few = rw i.bare (omega (arith, i.ahead)) }
      go (refused n) = let i = skimmed s b p l in record { few = rw i.bare (omega (arith, i.ahead)) }

  pub few-done : {A : Type 0} (a : A) (p z : ℕ) → Few l p z (run (done a) b p l)
  unfolding run
  few-done a p z = few-none (accepted a) l p p z (omega arith)

  pub few-refuse : {A : Type 0} (n p z : ℕ) → Few {A = A} l p z (run (refuse n) b p l)
  unfolding run
  few-refuse n p z = few-none (refused n) l p p z (omega arith)

  pub few-ahead : {A : Type 0} (n w p z : ℕ) → Few {A = A} l p z (run (ahead n w) b p l)
  unfolding run
  few-ahead n w p z = few-none (refused n) l p (p + w) z (omega arith)

  pub few-here : {A : Type 0} (k : ℕ → Tree A) (p z : ℕ) → Few l p z (run (k p) b p l) → Few l p z (run (here k) b p l)
  unfolding run
  few-here k p z h = h

  few-one : (name : ℕ) (i : Sum) (w : ℕ) (a : Addr) (st : State) (p : ℕ) → Few l p (1 - w) (run (one name i w a st) b p l)
  few-one name i w a st p = few-more (1 - w) (omega arith) (few-read _ w _ p 0 (λ v. few-done _ (p + w) 0))

  -- the groups of a set of exponents have 7 bits each
  few-groups : (q : Part) (slot size n bin prev : ℕ) (exps : List ℕ) (p : ℕ) → Few l p 0 (run (groups_from q slot size n bin prev exps) b p l)
  unfolding groups_from
  few-groups q slot size zero bin prev exps p = few-done exps p 0
  few-groups q slot size (suc n) bin prev exps p =
      few-read q 7 _ p 0 (λ grp. go (decode_of prev grp) _ (λ x y c. few-groups q slot size n _ c _ (p + 7)))
    where
      go : (g : Group) (f : ℕ → ℕ → ℕ → Tree (List ℕ)) → ((x y c : ℕ) → Few l (p + 7) 0 (run (f x y c) b (p + 7) l)) → Few l (p + 7) 0 (run (on_group g f) b (p + 7) l)
      go (Err k) f h = few-refuse (number_of k) (p + 7) 0
      go (Ok (x, y, c)) f h = h x y c

  few-exponents : (q : Part) (slot : ℕ) (st : State) (p : ℕ) → Few l p 0 (run (exponents_of q slot st) b p l)
  unfolding exponents_of set_of
  few-exponents q slot st p = few-bind {y = 0} (groups_from _ _ _ _ _ _ _) _ (few-groups _ _ _ _ _ _ _ p) (λ x _. few-done (state st.cells (bins x st.bins.baps)) _ 0)

  -- a tree so many times
  few-turns : (A : State → ℕ → List Entry → Type 0) (f : State → Tree State) (z : ℕ) → ((st : State) (p : ℕ) (es : List Entry) → A st p es → Few l p z (run (f st) b p l))
      → (n i k : ℕ) (st : State) (p : ℕ) (es : List Entry) → Turning b l A f n i k st p es → Few l p (n * z) (run (turns n i k f st) b p l)
  unfolding turns Turning
  few-turns A f z h zero i k st p es t = few-done st p (0 * z)
  few-turns A f z h (suc n) i k st p es t =
      few-more (suc n * z) (omega arith)
      (few-bind {y = n * z} (f (stored st k i)) (turns n (suc i) k f) (h (stored st k i) p es t.0) (λ a e. few-turns A f z h n (suc i) k a _ _ (t.1 a e)))

  no-turning : (f : State → Tree State) (n i k : ℕ) (st : State) (p : ℕ) (es : List Entry) → Turning b l (λ _ _ _. Unit {0}) f n i k st p es
  unfolding Turning
  no-turning f zero i k st p es = tt
  no-turning f (suc n) i k st p es = (tt, λ a e. no-turning f n (suc i) k a _ _)

-- a cell that no counter picks
held-most : (a : Addr) (m : List ℕ) → Within m → held_of a m ≤ most_at a
held-most a m w = go (eqb (a.by + a.row) 0) refl
  where
    base : a.by ≡ 0 → a.row ≡ 0 → place_of a m ≡ a.base
    base e f = rw (e, f) (let z = cell-zero m in omega arith)

    go : (c : Bool) → eqb (a.by + a.row) 0 ≡ c → held_of a m ≤ cond c (most a.base) 65535
    go true e =
        let z : a.by + a.row ≡ 0 = eqb-true (a.by + a.row) 0 e in
        rw (base (omega arith) (omega arith)) (w.below a.base)
    go false e = omega (arith, w.below (place_of a m), most-word (place_of a m))

pub times : (n : Count) (m : List ℕ) (i z : ℕ) → Within m → (count_of n m - i) * z ≤ times_of n z
times (Fixed x) m i z w = let y : (x - i) * z ≤ x * z = mul-le-mul_right z (omega arith) in omega arith
times (Held a) m i z w = let h = held-most a m w in let y : (held_of a m - i) * z ≤ most_at a * z = mul-le-mul_right z (omega arith) in omega arith

-- the items of a syntax, wherever its reading is within the bounds
module _ (b : List ℕ) (l : ℕ) where
  few-if : (c : Bool) (x : Block) (st : State) (p z : ℕ) → (c ≡ true → Few l p z (run (meaning x st) b p l)) → Few l p z (run (cond c (meaning x st) (done st)) b p l)
  few-if true x st p z h = h refl
  few-if false x st p z h = few-done b l st p z

  mutual
    unfolding item zeros Along

    few-item : (i : Item) (st : State) (p : ℕ) (es : List Entry) → Within st.cells → Inside b l Bounded i st p es → Few l p (zeros_in i) (run (item i st) b p l)
    few-item (element name i w a) st p es h k = few-one b l name i w a st p
    few-item (elements name i w a c f n) st p es h k =
        few-more (most n * (1 - w)) (mul-le-mul_right (1 - w) (let d = h.below n in let y : cell_of st.cells n - f ≤ most n = omega arith in y))
        (few-turns b l (λ _ _ _. Unit {0}) (one name i w a) (1 - w) (λ x q fs _. few-one b l name i w a x q) (cell_of st.cells n - f) f c st p es
        (no-turning b l (one name i w a) (cell_of st.cells n - f) f c st p es))
    few-item (span name c) st p es h k = few-more (zeros_in (span name c)) (omega arith) (few-span b l _ _ _ p 0 (few-done b l st _ 0))
    few-item (mantissas name a) st p es h k = few-scan b l _ _ _ p 0 (λ v e. few-done b l _ e 0)
    few-item (exponents s name i) st p es h k = few-exponents b l _ _ st p
    few-item (when c x) st p es h k = few-if (holds_of c st.cells) x st p (zeros x) (λ e. few-block x st p es (k e))
    few-item (each c i n x) st p es h k =
        few-more (times_of n (zeros x)) (times n st.cells (sum_of i st.cells) (zeros x) h)
        (few-turns b l (λ a q fs. Along b l Bounded x a q fs) (λ a. meaning x a) (zeros x) (λ a q fs t. few-block x a q fs t)
        (count_of n st.cells - sum_of i st.cells) (sum_of i st.cells) c st p es k)
    few-item (reject c n) st p es h k = choice (λ t. Few l p 0 (run t b p l)) (holds_of c st.cells) (λ _. few-refuse b l n p 0) (λ _. few-done b l st p 0)
    few-item (reject_at c n j) st p es h k =
        few-here b l _ p 0 (choice (λ t. Few l p 0 (run t b p l)) (holds_of c st.cells) (λ _. few-ahead b l n (cell_of st.cells j - p) p 0) (λ _. few-done b l st p 0))
    few-item (put a v) st p es h k = few-here b l _ p 0 (few-done b l _ p 0)
    few-item (fill j n x y a) st p es h k = few-done b l _ p 0
    few-item (derive j) st p es h k =
        choice (λ t. Few l p 0 (run t b p l)) (eqb (derived j st).number 0) (λ _. few-done b l _ p 0) (λ _. few-refuse b l _ p 0)

    pub few-block : (x : Block) (st : State) (p : ℕ) (es : List Entry) → Along b l Bounded x st p es → Few l p (zeros x) (run (meaning x st) b p l)
    few-block end st p es k = few-done b l st p 0
    few-block (i ⨾ x) st p es k =
        few-bind b l (item i st) (λ y. meaning x y) (few-item i st p es k.0 k.1) (λ y e. few-block x y _ _ (k.2 y e))
