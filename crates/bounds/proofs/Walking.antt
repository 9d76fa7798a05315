-- A reading item by item: what holds along it, and what holds where it is accepted. Assumes nothing.
use mathlib.Core.Path.{◌≡◌, refl, ap, sym, ◌∙◌, subst}
use mathlib.Core.Bool.{Bool, true, false, cond}
use mathlib.Core.List.{List, [], ◌∷◌, ◌++◌, append_assoc, append-nil}
use mathlib.Core.Logic.{inl, inr}
use Prim.Native.Nat.{ℕ, zero, suc, ◌+◌, ◌-◌, ◌*◌, ◌^◌, max, ◌≤◌, ◌<◌}
use native.Mathlib.Omega.{arith}
use lib.Dec.{leb, eqb}
use lib.ListN.{length, get_or, drop}
use Rattle.bits.specs.Bits.{bits_at}
use Rattle.bits.proofs.BitLaws.{bits_at-lt}
use Rattle.reading.specs.Tree.{Part, Tree, done, refuse, ahead, ◌>>=◌}
use Rattle.reading.specs.Run.{Entry, region, Result, accepted, refused, Outcome, out, cons, and_then, after, skim, run}
use Rattle.reading.proofs.Runs.{run_bind}
use Rattle.slots.specs.Held.{bins}
use Rattle.exponents.specs.Set.{set_of}
use Rattle.cells.specs.Cells.{State, state, Addr, Sum, cell_of, stored, stored_all, place_of, held_of, sum_of, part_of}
use Rattle.derivations.specs.Derivations.{derived}
use Rattle.derivations.specs.Sets.{exponents_of}
use Rattle.derivations.specs.Mantissas.{mantissas_in}
use Rattle.rows.specs.Syntax.{Cond, Count, Value, Item, Block, element, elements, span, mantissas, exponents, when, each, reject, reject_at, put, fill, derive, end, ◌⨾◌, ◌⧺◌, none, holds_of, count_of, amount_of, turns, filled, one, item, meaning}
use Rattle.bounds.specs.Bounds.{tags_most}
use Rattle.bounds.proofs.Reaches.{skim-reaches}
use Rattle.bounds.proofs.Spent.{total, bits-add-up}
use Rattle.bounds.proofs.Tags.{eight-told, tags-most}
use Rattle.bounds.specs.Along.{Among, Point, Has, Then, Turning, Inside, Along}

-- the records so far only grow
pub record Grows (es fs : List Entry) : Type 0 where
  pub has : (n : ℕ) → Has n es → Has n fs
  pub keeps : (e : Entry) → Among e es → Among e fs

pub grows-refl : (es : List Entry) → Grows es es
grows-refl es = record { has = λ n h. h; keeps = λ e h. h }

pub grows-trans : (es fs gs : List Entry) → Grows es fs → Grows fs gs → Grows es gs
grows-trans es fs gs f g = record { has = λ n h. g.has n (f.has n h); keeps = λ e h. g.keeps e (f.keeps e h) }

has_left : (n : ℕ) (es fs : List Entry) → Has n es → Has n (es ++ fs)
has_left n [] fs x = elim x [ ]
has_left n (e ∷ es) fs (inl h) = inl h
has_left n (e ∷ es) fs (inr h) = inr (has_left n es fs h)

has_last : (es : List Entry) (e : Entry) (fs : List Entry) → Has e.field.name (es ++ (e ∷ fs))
has_last [] e fs = inl refl
has_last (x ∷ es) e fs = inr (has_last es e fs)

member-left : (e : Entry) (es fs : List Entry) → Among e es → Among e (es ++ fs)
member-left e [] fs x = elim x [ ]
member-left e (x ∷ es) fs (inl h) = inl h
member-left e (x ∷ es) fs (inr h) = inr (member-left e es fs h)

member-last : (e : Entry) (es fs : List Entry) → Among e (es ++ (fs ++ (e ∷ [])))
member-last e [] [] = inl refl
member-last e [] (x ∷ fs) = inr (member-last e [] fs)
member-last e (x ∷ es) fs = inr (member-last e es fs)

pub grows-append : (es fs : List Entry) → Grows es (es ++ fs)
grows-append es fs = record { has = λ n h. has_left n es fs h; keeps = λ e h. member-left e es fs h }

module _ (s : List ℕ) (l : ℕ) where
  -- what follows a tree that is accepted
  then-bind : (t : Tree State) (f : State → Tree State) (p : ℕ) (es : List Entry) (R : Point)
      → Then s l t p es (λ a q fs. Then s l (f a) q fs R) → Then s l (t >>= f) p es R
  unfolding after
  then-bind t f p es R h = rw (run_bind t f s p l) (go O.result refl)
    where
      O : Outcome State
      O = run t s p l

      F : State → ℕ → Outcome State
      F a q = run (f a) s q l

      go : (r : Result State) → O.result ≡ r → (a : State) → (and_then r O.place O.records F).result ≡ accepted a
          → R a (and_then r O.place O.records F).place (es ++ (and_then r O.place O.records F).records)
      go (accepted c) e a k = subst (R a (F c O.place).place) (append_assoc es O.records (F c O.place).records) (h c e a k)
      go (refused n) e a k = absurd (let z : ◌≡◌ {A = ℕ} 0 1 = cc in omega arith)

  then-done : (st : State) (p : ℕ) (es : List Entry) (R : Point) → R st p es → Then s l (done st) p es R
  unfolding run
  then-done st p es R h a e =
      let z : st ≡ a = cc in
      subst (λ x. R x p (es ++ [])) z (subst (R st p) (sym (append-nil es)) h)

  then-refuse : (n p : ℕ) (es : List Entry) (R : Point) → Then s l (refuse n) p es R
  unfolding run
  then-refuse n p es R a e = absurd (let z : ◌≡◌ {A = ℕ} 0 1 = cc in omega arith)

  then-ahead : (n w p : ℕ) (es : List Entry) (R : Point) → Then s l (ahead n w) p es R
  unfolding run
  then-ahead n w p es R a e = absurd (let z : ◌≡◌ {A = ℕ} 0 1 = cc in omega arith)

  then_if : (c : Bool) (t u : Tree State) (p : ℕ) (es : List Entry) (R : Point) → (c ≡ true → Then s l t p es R) → (c ≡ false → Then s l u p es R) → Then s l (cond c t u) p es R
  then_if true t u p es R h k = h refl
  then_if false t u p es R h k = k refl

  -- a tree that gives exponents, which go into the state beside the pointers
  then-bins : (t : Tree (List ℕ)) (m baps : List ℕ) (p : ℕ) (es : List Entry) (R : Point)
      → ((e : List ℕ) (q : ℕ) (fs : List Entry) → Grows es fs → R (state m (bins e baps)) q fs) → Then s l (t >>= (λ e. done (state m (bins e baps)))) p es R
  unfolding after run
  then-bins t m baps p es R h = rw (run_bind t (λ e. done (state m (bins e baps))) s p l) (go O.result)
    where
      O : Outcome (List ℕ)
      O = run t s p l

      F : List ℕ → ℕ → Outcome State
      F e q = out (accepted (state m (bins e baps))) q []

      go : (r : Result (List ℕ)) (a : State) → (and_then r O.place O.records F).result ≡ accepted a
          → R a (and_then r O.place O.records F).place (es ++ (and_then r O.place O.records F).records)
      go (accepted e) a k = let z : state m (bins e baps) ≡ a = cc in subst (λ x. R x O.place (es ++ (O.records ++ []))) z (h e O.place _ (grows-append es _))
      go (refused n) a k = absurd (let z : ◌≡◌ {A = ℕ} 0 1 = cc in omega arith)

  then-cons : (c : Bool) (x : Entry) (w : ℕ) (st : State) (p : ℕ) (es : List Entry) (R : Point) (a : State)
      → (cond c (cons x (out (accepted st) (p + w) [])) (out (refused 8) p [])).result ≡ accepted a
      → ((fs : List Entry) → Grows es fs → Has x.field.name fs → R st (p + w) fs)
      → R a (cond c (cons x (out (accepted st) (p + w) [])) (out (refused 8) p [])).place (es ++ (cond c (cons x (out (accepted st) (p + w) [])) (out (refused 8) p [])).records)
  then-cons true x w st p es R a e h =
      let z : st ≡ a = cc in
      subst (λ y. R y (p + w) (es ++ (x ∷ []))) z (h (es ++ (x ∷ [])) (grows-append es (x ∷ [])) (has_last es x []))
  then-cons false x w st p es R a e h = absurd (let z : ◌≡◌ {A = ℕ} 0 1 = cc in omega arith)

  -- one element
  then_one : (name : ℕ) (i : Sum) (w : ℕ) (a : Addr) (st : State) (p : ℕ) (es : List Entry) (R : Point)
      → ((v : ℕ) (fs : List Entry) → v < 2 ^ w → Grows es fs → Has name fs → R (stored st (place_of a st.cells) v) (p + w) fs)
      → Then s l (one name i w a st) p es R
  unfolding run
  then_one name i w a st p es R h x e = then-cons (leb (p + w) l) _ w _ p es R x e (λ fs g k. h (bits_at s p w) fs (bits_at-lt s p w) g k)

  -- a loop, by what holds before each turn
  module _ (k : ℕ) (f : State → Tree State) (A : Point) (top : ℕ) (I : ℕ → Point)
      (turn : (j : ℕ) (st : State) (p : ℕ) (es : List Entry) → j < top → I j st p es → A (stored st k j) p es × Then s l (f (stored st k j)) p es (I (suc j))) where
    turning : (n i : ℕ) (st : State) (p : ℕ) (es : List Entry) → i + n ≤ max i top → I i st p es → Turning s l A f n i k st p es
    unfolding Turning
    turning zero i st p es h g = tt
    turning (suc n) i st p es h g =
        let w = turn i st p es (omega arith) g in
        (w.0, λ a e. turning n (suc i) a _ _ (omega arith) (w.1 a e))

    turned : (n i N : ℕ) (st : State) (p : ℕ) (es : List Entry) → i + n ≤ max i top → i + n ≡ N → I i st p es → Then s l (turns n i k f st) p es (I N)
    unfolding turns
    turned zero i N st p es h e g = let z : i ≡ N = omega arith in then-done st p es (I N) (subst (λ j. I j st p es) z g)
    turned (suc n) i N st p es h e g =
        let w = turn i st p es (omega arith) g in
        then-bind (f (stored st k i)) (turns n (suc i) k f) p es (I N)
        (λ a d. turned n (suc i) N a _ _ (omega arith) (omega arith) (w.1 a d))

    -- from the number i on, to the end
    loop-ends : (i : ℕ) (st : State) (p : ℕ) (es : List Entry) (R : Point) → I i st p es → ((j : ℕ) (a : State) (q : ℕ) (fs : List Entry) → top ≤ j → I j a q fs → R a q fs)
        → Then s l (turns (top - i) i k f st) p es R
    loop-ends i st p es R h r a e = r (i + (top - i)) a _ _ (omega arith) (turned (top - i) i (i + (top - i)) st p es (omega arith) refl h a e)

module _ (s : List ℕ) (l : ℕ) (Q : Item → Point) where
  pub record Walks (b : Block) (st : State) (p : ℕ) (es : List Entry) (R : Point) : Type 0 where
    pub along : Along s l Q b st p es
    pub ends : Then s l (meaning b st) p es R

  pub record Walked (i : Item) (st : State) (p : ℕ) (es : List Entry) (R : Point) : Type 0 where
    pub inside : Inside s l Q i st p es
    pub ends : Then s l (item i st) p es R

  pub walks-end : (st : State) (p : ℕ) (es : List Entry) {R : Point} → R st p es → Walks end st p es R
  unfolding Along meaning
  walks-end st p es {R} h = record { along = tt; ends = then-done s l st p es R h }

  pub walks_next : (i : Item) (b : Block) (st : State) (p : ℕ) (es : List Entry) {M R : Point} → Q i st p es → Walked i st p es M
      → ((a : State) (q : ℕ) (fs : List Entry) → M a q fs → Walks b a q fs R) → Walks (i ⨾ b) st p es R
  unfolding Along meaning
  walks_next i b st p es {M} {R} h w k = record {
    along = (h, w.inside, λ a e. (k a _ _ (w.ends a e)).along);
    ends = then-bind s l (item i st) (λ x. meaning b x) p es R (λ a e. (k a _ _ (w.ends a e)).ends);
  }

  -- the kinds of items
  pub walked-element : (name : ℕ) (i : Sum) (w : ℕ) (a : Addr) (st : State) (p : ℕ) (es : List Entry) {R : Point}
      → ((v : ℕ) (fs : List Entry) → v < 2 ^ w → Grows es fs → Has name fs → R (stored st (place_of a st.cells) v) (p + w) fs)
      → Walked (element name i w a) st p es R
  unfolding Inside item
  walked-element name i w a st p es {R} h = record { inside = tt; ends = then_one s l name i w a st p es R h }

  pub walked-elements : (name : ℕ) (i : Sum) (w : ℕ) (a : Addr) (k f n : ℕ) (st : State) (p : ℕ) (es : List Entry) (I : ℕ → Point) {R : Point} → I f st p es
      → ((j : ℕ) (x : State) (q : ℕ) (fs : List Entry) → j < cell_of st.cells n → I j x q fs → Q (element name i w a) (stored x k j) q fs
      × ((v : ℕ) (gs : List Entry) → v < 2 ^ w → Grows fs gs → I (suc j) (stored (stored x k j) (place_of a (stored x k j).cells) v) (q + w) gs))
      → ((j : ℕ) (x : State) (q : ℕ) (fs : List Entry) → cell_of st.cells n ≤ j → I j x q fs → R x q fs)
      → Walked (elements name i w a k f n) st p es R
  unfolding Inside item
  walked-elements name i w a k f n st p es I {R} h t r = record {
    inside = turning s l k (one name i w a) A c I turn (c - f) f st p es (omega arith) h;
    ends = loop-ends s l k (one name i w a) A c I turn f st p es R h r;
  }
    where
      c : ℕ
      c = cell_of st.cells n

      A : Point
      A x q fs = Q (element name i w a) x q fs

      turn : (j : ℕ) (x : State) (q : ℕ) (fs : List Entry) → j < c → I j x q fs → A (stored x k j) q fs × Then s l (one name i w a (stored x k j)) q fs (I (suc j))
      turn j x q fs d g = let u = t j x q fs d g in (u.0, then_one s l name i w a (stored x k j) q fs (I (suc j)) (λ v gs b o _. u.1 v gs b o))

  pub walked-span : (name k : ℕ) (st : State) (p : ℕ) (es : List Entry) {R : Point}
      → ((q : ℕ) (fs : List Entry) → Grows es fs → R st q fs) → Walked (span name k) st p es R
  unfolding Inside item run
  walked-span name k st p es {R} h = record {
    inside = tt;
    ends = λ x e. then-cons s l (leb (p + cell_of st.cells k) l) _ (cell_of st.cells k) _ p es R x e (λ fs g _. h _ fs g);
  }

  pub walked-mantissas : (name : ℕ) (a : Addr) (st : State) (p : ℕ) (es : List Entry) {R : Point}
      → ((vs : List ℕ) (q : ℕ) (fs : List Entry) → length vs ≡ 8 → get_or vs 0 0 ≤ tags_most → Grows es fs → p + total (drop 1 vs) ≡ q → q ≤ max p l
      → Among (region (part_of name none st.cells) p (q - p)) fs → (skim (mantissas_in st) s p l).result ≡ accepted vs → R (stored_all st (place_of a st.cells) vs) q fs) → Walked (mantissas name a) st p es R
  unfolding Inside item run after
  walked-mantissas name a st p es {R} h = record { inside = tt; ends = go O.result (λ v e. (eight-told st s p l v e, tags-most st s p l v e, bits-add-up st s p l v e, skim-reaches (mantissas_in st) s p l, e)) }
    where
      O : Outcome (List ℕ)
      O = skim (mantissas_in st) s p l

      x : Part
      x = part_of name none st.cells

      F : List ℕ → ℕ → Outcome State
      F v e = cons (region x p (e - p)) (out (accepted (stored_all st (place_of a st.cells) v)) e [])

      go : (r : Result (List ℕ)) → ((v : List ℕ) → r ≡ accepted v → (length v ≡ 8) × (get_or v 0 0 ≤ tags_most) × (p + total (drop 1 v) ≡ O.place) × (O.place ≤ max p l) × (O.result ≡ accepted v)) → (c : State) → (and_then r O.place O.records F).result ≡ accepted c
          → R c (and_then r O.place O.records F).place (es ++ (and_then r O.place O.records F).records)
      go (accepted v) t c e =
          let z : stored_all st (place_of a st.cells) v ≡ c = cc in
          subst (λ y. R y O.place (es ++ (O.records ++ (region x p (O.place - p) ∷ [])))) z (h v O.place _ (t v refl).0 (t v refl).1 (grows-append es _) (t v refl).2 (t v refl).3 (member-last (region x p (O.place - p)) es O.records) (t v refl).4)
      go (refused n) t c e = absurd (let z : ◌≡◌ {A = ℕ} 0 1 = cc in omega arith)

  pub walked-exponents : (x : Sum) (name : ℕ) (i : Sum) (st : State) (p : ℕ) (es : List Entry) {R : Point}
      → ((e : List ℕ) (q : ℕ) (fs : List Entry) → Grows es fs → R (state st.cells (bins e st.bins.baps)) q fs) → Walked (exponents x name i) st p es R
  unfolding Inside item exponents_of
  walked-exponents x name i st p es {R} h = record { inside = tt; ends = then-bins s l (set_of _ _ _ _ _ _ _) st.cells st.bins.baps p es R h }

  pub walked-when : (c : Cond) (b : Block) (st : State) (p : ℕ) (es : List Entry) {R : Point}
      → (holds_of c st.cells ≡ true → Walks b st p es R) → (holds_of c st.cells ≡ false → R st p es) → Walked (when c b) st p es R
  unfolding Inside item
  walked-when c b st p es {R} h k = record {
    inside = λ e. (h e).along;
    ends = then_if s l (holds_of c st.cells) (meaning b st) (done st) p es R (λ e. (h e).ends) (λ e. then-done s l st p es R (k e));
  }

  pub walked-reject : (c : Cond) (n : ℕ) (st : State) (p : ℕ) (es : List Entry) {R : Point}
      → (holds_of c st.cells ≡ false → R st p es) → Walked (reject c n) st p es R
  unfolding Inside item
  walked-reject c n st p es {R} h = record {
    inside = tt;
    ends = then_if s l (holds_of c st.cells) (refuse n) (done st) p es R (λ e. then-refuse s l n p es R) (λ e. then-done s l st p es R (h e));
  }

  pub walked-reject-at : (c : Cond) (n k : ℕ) (st : State) (p : ℕ) (es : List Entry) {R : Point}
      → (holds_of c st.cells ≡ false → R st p es) → Walked (reject_at c n k) st p es R
  unfolding Inside item run
  walked-reject-at c n k st p es {R} h = record {
    inside = tt;
    ends = then_if s l (holds_of c st.cells) (ahead n (cell_of st.cells k - p)) (done st) p es R
        (λ e. then-ahead s l n (cell_of st.cells k - p) p es R) (λ e. then-done s l st p es R (h e));
  }

  pub walked_put : (a : Addr) (v : Value) (st : State) (p : ℕ) (es : List Entry) {R : Point}
      → R (stored st (place_of a st.cells) (amount_of v p st.cells)) p es → Walked (put a v) st p es R
  unfolding Inside item run
  walked_put a v st p es {R} h = record { inside = tt; ends = then-done s l (stored st (place_of a st.cells) (amount_of v p st.cells)) p es R h }

  pub walked-fill : (k n x y : ℕ) (a : Addr) (st : State) (p : ℕ) (es : List Entry) {R : Point}
      → R (state (filled n k (x + y * held_of a st.cells) st.cells) st.bins) p es → Walked (fill k n x y a) st p es R
  unfolding Inside item
  walked-fill k n x y a st p es {R} h = record { inside = tt; ends = then-done s l (state (filled n k (x + y * held_of a st.cells) st.cells) st.bins) p es R h }

  pub walked-derive : (k : ℕ) (st : State) (p : ℕ) (es : List Entry) {R : Point} → (eqb (derived k st).number 0 ≡ true → R (derived k st).st p es) → Walked (derive k) st p es R
  unfolding Inside item
  walked-derive k st p es {R} h = record {
    inside = tt;
    ends = then_if s l (eqb (derived k st).number 0) (done (derived k st).st) (refuse (derived k st).number) p es R
        (λ e. then-done s l (derived k st).st p es R (h e)) (λ e. then-refuse s l (derived k st).number p es R);
  }

  pub walked-each : (k : ℕ) (i : Sum) (n : Count) (b : Block) (st : State) (p : ℕ) (es : List Entry) (I : ℕ → Point) {R : Point}
      → I (sum_of i st.cells) st p es
      → ((j : ℕ) (a : State) (q : ℕ) (fs : List Entry) → j < count_of n st.cells → I j a q fs → Walks b (stored a k j) q fs (I (suc j)))
      → ((j : ℕ) (a : State) (q : ℕ) (fs : List Entry) → count_of n st.cells ≤ j → I j a q fs → R a q fs)
      → Walked (each k i n b) st p es R
  unfolding Inside item
  walked-each k i n b st p es I {R} h w r = record {
    inside = turning s l k (λ a. meaning b a) A c I turn (c - f) f st p es (omega arith) h;
    ends = loop-ends s l k (λ a. meaning b a) A c I turn f st p es R h r;
  }
    where
      c : ℕ
      c = count_of n st.cells

      f : ℕ
      f = sum_of i st.cells

      A : Point
      A a q fs = Along s l Q b a q fs

      turn : (j : ℕ) (a : State) (q : ℕ) (fs : List Entry) → j < c → I j a q fs → A (stored a k j) q fs × Then s l (meaning b (stored a k j)) q fs (I (suc j))
      turn j a q fs d g = let x = w j a q fs d g in (x.along, x.ends)

  -- weaker ends, and one block after another
  pub walks-map : {b : Block} {st : State} {p : ℕ} {es : List Entry} {M R : Point} → ((a : State) (q : ℕ) (fs : List Entry) → M a q fs → R a q fs)
      → Walks b st p es M → Walks b st p es R
  walks-map f w = record { along = w.along; ends = λ a e. f a _ _ (w.ends a e) }

  then-unbind : (t : Tree State) (f : State → Tree State) (p : ℕ) (es : List Entry) (R : Point)
      → Then s l (t >>= f) p es R → Then s l t p es (λ a q fs. Then s l (f a) q fs R)
  unfolding after
  then-unbind t f p es R h c e a k =
      subst (R a (run (f c) s (run t s p l).place l).place) (sym (append_assoc es (run t s p l).records (run (f c) s (run t s p l).place l).records))
      (go (run t s p l).result e (subst (λ (o : Outcome State). (a : State) → o.result ≡ accepted a → R a o.place (es ++ o.records)) (run_bind t f s p l) h))
    where
      O : Outcome State
      O = run t s p l

      F : State → ℕ → Outcome State
      F a q = run (f a) s q l

      go : (r : Result State) → r ≡ accepted c
          → ((a : State) → (and_then r O.place O.records F).result ≡ accepted a → R a (and_then r O.place O.records F).place (es ++ (and_then r O.place O.records F).records))
          → R a (F c O.place).place (es ++ (O.records ++ (F c O.place).records))
      go (accepted d) e g = let z : d ≡ c = cc in subst (λ x. R a (F x O.place).place (es ++ (O.records ++ (F x O.place).records))) z (g a (ap (λ x. (F x O.place).result) z ∙ k))
      go (refused n) e g = absurd (let z : ◌≡◌ {A = ℕ} 0 1 = cc in omega arith)

  pub walks-append : (b c : Block) (st : State) (p : ℕ) (es : List Entry) {M R : Point} → Walks b st p es M
      → ((a : State) (q : ℕ) (fs : List Entry) → M a q fs → Walks c a q fs R) → Walks (b ⧺ c) st p es R
  unfolding ◌⧺◌ Along meaning run
  walks-append end c st p es {M} w k = k st p es (subst (M st p) (append-nil es) (w.ends st refl))
  walks-append (i ⨾ b) c st p es {M} w k =
      walks_next i (b ⧺ c) st p es {M = λ a q fs. Walks b a q fs M} w.along.0
      (record { inside = w.along.1; ends = λ a e. record { along = w.along.2 a e; ends = then-unbind (item i st) (λ x. meaning b x) p es M w.ends a e } })
      (λ a q fs m. walks-append b c a q fs m k)
