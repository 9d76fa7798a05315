-- What a row comes to, of the block that stands at it. Assumes nothing.
use Prim.Native.Nat.{ℕ, zero, suc, ◌+◌, ◌-◌, ◌%◌, ◌≤◌, ◌<◌}
use mathlib.Core.Bool.{Bool, true, false, cond, not}
use mathlib.Core.Path.{◌≡◌, refl, sym, ap, subst, ◌∙◌}
use mathlib.Core.List.{List, [], ◌∷◌, map}
use native.Mathlib.Omega.{arith}
use native.Mathlib.Numerals.{add-one}
use lib.Dec.{leb, eqb}
use lib.ListN.{length, get_or, drop, get_or-map}
use lib.Seq.{drop-cons, drop-drop}
use borrow.Author.Tests.{leb-true, lt-ltb}
use Rattle.reading.specs.Tree.{Tree, done, refuse, ahead, span as spanned, ◌>>=◌}
use Rattle.reading.specs.Run.{refused}
use Rattle.reading.specs.Room.{Room, Out, got, exec}
use Rattle.reading.proofs.Trees.{bind-right}
use Rattle.slots.proofs.Tests.{both}
use Rattle.cells.specs.Cells.{State, addr, sum, place_of, stored, part_of, put_in, cell_of}
use Rattle.derivations.specs.Derivations.{derived}
use Rattle.rows.specs.Syntax.{holds_of, Fixed, Held, Item, Block, element, elements, span, mantissas, exponents, when, each, reject, reject_at, put, fill, derive, end, ◌⨾◌, ◌⧺◌, turns, one, meaning}
use Rattle.rows.specs.Rows.{Row, Elements, Span, Mantissas, Exponents, When, Each, Put, Fill, Do, mask_of, cell_in, maskable, is_relation, refusal, row, flat, rows_of, size, plain_in, plain, row_of, width_in}
use Rattle.rows.specs.Steps.{Move, runs, go, deals, loops, dealing, dealt_of, step_of}
use Rattle.rows.specs.Standing.{Stands, narrow, all_narrow}
use Rattle.rows.proofs.Masks.{mask-holds, refusal-here, refusal-at}
use Rattle.rows.proofs.Blocks.{flat_append, size-append, meaning-append, plain-append, drop-flat}

-- the test of the widths, at each row
pub narrow_at : (t : List ℕ) (pc : ℕ) → pc < length t → all_narrow t ≡ true → narrow (get_or t pc 0) ≡ true
unfolding all_narrow
narrow_at [] pc h e = absurd (let z : ⊥ = omega arith in z)
narrow_at (w ∷ t) zero h e = (both (narrow w) (all_narrow t) e).0
narrow_at (w ∷ t) (suc pc) h e = narrow_at t pc (omega arith) (both (narrow w) (all_narrow t) e).1

pub narrow-width : (w : ℕ) → narrow w ≡ true → w % 16 < 3 → width_in w ≤ 25
narrow-width w h k = leb-true (width_in w) 25 (subst (λ (b : Bool). cond b (leb (width_in w) 25) true ≡ true) (lt-ltb _ _ k) h)

abbrev pub on : List ℕ → ℕ → Block → State → ℕ → ℕ → Room → Out State
on s l b st p n m = exec s l (meaning b st) p n m

-- an element is one turn with no counter
pub one-turn : (f : State → Tree State) (st : State) → turns 1 0 0 f st ≡ f st
unfolding turns put_in
one-turn f st = bind-right (f st)

-- what is stored nowhere
nowhere : (st : State) (v : ℕ) → st ≡ stored st (place_of (addr 0 0 0) st.cells) v
unfolding cell_of put_in
nowhere st v = refl

-- a cell with no counters
held_plain : (m : List ℕ) (k : ℕ) → cell_of m k ≡ cell_of m (place_of (addr k 0 0) m)
unfolding cell_of
held_plain m k = let e : k ≡ place_of (addr k 0 0) m = omega arith in ap (cell_of m) e

-- a refusal at the present place, where the cell of its place is cell 0
module _ (s : List ℕ) (l p i : ℕ) (m : Room) (st : State) (f : State → Tree State) where
  here-at : p ≡ p + (cell_of st.cells 0 - p)
  unfolding cell_of
  here-at = omega arith

  stays : (n : ℕ) → exec s l (cond (eqb n 0) (done st) (refuse n) >>= f) p i m ≡ exec s l (dealt_of (dealing n 0 st) p >>= f) p i m
  unfolding exec ◌>>=◌
  stays n = by (eqb n 0)
    where
      by : (c : Bool) → exec s l (cond c (done st) (refuse n) >>= f) p i m ≡ exec s l (cond c (done st) (ahead n (cell_of st.cells 0 - p)) >>= f) p i m
      by true = refl
      by false = ap (λ x. got (refused n) x i m) here-at

  -- a refusal by a condition
  stops : (n : ℕ) → not (eqb n 0) ≡ true → (c : Bool) → exec s l (cond c (refuse n) (done st) >>= f) p i m ≡ exec s l (dealt_of (dealing (cond c n 0) 0 st) p >>= f) p i m
  unfolding exec ◌>>=◌
  stops n h true = by (eqb n 0) h ∙ stays n
    where
      by : (c : Bool) → not c ≡ true → exec s l (refuse n >>= f) p i m ≡ exec s l (cond c (done st) (refuse n) >>= f) p i m
      by true e = absurd (let z : ◌≡◌ {A = ℕ} 0 1 = cc in omega arith)
      by false e = refl
  stops n h false = refl

  stops_at : (n k : ℕ) → not (eqb n 0) ≡ true → (c : Bool) → exec s l (cond c (ahead n (cell_of st.cells k - p)) (done st) >>= f) p i m ≡ exec s l (dealt_of (dealing (cond c n 0) k st) p >>= f) p i m
  unfolding exec ◌>>=◌
  stops_at n k h true = by (eqb n 0) h
    where
      by : (c : Bool) → not c ≡ true → exec s l (ahead n (cell_of st.cells k - p) >>= f) p i m ≡ exec s l (cond c (done st) (ahead n (cell_of st.cells k - p)) >>= f) p i m
      by true e = absurd (let z : ◌≡◌ {A = ℕ} 0 1 = cc in omega arith)
      by false e = refl
  stops_at n k h false = refl

module _ (t : List ℕ) (to : ℕ) where
  -- what a row comes to, of the block that stands at it
  abbrev pub Follows : Block → ℕ → ℕ → State → Move → Type 0
  Follows b pc p st (runs u) = (r : Block) × Stands t r (pc + 1) to × (meaning b st ≡ (u >>= meaning r))
  Follows b pc p st (go k) = (r : Block) × Stands t r (pc + 1 + k) to × (meaning b st ≡ meaning r st)
  Follows b pc p st (deals a) = (r : Block) × Stands t r (pc + 1) to × ((s : List ℕ) (l n : ℕ) (m : Room) → on s l b st p n m ≡ exec s l (dealt_of a p >>= meaning r) p n m)
  Follows b pc p st (loops i n k z) =
      (a : Block) × (r : Block) × Stands t a (pc + 1) (pc + 1 + z) × Stands t r (pc + 1 + z) to × (meaning b st ≡ (turns (n - i) i k (meaning a) st >>= meaning r))

  module _ (pc : ℕ) (less : pc < to) (p : ℕ) (st : State) where
    head_at : (b : Block) → Stands t b pc to → flat b (drop to (map row_of t)) ≡ row_of (get_or t pc 0) ∷ drop (suc pc) (map row_of t)
    head_at b h = sym h.rows ∙ drop-cons (map row_of t) pc (row_of 0) (omega (arith, h.room)) ∙ ap (λ x. x ∷ drop (suc pc) (map row_of t)) (get_or-map row_of t pc 0)

    past-block : (b r : Block) → drop (suc pc) (map row_of t) ≡ flat b (flat r (drop to (map row_of t))) → drop (pc + 1 + size b) (map row_of t) ≡ flat r (drop to (map row_of t))
    past-block b r e = sym (drop-drop (size b) (pc + 1) (map row_of t)) ∙ (rw (add-one, e) (drop-flat b (flat r (drop to (map row_of t)))))

    rest_plain : (i : Item) (r : Block) → Stands t (i ⨾ r) pc to → (plain_in i ≡ true) × (plain r ≡ true)
    unfolding plain
    rest_plain i r h = both (plain_in i) (plain r) h.plain

    -- the rest stands after a row of its own
    after-row : (i : Item) (r : Block) (x : Row) → rows_of i ≡ 1 → x ∷ flat r (drop to (map row_of t)) ≡ row i (flat r (drop to (map row_of t))) → Stands t (i ⨾ r) pc to → Stands t r (pc + 1) to
    unfolding flat
    after-row i r x single e h =
        let q : row i (flat r (drop to (map row_of t))) ≡ row_of (get_or t pc 0) ∷ drop (suc pc) (map row_of t) = head_at (i ⨾ r) h in
        let z : drop (suc pc) (map row_of t) ≡ flat r (drop to (map row_of t)) = cc in
        record { rows = rw add-one z; plain = (rest_plain i r h).1; ends = omega (arith, h.ends); room = h.room }

    first-row : (i : Item) (r : Block) (x : Row) (y : List Row) → x ∷ y ≡ row i (flat r (drop to (map row_of t))) → Stands t (i ⨾ r) pc to → x ≡ row_of (get_or t pc 0)
    unfolding flat
    first-row i r x y e h =
        let q : row i (flat r (drop to (map row_of t))) ≡ row_of (get_or t pc 0) ∷ drop (suc pc) (map row_of t) = head_at (i ⨾ r) h in
        cc

    stands_at : (r : Block) (i j : ℕ) → i ≡ j → Stands t r i to → Stands t r j to
    stands_at r i j e h = subst (λ (x : ℕ). Stands t r x to) e h

    zero-on : pc + 1 ≡ pc + 1 + 0
    zero-on = omega arith

    step_is : (b : Block) (x : Row) → x ≡ row_of (get_or t pc 0) → Follows b pc p st (step_of x p st) → Follows b pc p st (step_of (row_of (get_or t pc 0)) p st)
    step_is b x e f = subst (λ (y : Row). Follows b pc p st (step_of y p st)) e f

    -- an item of one row
    single : (i : Item) (r : Block) (x : Row) → rows_of i ≡ 1 → x ∷ flat r (drop to (map row_of t)) ≡ row i (flat r (drop to (map row_of t))) → Stands t (i ⨾ r) pc to
        → (Stands t r (pc + 1) to → Follows (i ⨾ r) pc p st (step_of x p st)) → Follows (i ⨾ r) pc p st (step_of (row_of (get_or t pc 0)) p st)
    single i r x one e h f = step_is (i ⨾ r) x (first-row i r x (flat r (drop to (map row_of t))) e h) (f (after-row i r x one e h))

    pub step-law : (b : Block) → Stands t b pc to → Follows b pc p st (step_of (row_of (get_or t pc 0)) p st)
    unfolding step_of meaning flat plain ◌>>=◌ exec
    step-law end h = absurd (omega (arith, h.ends))
    step-law (element n i w a ⨾ r) h =
        single (element n i w a) r (Elements n i w a 0 0 (Fixed 1)) refl refl h (λ k. (r, k, ap (λ (u : Tree State). u >>= (λ x. meaning r x)) (sym (one-turn (one n i w a) st))))
    step-law (elements n i w a k f c ⨾ r) h =
        single (elements n i w a k f c) r (Elements n i w a k f (Held (addr c 0 0))) refl refl h (λ g. (r, g, ap (λ (x : ℕ). turns (x - f) f k (one n i w a) st >>= (λ x. meaning r x)) (held_plain st.cells c)))
    step-law (span n k ⨾ r) h =
        single (span n k) r (Span n (sum 0 0) (addr 0 0 0) k) refl refl h (λ g. (r, g, ap (λ (x : State). spanned (part_of n (sum 0 0) st.cells) (cell_of st.cells k) (meaning r x)) (nowhere st 0)))
    step-law (mantissas n a ⨾ r) h = single (mantissas n a) r (Mantissas n (sum 0 0) a) refl refl h (λ g. (r, g, refl))
    step-law (exponents x n i ⨾ r) h = single (exponents x n i) r (Exponents x n i) refl refl h (λ g. (r, g, refl))
    step-law (put a v ⨾ r) h = single (put a v) r (Put a v) refl refl h (λ g. (r, g, λ s l n m. refl))
    step-law (fill k n x y a ⨾ r) h = single (fill k n x y a) r (Fill k n x y a) refl refl h (λ g. (r, g, λ s l i m. refl))
    step-law (derive k ⨾ r) h = single (derive k) r (Do k) refl refl h (λ g. (r, g, λ s l n m. stays s l p n m (derived k st).st (meaning r) (derived k st).number))
    step-law (reject c n ⨾ r) h =
        single (reject c n) r (refusal c n 0) refl refl h (λ g.
        let e = both (not (eqb n 0)) (cond (is_relation c) true (maskable c)) (rest_plain (reject c n) r h).0 in
        subst (λ (o : Move). Follows (reject c n ⨾ r) pc p st o) (sym (refusal-here n p st c e.1)) (r, g, λ s l i m. stops s l p i m st (meaning r) n e.0 (holds_of c st.cells)))
    step-law (reject_at c n k ⨾ r) h =
        single (reject_at c n k) r (refusal c n k) refl refl h (λ g.
        let e = both (not (eqb n 0)) (is_relation c) (rest_plain (reject_at c n k) r h).0 in
        subst (λ (o : Move). Follows (reject_at c n k ⨾ r) pc p st o) (sym (refusal-at n p st c e.1 k)) (r, g, λ s l i m. stops_at s l p i m st (meaning r) n k e.0 (holds_of c st.cells)))
    step-law (when c a ⨾ r) h =
        step_is (when c a ⨾ r) (When (cell_in c) (mask_of c) (size a)) (first-row (when c a) r (When (cell_in c) (mask_of c) (size a)) _ refl h)
        (subst (λ (y : Bool). Follows (when c a ⨾ r) pc p st (go (cond y 0 (size a)))) (sym (mask-holds c tests.0 st.cells)) (by (holds_of c st.cells) refl))
      where
        tests : (maskable c ≡ true) × (plain a ≡ true)
        tests = both (maskable c) (plain a) (rest_plain (when c a) r h).0

        rest-is : drop (suc pc) (map row_of t) ≡ flat a (flat r (drop to (map row_of t)))
        rest-is =
            let q : When (cell_in c) (mask_of c) (size a) ∷ flat a (flat r (drop to (map row_of t))) ≡ row_of (get_or t pc 0) ∷ drop (suc pc) (map row_of t) = head_at (when c a ⨾ r) h in
            cc

        by : (d : Bool) → holds_of c st.cells ≡ d → Follows (when c a ⨾ r) pc p st (go (cond (holds_of c st.cells) 0 (size a)))
        by true e =
            rw e (
              a ⧺ r,
              stands_at (a ⧺ r) _ _ zero-on (record { rows = rw (add-one, flat_append) rest-is; plain = plain-append a r tests.1 (rest_plain (when c a) r h).1; ends = omega (arith, h.ends, size-append a r); room = h.room }),
              sym (meaning-append a r st),
            )
        by false e =
            rw e (
              r,
              record { rows = past-block a r rest-is; plain = (rest_plain (when c a) r h).1; ends = omega (arith, h.ends); room = h.room },
              refl,
            )
    step-law (each k i n a ⨾ r) h =
        step_is (each k i n a ⨾ r) (Each k i n (size a)) (first-row (each k i n a) r (Each k i n (size a)) _ refl h) (
          a,
          r,
          record { rows = ap (λ (j : ℕ). drop j (map row_of t)) (add-one pc) ∙ rest-is ∙ ap (flat a) (sym (past-block a r rest-is)); plain = (rest_plain (each k i n a) r h).0; ends = refl; room = omega (arith, h.room, h.ends) },
          record { rows = past-block a r rest-is; plain = (rest_plain (each k i n a) r h).1; ends = omega (arith, h.ends); room = h.room },
          refl,
        )
      where
        rest-is : drop (suc pc) (map row_of t) ≡ flat a (flat r (drop to (map row_of t)))
        rest-is =
            let q : Each k i n (size a) ∷ flat a (flat r (drop to (map row_of t))) ≡ row_of (get_or t pc 0) ∷ drop (suc pc) (map row_of t) = head_at (each k i n a ⨾ r) h in
            cc
