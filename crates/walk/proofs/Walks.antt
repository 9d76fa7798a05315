-- The loop over the rows and the loop over the turns: their invariants, and how each way of a turn keeps them. Assumes nothing.
use Prim.Native.Nat.{ℕ, zero, suc, ◌+◌, ◌-◌, ◌*◌, ◌/◌, ◌%◌, ◌≤◌, ◌<◌}
use mathlib.Core.Bool.{Bool, true, false, cond}
use mathlib.Core.Path.{◌≡◌, refl, sym, ap, subst, fun_ext, ◌∙◌}
use mathlib.Core.List.{List}
use native.Mathlib.Omega.{arith}
use native.Mathlib.Numerals.{add-one}
use native.Mathlib.Decide.{dec_lt}
use lib.Dec.{eqb, ltb}
use lib.ListN.{length, get_or, length-map}
use borrow.Author.Tests.{ne_eqb, lt-ltb, le-ltb}
use Rattle.reading.specs.Tree.{Tree, done, ◌>>=◌}
use Rattle.reading.specs.Run.{accepted, refused}
use Rattle.reading.specs.Room.{Room, Out, got, exec}
use Rattle.reading.proofs.Rooms.{go_on, ◌then◌, exec-bind}
use Rattle.reading.proofs.Trees.{bind_assoc}
use Rattle.std.specs.Prelude.{Ok, Err}
use Rattle.syntax.specs.Cursors.{Progress}
use Rattle.syntax.specs.Records.{outcome}
use Rattle.syntax.specs.declared.Cursor.{Cursor}
use Rattle.syntax.specs.declared.Stopped.{Stopped}
use Rattle.cells.specs.Cells.{State, state, cell_of, put_in, stored}
use Rattle.slots.specs.Held.{Bins}
use Rattle.rows.specs.Syntax.{Block, Item, element, elements, span, mantissas, exponents, when, each, reject, reject_at, put, fill, derive, end, ◌⨾◌, count_of, turns, meaning}
use Rattle.rows.specs.Rows.{flat, to_in, from_in, counter_in, stop_in, skip_of, loop_in, row_of}
use Rattle.rows.specs.Steps.{Move, runs, go, deals, loops, dealing, dealt_of, step_of, Dealt, one_in, input_in, set_in}
use Rattle.rows.specs.Standing.{Stands}
use Rattle.rows.specs.declared.steps.Loop.{Loop}
use Rattle.inputs.specs.Reads.{Right, Wide, Takes, Opens, Gathers}
use Rattle.walk.specs.Stands.{Stand, Turned}
use Rattle.walk.proofs.Following.{narrow_at, narrow-width, one-turn, Follows, step-law}

element-step : (w p : ℕ) (st : State) → w % 16 < 3 → step_of (row_of w) p st ≡ runs (turns (count_of (to_in w) st.cells - from_in w) (from_in w) (counter_in w) (one_in w) st)
unfolding row_of step_of
element-step w p st h = rw (lt-ltb _ _ h) refl

one-is : (w : ℕ) (st : State) → w % 16 < 3 → one_in w st ≡ input_in w st
unfolding input_in
one-is w st h = rw (lt-ltb _ _ h) refl

region-step : (w p : ℕ) (st : State) → 3 ≤ w % 16 → w % 16 < 4 → step_of (row_of w) p st ≡ runs (input_in w st)
unfolding row_of input_in step_of
region-step w p st h k = rw (le-ltb _ _ h, lt-ltb (w % 16) 8 (omega arith), lt-ltb _ _ k) refl

-- the mantissas, or a set of exponents
abbrev inner : ℕ → State → Tree State
inner w st = cond (ltb (w % 16) 8) (input_in w st) (set_in w st)

inner-step : (w p : ℕ) (st : State) → 4 ≤ w % 16 → w % 16 % 15 < 8 → step_of (row_of w) p st ≡ runs (inner w st)
unfolding row_of input_in step_of
inner-step w p st h k = by (dec_lt (w % 16) 8)
  where
    by : Dec (w % 16 < 8) → step_of (row_of w) p st ≡ runs (inner w st)
    by (yes l) = rw (le-ltb (w % 16) 3 (omega arith), lt-ltb _ _ l, le-ltb _ _ h) refl
    by (no n) = let e : w % 16 ≡ 15 = omega arith in rw e refl

no-turns : (w : ℕ) (st : State) → 3 ≤ w % 16 → (f : State → Tree State) → turns (count_of (to_in w) st.cells - from_in w) (from_in w) (counter_in w) f st ≡ turns 1 0 0 f st
unfolding to_in from_in counter_in
no-turns w st h f = rw (ne_eqb (w % 16) 2 (λ e. omega arith)) refl

-- no rows are left
at-end : (t : List ℕ) (pc to : ℕ) (r : Block) → Stands t r pc to → to ≤ pc → (st : State) → meaning r st ≡ done st
unfolding meaning flat
at-end t pc to end k h st = refl
at-end t pc to (i ⨾ r) k h st = absurd (none i r k)
  where
    none : (i : Item) (r : Block) → Stands t (i ⨾ r) pc to → ⊥
    none (element n i w a) r k = omega (arith, k.ends)
    none (elements n i w a c f m) r k = omega (arith, k.ends)
    none (span n a) r k = omega (arith, k.ends)
    none (mantissas n a) r k = omega (arith, k.ends)
    none (exponents s n i) r k = omega (arith, k.ends)
    none (when c b) r k = omega (arith, k.ends)
    none (each j i n a) r k = omega (arith, k.ends)
    none (reject c n) r k = omega (arith, k.ends)
    none (reject_at c n j) r k = omega (arith, k.ends)
    none (put a v) r k = omega (arith, k.ends)
    none (fill j n x y a) r k = omega (arith, k.ends)
    none (derive j) r k = omega (arith, k.ends)

-- a tree that the code has run, and what follows it
module _ (s : List ℕ) (l : ℕ) (u : Tree State) (f : State → Tree State) (p q : ℕ) (m : Room) (d : Progress) (su : State) (mu : Room) (eo : outcome d su mu ≡ exec s l u p q m) where
  after : exec s l (u >>= f) p q m ≡ (outcome d su mu then (λ a p n m. exec s l (f a) p n m))
  after = exec-bind s l u f p q m ∙ ap (λ (o : Out State). o then (λ a p n m. exec s l (f a) p n m)) (sym eo)

  pub ran_on : (c : Cursor) → d ≡ Ok c → exec s l (u >>= f) p q m ≡ exec s l (f su) c.at.0 c.count mu
  unfolding go_on
  ran_on c e = after ∙ rw e refl

  pub ran-off : (x : Stopped) → d ≡ Err x → outcome (Err x) su mu ≡ exec s l (u >>= f) p q m
  unfolding go_on
  ran-off x e = sym (after ∙ rw e refl)

-- a row of elements or a span is so many turns of what it reads
input-step : (w p : ℕ) (st : State) → w % 16 < 4 → step_of (row_of w) p st ≡ runs (turns (count_of (to_in w) st.cells - from_in w) (from_in w) (counter_in w) (input_in w) st)
input-step w p st h = by (dec_lt (w % 16) 3)
  where
    reads-one : w % 16 < 3 → ◌≡◌ {A = State → Tree State} (one_in w) (input_in w)
    reads-one k = fun_ext (λ x. one-is w x k)

    by : Dec (w % 16 < 3) → step_of (row_of w) p st ≡ runs (turns (count_of (to_in w) st.cells - from_in w) (from_in w) (counter_in w) (input_in w) st)
    by (yes k) = element-step w p st k ∙ ap (λ (f : State → Tree State). runs (turns (count_of (to_in w) st.cells - from_in w) (from_in w) (counter_in w) f st)) (reads-one k)
    by (no n) = let k : 3 ≤ w % 16 = omega arith in region-step w p st k h ∙ ap runs (sym (one-turn (input_in w) st) ∙ sym (no-turns w st k (input_in w)))

-- so many turns up to the number last
turns_up : (n i last k : ℕ) (f : State → Tree State) (st : State) → n ≡ last - i → turns n i k f st ≡ turns n (last - n) k f st
unfolding turns
turns_up zero i last k f st e = refl
turns_up (suc n) i last k f st e = let z : i ≡ last - suc n = omega arith in ap (λ (x : ℕ). turns (suc n) x k f st) z

-- one of them
turn_one : (n last k : ℕ) (f : State → Tree State) (st : State) (g : State → Tree State) → suc n ≤ last
    → (turns (suc n) (last - suc n) k f st >>= g) ≡ (f (stored st k (last - suc n)) >>= (λ x. turns n (last - n) k f x >>= g))
unfolding turns
turn_one n last k f st g h =
    let z : suc (last - suc n) ≡ last - n = omega arith in
    bind_assoc (f (stored st k (last - suc n))) (turns n (suc (last - suc n)) k f) g ∙ ap (λ (x : ℕ). f (stored st k (last - suc n)) >>= (λ y. turns n x k f y >>= g)) z

turn-none : (i k : ℕ) (f : State → Tree State) (st : State) (g : State → Tree State) → (turns 0 i k f st >>= g) ≡ g st
unfolding turns ◌>>=◌
turn-none i k f st g = refl

-- what is left at a row, where an element is to be read so often still, up to the number last
module _ (t : List ℕ) (pc : ℕ) where
  abbrev pub Waits : ℕ → ℕ → Block → Type 0
  Waits to zero r = Stands t r pc to
  Waits to (suc q) r = Stands t r (pc + 1) to

  abbrev pub waiting : ℕ → ℕ → Block → State → Tree State
  waiting last zero r st = meaning r st
  waiting last (suc q) r st = turns (suc q) (last - suc q) (counter_in (get_or t pc 0)) (input_in (get_or t pc 0)) st >>= meaning r

-- the loop over the rows, at pc
pub record RowsInv (s : List ℕ) (l : ℕ) (t : List ℕ) (from to p₀ q₀ : ℕ) (st₀ : State) (m₀ : Room) (p q : ℕ) (st : State) (m : Room) (mem : List ℕ) (pc left last : ℕ) : Type 0 where
  pub past : from ≤ pc
  pub within : pc ≤ to
  pub fewer : left ≤ last
  pub reads : ¬ (left ≡ 0) → get_or t pc 0 % 16 < 4
  pub right : Right mem st.bins
  pub rest : (b : Block) → Stands t b from to → (r : Block) × Waits t pc to left r × (exec s l (meaning b st₀) p₀ q₀ m₀ ≡ exec s l (waiting t pc last left r st) p q m)

some : {A : Type 0} (n : ℕ) (x y : A) → cond (eqb (suc n) 0) x y ≡ y
some {A} n x y = ap (λ (b : Bool). cond {A = A} b x y) (ne_eqb (suc n) 0 (λ e. omega arith))

-- a measure of the rows that are left
abbrev weight : ℕ → ℕ
weight zero = 4294967296
weight (suc q) = suc q

unfoldable pub weigh : ℕ → ℕ → ℕ → ℕ
weigh to pc left = (to - pc) * 4294967297 + weight left

weight-ge : (left : ℕ) → 1 ≤ weight left
weight-ge zero = omega arith
weight-ge (suc q) = omega arith

module _ (to pc left : ℕ) (h : pc < to) where
  pub weigh-next : weigh to (pc + 1) left < weigh to pc left
  unfolding weigh
  weigh-next = omega arith

  pub weigh-skip : (k : ℕ) → weigh to (pc + (1 + k)) left < weigh to pc left
  unfolding weigh
  weigh-skip k = omega arith

  pub weigh-past : (k : ℕ) → weigh to (pc + 1 + k) left < weigh to pc left
  unfolding weigh
  weigh-past k = omega arith

pub weigh-more : (to pc left more x left' pc' : ℕ) → pc < to → ¬ (more ≡ 0) → more ≡ cond (eqb left 0) x left → left' ≡ more - 1 → pc' ≡ cond (eqb left' 0) (pc + 1) pc → more < 4294967296 → weigh to pc' left' < weigh to pc left
unfolding weigh
weigh-more to pc left more x zero pc' h ne em el ep f = let z : pc' ≡ pc + 1 = ep in rw z (omega (arith, weight-ge left))
weigh-more to pc zero more x (suc q) pc' h ne em el ep f = let z : pc' ≡ pc = ep ∙ some q (pc + 1) pc in rw z (omega arith)
weigh-more to pc (suc n) more x (suc q) pc' h ne em el ep f = let z : pc' ≡ pc = ep ∙ some q (pc + 1) pc in let y : more ≡ suc n = em ∙ some n x (suc n) in rw z (omega arith)

-- the rows of a loop are fewer than those that it stands in
pub shorter : (t from to pc z : ℕ) → to - from ≡ t → from ≤ pc → pc + 1 + z ≤ to → pc + 1 + z - (pc + 1) < t
shorter t from to pc z e h k = omega arith

module _ (s : List ℕ) (l : ℕ) (t : List ℕ) (from to p₀ q₀ : ℕ) (st₀ : State) (m₀ : Room) where
  pub rows_start : (mem : List ℕ) → Right mem st₀.bins → from ≤ to → (last : ℕ) → RowsInv s l t from to p₀ q₀ st₀ m₀ p₀ q₀ st₀ m₀ mem from 0 last
  rows_start mem h w last = record {
    past = omega arith;
    within = w;
    fewer = omega arith;
    reads = λ ne. absurd (ne refl);
    right = h;
    rest = λ b p. (b, p, refl);
  }

  module _ (p q : ℕ) (st : State) (m : Room) (mem : List ℕ) (pc left last : ℕ) (inv : RowsInv s l t from to p₀ q₀ st₀ m₀ p q st m mem pc left last) where
    pub rows_end : to ≤ pc → (b : Block) → Stands t b from to → exec s l (meaning b st₀) p₀ q₀ m₀ ≡ got (accepted st) p q m
    unfolding exec
    rows_end h b k = let r = inv.rest b k in r.2 ∙ by left r.0 r.1
      where
        by : (n : ℕ) (r : Block) → Waits t pc to n r → exec s l (waiting t pc last n r st) p q m ≡ got (accepted st) p q m
        by zero r w = ap (λ (y : Tree State). exec s l y p q m) (at-end t pc to r w h st)
        by (suc n) r w = absurd (omega (arith, w.ends))

    module _ (less : pc < to) (w : ℕ) (ew : w ≡ get_or t pc 0) where
      -- an element is to be read so often
      module _ (kind : w % 16 < 4) (last' more : ℕ) (el : last' ≡ cond (eqb left 0) (count_of (to_in w) st.cells) last) (em : more ≡ cond (eqb left 0) (last' - from_in w) left) where
        more-le : (n : ℕ) → n ≤ last → last' ≡ cond (eqb n 0) (count_of (to_in w) st.cells) last → more ≡ cond (eqb n 0) (last' - from_in w) n → more ≤ last'
        more-le zero h e f = omega arith
        more-le (suc n) h e f = let a : last' ≡ last = e ∙ some n _ last in let b : more ≡ suc n = f ∙ some n _ (suc n) in omega arith

        pub more-fewer : more ≤ last'
        more-fewer = more-le left inv.fewer el em

        first_of : step_of (row_of w) p st ≡ runs (turns (count_of (to_in w) st.cells - from_in w) (from_in w) (counter_in w) (input_in w) st)
        first_of = input-step w p st kind

        begun : (b : Block) → Stands t b from to → (r : Block) × Stands t r (pc + 1) to × (exec s l (meaning b st₀) p₀ q₀ m₀ ≡ exec s l (turns more (last' - more) (counter_in w) (input_in w) st >>= meaning r) p q m)
        begun b h = let a = inv.rest b h in by left a.0 a.1 a.2 el em
          where
            by : (n : ℕ) (a : Block) → Waits t pc to n a → exec s l (meaning b st₀) p₀ q₀ m₀ ≡ exec s l (waiting t pc last n a st) p q m
                → last' ≡ cond (eqb n 0) (count_of (to_in w) st.cells) last → more ≡ cond (eqb n 0) (last' - from_in w) n
                → (r : Block) × Stands t r (pc + 1) to × (exec s l (meaning b st₀) p₀ q₀ m₀ ≡ exec s l (turns more (last' - more) (counter_in w) (input_in w) st >>= meaning r) p q m)
            by zero a k e el em =
                let f : Follows t to a pc p st (runs (turns (count_of (to_in w) st.cells - from_in w) (from_in w) (counter_in w) (input_in w) st)) =
                subst (λ (o : Move). Follows t to a pc p st o) (ap (λ (x : ℕ). step_of (row_of x) p st) (sym ew) ∙ first_of) (step-law t to pc less p st a k) in
                let g : count_of (to_in w) st.cells - from_in w ≡ more = ap (λ (x : ℕ). x - from_in w) (sym el) ∙ sym em in
                (f.0, f.1, e ∙ ap (λ (y : Tree State). exec s l y p q m) (f.2 ∙ ap (λ (x : ℕ). turns x (from_in w) (counter_in w) (input_in w) st >>= meaning f.0) g ∙ ap (λ (y : Tree State). y >>= meaning f.0) (turns_up more (from_in w) last' (counter_in w) (input_in w) st em)))
            by (suc n) a k e el em =
                let z : turns (suc n) (last - suc n) (counter_in w) (input_in w) st ≡ turns more (last' - more) (counter_in w) (input_in w) st = (let a : last' ≡ last = el ∙ some n _ last in let b : more ≡ suc n = em ∙ some n _ (suc n) in rw (b, a) refl) in
                (a, k, e ∙ ap (λ (x : ℕ). exec s l (turns (suc n) (last - suc n) (counter_in x) (input_in x) st >>= meaning a) p q m) (sym ew) ∙ ap (λ (y : Tree State). exec s l (y >>= meaning a) p q m) z)

        idle-none : (n : ℕ) → more ≡ cond (eqb n 0) (last' - from_in w) n → more ≡ 0 → n ≡ 0
        idle-none zero e z = refl
        idle-none (suc n) e z = sym (e ∙ some n _ (suc n)) ∙ z

        -- not at all
        pub rows_none : more ≡ 0 → RowsInv s l t from to p₀ q₀ st₀ m₀ p q st m mem (pc + 1) left last'
        rows_none z = let i : left ≡ 0 = idle-none left em z in rw i (record {
          past = omega (arith, inv.past);
          within = omega arith;
          fewer = omega arith;
          reads = λ ne. absurd (ne refl);
          right = inv.right;
          rest = λ b h. let a = begun b h in (a.0, a.1, a.2 ∙ ap (λ (x : ℕ). exec s l (turns x (last' - more) (counter_in w) (input_in w) st >>= meaning a.0) p q m) z ∙ ap (λ (y : Tree State). exec s l y p q m) (turn-none (last' - more) (counter_in w) (input_in w) st (meaning a.0)));
        })

        -- once, which was done
        module _ (ne : ¬ (more ≡ 0)) (x : List ℕ) (ex : x ≡ put_in st.cells (counter_in w) (last' - more)) (d : Progress) (y : List ℕ) (mu : Room) (took : Takes s l w x p q m d y mu) where
          once : (r : Block) → (turns more (last' - more) (counter_in w) (input_in w) st >>= meaning r) ≡ (input_in w (state x st.bins) >>= (λ z. turns (more - 1) (last' - (more - 1)) (counter_in w) (input_in w) z >>= meaning r))
          once r = rw ex (by more refl)
            where
              by : (n : ℕ) → more ≡ n → (turns n (last' - n) (counter_in w) (input_in w) st >>= meaning r) ≡ (input_in w (stored st (counter_in w) (last' - n)) >>= (λ z. turns (n - 1) (last' - (n - 1)) (counter_in w) (input_in w) z >>= meaning r))
              by zero e = absurd (ne e)
              by (suc n) e =
                  let z : n ≡ suc n - 1 = omega arith in
                  turn_one n last' (counter_in w) (input_in w) st (meaning r) (omega (arith, more-fewer)) ∙ ap (λ (v : ℕ). input_in w (stored st (counter_in w) (last' - suc n)) >>= (λ y. turns v (last' - v) (counter_in w) (input_in w) y >>= meaning r)) z

          pub rows-one : (c : Cursor) → d ≡ Ok c → (left' : ℕ) → left' ≡ more - 1 → (pc' : ℕ) → pc' ≡ cond (eqb left' 0) (pc + 1) pc
              → RowsInv s l t from to p₀ q₀ st₀ m₀ c.at.0 c.count (state y st.bins) mu mem pc' left' last'
          rows-one c e left' el' pc' ep = by left' el' pc' ep
            where
              next : (b : Block) → Stands t b from to → (r : Block) × Stands t r (pc + 1) to × (exec s l (meaning b st₀) p₀ q₀ m₀ ≡ exec s l (turns (more - 1) (last' - (more - 1)) (counter_in w) (input_in w) (state y st.bins) >>= meaning r) c.at.0 c.count mu)
              next b h = let a = begun b h in (a.0, a.1, a.2 ∙ ap (λ (v : Tree State). exec s l v p q m) (once a.0) ∙ ran_on s l (input_in w (state x st.bins)) (λ z. turns (more - 1) (last' - (more - 1)) (counter_in w) (input_in w) z >>= meaning a.0) p q m d (state y st.bins) mu (took.is st.bins) c e)

              by : (n : ℕ) → n ≡ more - 1 → (j : ℕ) → j ≡ cond (eqb n 0) (pc + 1) pc → RowsInv s l t from to p₀ q₀ st₀ m₀ c.at.0 c.count (state y st.bins) mu mem j n last'
              by zero en j ej = rw ej (record {
                past = omega (arith, inv.past);
                within = omega arith;
                fewer = omega arith;
                reads = λ k. absurd (k refl);
                right = inv.right;
                rest = λ b h. let a = next b h in (a.0, a.1, a.2 ∙ ap (λ (v : ℕ). exec s l (turns v (last' - v) (counter_in w) (input_in w) (state y st.bins) >>= meaning a.0) c.at.0 c.count mu) (sym en) ∙ ap (λ (v : Tree State). exec s l v c.at.0 c.count mu) (turn-none (last' - 0) (counter_in w) (input_in w) (state y st.bins) (meaning a.0)));
              })
              by (suc n) en j ej = let ez : j ≡ pc = ej ∙ some n (pc + 1) pc in rw ez (record {
                past = inv.past;
                within = inv.within;
                fewer = omega (arith, more-fewer);
                reads = λ _. rw (← ew) kind;
                right = inv.right;
                rest = λ b h. let a = next b h in (a.0, a.1, a.2 ∙ ap (λ (v : ℕ). exec s l (turns v (last' - v) (counter_in w) (input_in w) (state y st.bins) >>= meaning a.0) c.at.0 c.count mu) (sym en) ∙ ap (λ (v : ℕ). exec s l (turns (suc n) (last' - suc n) (counter_in v) (input_in v) (state y st.bins) >>= meaning a.0) c.at.0 c.count mu) ew);
              })

          pub one-off : (v : Stopped) → d ≡ Err v → (b : Block) → Stands t b from to → outcome (Err v) (state y st.bins) mu ≡ exec s l (meaning b st₀) p₀ q₀ m₀
          one-off v e b h =
              let a = begun b h in
              ran-off s l (input_in w (state x st.bins)) (λ z. turns (more - 1) (last' - (more - 1)) (counter_in w) (input_in w) z >>= meaning a.0) p q m d (state y st.bins) mu (took.is st.bins) v e
              ∙ sym (a.2 ∙ ap (λ (v : Tree State). exec s l v p q m) (once a.0))

      -- other rows
      module _ (kind : 4 ≤ w % 16) where
        idle : left ≡ 0
        idle = by left inv.reads
          where
            by : (n : ℕ) → (¬ (n ≡ 0) → get_or t pc 0 % 16 < 4) → n ≡ 0
            by zero h = refl
            by (suc n) h = absurd (let z : get_or t pc 0 % 16 < 4 = h (λ e. omega arith) in omega (arith, ew))

        rest_at : (b : Block) → Stands t b from to → (r : Block) × Stands t r pc to × (exec s l (meaning b st₀) p₀ q₀ m₀ ≡ exec s l (meaning r st) p q m)
        rest_at b h = by left idle (inv.rest b h)
          where
            by : (n : ℕ) → n ≡ 0 → ((r : Block) × Waits t pc to n r × (exec s l (meaning b st₀) p₀ q₀ m₀ ≡ exec s l (waiting t pc last n r st) p q m)) → (r : Block) × Stands t r pc to × (exec s l (meaning b st₀) p₀ q₀ m₀ ≡ exec s l (meaning r st) p q m)
            by zero e a = a
            by (suc n) e a = absurd (let z : ⊥ = omega arith in z)

        -- what the row comes to
        module _ (o : Move) (eo : step_of (row_of w) p st ≡ o) where
          follows : (b : Block) → Stands t b pc to → Follows t to b pc p st o
          follows b h = subst (λ (x : Move). Follows t to b pc p st x) (ap (λ (x : ℕ). step_of (row_of x) p st) (sym ew) ∙ eo) (step-law t to pc less p st b h)

        -- a place where a block stands
        onto : (p' q' : ℕ) (st' : State) (m' : Room) (mem' : List ℕ) (pc' : ℕ) → Right mem' st'.bins → pc ≤ pc' → pc' ≤ to
            → ((b : Block) → Stands t b from to → (r : Block) × Stands t r pc' to × (exec s l (meaning b st₀) p₀ q₀ m₀ ≡ exec s l (meaning r st') p' q' m'))
            → RowsInv s l t from to p₀ q₀ st₀ m₀ p' q' st' m' mem' pc' left last
        onto p' q' st' m' mem' pc' hr h k f = rw idle (record {
          past = omega (arith, inv.past);
          within = k;
          fewer = omega arith;
          reads = λ ne. absurd (ne refl);
          right = hr;
          rest = f;
        })

        -- the mantissas, or a set of exponents
        module _ (low : w % 16 % 15 < 8) (d : Progress) (su : State) (mu : Room) (memu : List ℕ) (gathers : Gathers s l w st p q m d su mu memu) where
          pub rows-gather : (c : Cursor) → d ≡ Ok c → RowsInv s l t from to p₀ q₀ st₀ m₀ c.at.0 c.count su mu memu (pc + 1) left last
          rows-gather c e = onto c.at.0 c.count su mu memu (pc + 1) gathers.right (omega arith) (omega arith) (λ b h.
              let a = rest_at b h in
              let f = follows (runs (inner w st)) (inner-step w p st kind low) a.0 a.1 in
              (f.0, f.1, a.2 ∙ ap (λ (y : Tree State). exec s l y p q m) f.2 ∙ ran_on s l (inner w st) (meaning f.0) p q m d su mu gathers.is c e))

          pub gather-off : (v : Stopped) → d ≡ Err v → (b : Block) → Stands t b from to → outcome (Err v) su mu ≡ exec s l (meaning b st₀) p₀ q₀ m₀
          gather-off v e b h =
              let a = rest_at b h in
              let f = follows (runs (inner w st)) (inner-step w p st kind low) a.0 a.1 in
              ran-off s l (inner w st) (meaning f.0) p q m d su mu gathers.is v e ∙ sym (a.2 ∙ ap (λ (y : Tree State). exec s l y p q m) f.2)

        -- a condition
        pub rows-when : w % 16 / 2 ≡ 4 → (k : ℕ) → k ≡ skip_of w st.cells → (b₀ : Block) → Stands t b₀ from to → RowsInv s l t from to p₀ q₀ st₀ m₀ p q st m mem (pc + (1 + k)) left last
        unfolding row_of step_of skip_of
        rows-when is k ek b₀ h₀ =
            let e : step_of (row_of w) p st ≡ go k = (rw (le-ltb (w % 16) 3 (omega arith), le-ltb (w % 16) 8 (omega arith), lt-ltb (w % 16) 10 (omega arith)) (ap go (sym ek))) in
            let f = follows (go k) e (rest_at b₀ h₀).0 (rest_at b₀ h₀).1 in
            onto p q st m mem (pc + (1 + k)) inv.right (omega arith) (omega (arith, f.1.ends)) (λ b h.
            let a = rest_at b h in
            let g = follows (go k) e a.0 a.1 in
            let z : pc + 1 + k ≡ pc + (1 + k) = omega arith in
            (g.0, subst (λ (x : ℕ). Stands t g.0 x to) z g.1, a.2 ∙ ap (λ (y : Tree State). exec s l y p q m) g.2))

        -- a value, a fill, a refusal, a derivation or a comparison
        module _ (k : ℕ) (su : State) (memu : List ℕ) (dealt : Dealt w p st k su) (hr : Right memu su.bins) where
          pub rows-deal : k ≡ 0 → RowsInv s l t from to p₀ q₀ st₀ m₀ p q su m memu (pc + 1) left last
          unfolding ◌>>=◌
          rows-deal e = onto p q su m memu (pc + 1) hr (omega arith) (omega arith) (λ b h.
              let a = rest_at b h in
              let f = follows (deals (dealing k (stop_in w) su)) dealt.is a.0 a.1 in
              (f.0, f.1, a.2 ∙ f.2 s l q m ∙ ap (λ (x : ℕ). exec s l (dealt_of (dealing x (stop_in w) su) p >>= meaning f.0) p q m) e))

          pub deal-off : ¬ (k ≡ 0) → (z : ℕ) → z ≡ p + (cell_of su.cells (stop_in w) - p) → (b : Block) → Stands t b from to → got (refused k) z q m ≡ exec s l (meaning b st₀) p₀ q₀ m₀
          unfolding ◌>>=◌ exec
          deal-off ne z ez b h =
              let a = rest_at b h in
              let f = follows (deals (dealing k (stop_in w) su)) dealt.is a.0 a.1 in
              let x : exec s l (dealt_of (dealing k (stop_in w) su) p >>= meaning f.0) p q m ≡ got (refused k) (p + (cell_of su.cells (stop_in w) - p)) q m = (rw (ne_eqb k 0 ne) refl) in
              let y : got (refused k) z q m ≡ got (refused k) (p + (cell_of su.cells (stop_in w) - p)) q m = rw ez refl in
              y ∙ sym (a.2 ∙ f.2 s l q m ∙ x)

        -- a loop
        module _ (lo : 8 ≤ w % 16 % 15) (hi : 14 ≤ w % 16) (x : Loop) (ex : x ≡ loop_in w st.cells) where
          loop-step : step_of (row_of w) p st ≡ loops x.from x.to x.counter x.rows
          unfolding row_of step_of
          loop-step =
              let is : w % 16 ≡ 14 = omega arith in
              rw (ex, is) refl

          looped : (b : Block) → (h : Stands t b from to) → Follows t to (rest_at b h).0 pc p st (loops x.from x.to x.counter x.rows)
          looped b h = follows (loops x.from x.to x.counter x.rows) loop-step (rest_at b h).0 (rest_at b h).1

          pub loop-within : (b : Block) → Stands t b from to → pc + 1 + x.rows ≤ to
          loop-within b h = omega (arith, (looped b h).3.ends)

          pub loop-stand : (bins₁ : Bins) (mem₁ : List ℕ) → Stand s l t bins₁ mem₁ from to → Stand s l t st.bins mem (pc + 1) (pc + 1 + x.rows)
          loop-stand bins₁ mem₁ h = record { what = (looped h.what h.stands).0; stands = (looped h.what h.stands).2; table = h.table; within = h.within; right = inv.right }

          module _ (d : Progress) (su : State) (mu : Room) (memu : List ℕ) (turned : Turned s l t (pc + 1) (pc + 1 + x.rows) x.from x.to x.counter p q st m d su mu memu) where
            pub rows-each : (c : Cursor) → d ≡ Ok c → (b₀ : Block) → Stands t b₀ from to → RowsInv s l t from to p₀ q₀ st₀ m₀ c.at.0 c.count su mu memu (pc + 1 + x.rows) left last
            rows-each c e b₀ h₀ = onto c.at.0 c.count su mu memu (pc + 1 + x.rows) turned.right (omega arith) (loop-within b₀ h₀) (λ b h.
                let a = rest_at b h in
                let f = looped b h in
                (f.1, f.3, a.2 ∙ ap (λ (y : Tree State). exec s l y p q m) f.4 ∙ ran_on s l (turns (x.to - x.from) x.from x.counter (meaning f.0) st) (meaning f.1) p q m d su mu (turned.runs f.0 f.2) c e))

            pub each-off : (v : Stopped) → d ≡ Err v → (b : Block) → Stands t b from to → outcome (Err v) su mu ≡ exec s l (meaning b st₀) p₀ q₀ m₀
            each-off v e b h =
                let a = rest_at b h in
                let f = looped b h in
                ran-off s l (turns (x.to - x.from) x.from x.counter (meaning f.0) st) (meaning f.1) p q m d su mu (turned.runs f.0 f.2) v e
                ∙ sym (a.2 ∙ ap (λ (y : Tree State). exec s l y p q m) f.4)

-- the loop over the turns, at j
abbrev turning : List ℕ → ℕ → ℕ → ℕ → ℕ → Block → State → ℕ → ℕ → Room → Out State
turning s l n j k b st p q m = exec s l (turns (n - j) j k (meaning b) st) p q m

turns_more : (s : List ℕ) (l n j k : ℕ) (b : Block) (st : State) (p q : ℕ) (m : Room) → j < n
    → turning s l n j k b st p q m ≡ exec s l (meaning b (stored st k j) >>= turns (n - (j + 1)) (j + 1) k (meaning b)) p q m
unfolding turns
turns_more s l n j k b st p q m h = let e : n - j ≡ suc (n - (j + 1)) = omega arith in rw (e, add-one) refl

pub record EachInv (s : List ℕ) (l : ℕ) (t : List ℕ) (from to i n k p₀ q₀ : ℕ) (st₀ : State) (m₀ : Room) (p q : ℕ) (st : State) (m : Room) (mem : List ℕ) (j : ℕ) : Type 0 where
  pub right : Right mem st.bins
  pub rest : (b : Block) → Stands t b from to → turning s l n i k b st₀ p₀ q₀ m₀ ≡ turning s l n j k b st p q m

module _ (s : List ℕ) (l : ℕ) (t : List ℕ) (from to i n k p₀ q₀ : ℕ) (st₀ : State) (m₀ : Room) where
  pub turns-start : (mem : List ℕ) → Right mem st₀.bins → EachInv s l t from to i n k p₀ q₀ st₀ m₀ p₀ q₀ st₀ m₀ mem i
  turns-start mem h = record { right = h; rest = λ b p. refl }

  module _ (p q : ℕ) (st : State) (m : Room) (mem : List ℕ) (j : ℕ) (inv : EachInv s l t from to i n k p₀ q₀ st₀ m₀ p q st m mem j) where
    pub turns-end : n ≤ j → (c : Cursor) → c.at.0 ≡ p → c.count ≡ q → Turned s l t from to i n k p₀ q₀ st₀ m₀ (Ok c) st m mem
    unfolding turns exec
    turns-end h c ep eq = record {
      right = inv.right;
      runs = λ b g.
          let e : n - j ≡ 0 = omega arith in
          let z : turning s l n j k b st p q m ≡ got (accepted st) p q m = rw e refl in
          let y : outcome (Ok c) st m ≡ got (accepted st) p q m = rw (ep, eq) refl in
          y ∙ sym (inv.rest b g ∙ z);
    }

    module _ (less : j < n) (x : List ℕ) (ex : x ≡ put_in st.cells k j) where
      turned : (b : Block) → Stands t b from to → turning s l n i k b st₀ p₀ q₀ m₀ ≡ (exec s l (meaning b (state x st.bins)) p q m then turning s l n (j + 1) k b)
      turned b h = inv.rest b h ∙ turns_more s l n j k b st p q m less ∙ exec-bind s l (meaning b (stored st k j)) (turns (n - (j + 1)) (j + 1) k (meaning b)) p q m
          ∙ ap (λ (y : List ℕ). exec s l (meaning b (state y st.bins)) p q m then turning s l n (j + 1) k b) (sym ex)

      -- a turn that was run to its end, and one that was refused
      pub turns-on : (p' q' : ℕ) (st' : State) (m' : Room) (mem' : List ℕ) (pc left last : ℕ) → RowsInv s l t from to p q (state x st.bins) m p' q' st' m' mem' pc left last → to ≤ pc
          → EachInv s l t from to i n k p₀ q₀ st₀ m₀ p' q' st' m' mem' (j + 1)
      unfolding go_on
      turns-on p' q' st' m' mem' pc left last rows h = record {
        right = rows.right;
        rest = λ b g. turned b g ∙ ap (λ (o : Out State). o then turning s l n (j + 1) k b) (rows_end s l t from to p q (state x st.bins) m p' q' st' m' mem' pc left last rows h b g);
      }

      pub turns-off : (v : Stopped) (su : State) (mu : Room) (memu : List ℕ) → Right memu su.bins → ((b : Block) → Stands t b from to → outcome (Err v) su mu ≡ exec s l (meaning b (state x st.bins)) p q m)
          → Turned s l t from to i n k p₀ q₀ st₀ m₀ (Err v) su mu memu
      unfolding go_on
      turns-off v su mu memu hr f = record {
        right = hr;
        runs = λ b g. sym (turned b g ∙ ap (λ (o : Out State). o then turning s l n (j + 1) k b) (sym (f b g)));
      }

-- numbers of the loops
module _ {s : List ℕ} {l : ℕ} {t : List ℕ} {b : Bins} {mem : List ℕ} {from to : ℕ} (h : Stand s l t b mem from to) where
  pub stand-end : to ≤ 1023
  stand-end = omega (arith, h.stands.room, length-map t row_of, h.table.sized)

  pub stand-within : from ≤ to
  stand-within = omega (arith, h.stands.ends)

  pub stand-inside : (pc : ℕ) → pc < to → pc < length t
  stand-inside pc less = omega (arith, h.stands.room, length-map t row_of)

  pub stand-ready : (pc : ℕ) → pc < to → (w : ℕ) → w ≡ get_or t pc 0 → Wide s l w
  stand-ready pc less w ew = record { narrow = narrow-width w (rw ew (narrow_at t pc (stand-inside pc less) h.table.narrows)); within = h.within }

  pub stand-opens : (mem' : List ℕ) (bins' : Bins) → Right mem' bins' → (w : ℕ) → 4 ≤ w % 16 → Opens s l w mem' bins'
  stand-opens mem' bins' hr w k = record { kind = k; within = h.within; right = hr }

-- one turn, with no counter
pub turned-once : {s : List ℕ} {l : ℕ} {t : List ℕ} {from to p q : ℕ} {st : State} {m : Room} {d : Progress} {su : State} {mu : Room} {mem : List ℕ} → Turned s l t from to 0 1 0 p q st m d su mu mem
    → (b : Block) → Stands t b from to → outcome d su mu ≡ exec s l (meaning b st) p q m
turned-once {s} {l} {p} {q} {st} {m} h b k = h.runs b k ∙ ap (λ (u : Tree State). exec s l u p q m) (one-turn (meaning b) st)
