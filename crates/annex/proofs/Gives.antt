-- What an accepted run of a tree gives, and of items one after another. Assumes nothing.
use mathlib.Core.Path.{◌≡◌, refl, sym, subst}
use mathlib.Core.List.{List}
use Prim.Native.Nat.{ℕ, ◌+◌}
use native.Mathlib.Omega.{arith}
use lib.Dec.{leb}
use Rattle.reading.proofs.Laws.{test, choice}
use Rattle.bits.specs.Bits.{bits_at}
use Rattle.reading.specs.Tree.{Tree, ◌>>=◌}
use Rattle.reading.specs.Run.{Result, accepted, refused, Outcome, and_then, after, run}
use Rattle.reading.proofs.Runs.{run_bind}
use Rattle.cells.specs.Cells.{State, Addr, Sum, place_of, stored}
use Rattle.rows.specs.Syntax.{Cond, holds_of, Item, Block, end, ◌⨾◌, element, reject, item, meaning}

module _ (b : List ℕ) (l : ℕ) where
  -- where the tree is accepted from the place p, what it gives and the place that it comes to have Q
  pub record Gives {A : Type 0} (t : Tree A) (p : ℕ) (Q : A → ℕ → Type 0) : Type 0 where
    pub gives : (a : A) → (run t b p l).result ≡ accepted a → Q a (run t b p l).place

  pub gives-bind : {A B : Type 0} (t : Tree A) (f : A → Tree B) (p : ℕ) {R : A → ℕ → Type 0} {Q : B → ℕ → Type 0}
      → Gives t p R → ((a : A) (q : ℕ) → R a q → Gives (f a) q Q) → Gives (t >>= f) p Q
  unfolding after
  gives-bind {A} {B} t f p {R} {Q} g k = record { gives = rw (run_bind t f b p l) (go O.result refl) }
    where
      O : Outcome A
      O = run t b p l

      F : A → ℕ → Outcome B
      F a q = run (f a) b q l

      go : (r : Result A) → O.result ≡ r → (c : B) → (and_then r O.place O.records F).result ≡ accepted c → Q c (and_then r O.place O.records F).place
      go (accepted a) e c h = (k a O.place (g.gives a e)).gives c h
      go (refused n) e c h = absurd (let z : ◌≡◌ {A = ℕ} 0 1 = cc in omega arith)

  -- an item gives one state, at one place
  abbrev pub One : State → ℕ → State → ℕ → Type 0
  One st p h e = (h ≡ st) × (e ≡ p)

  pub gives-element : (name : ℕ) (i : Sum) (w : ℕ) (a : Addr) (st : State) (p : ℕ)
      → Gives (item (element name i w a) st) p (One (stored st (place_of a st.cells) (bits_at b p w)) (p + w))
  unfolding item run
  gives-element name i w a st p =
      record {
        gives = test (λ o. (h : State) → o.result ≡ accepted h → One (stored st (place_of a st.cells) (bits_at b p w)) (p + w) h o.place) (leb (p + w) l)
            (λ _ h e. ((let z : stored st (place_of a st.cells) (bits_at b p w) ≡ h = cc in sym z), refl))
            (λ _ h e. absurd (let z : ◌≡◌ {A = ℕ} 0 1 = cc in omega arith));
      }

  pub gives-reject : (c : Cond) (n : ℕ) (st : State) (p : ℕ) → Gives (item (reject c n) st) p (One st p)
  unfolding item run
  gives-reject c n st p =
      record {
        gives = choice (λ t. (h : State) → (run t b p l).result ≡ accepted h → One st p h (run t b p l).place) (holds_of c st.cells)
            (λ _ h e. absurd (let z : ◌≡◌ {A = ℕ} 0 1 = cc in omega arith))
            (λ _ h e. ((let z : st ≡ h = cc in sym z), refl));
      }

  -- an item that gives one state, and the items after it
  pub gives-next : (i : Item) (c : Block) (st next : State) (p q : ℕ) {Q : State → ℕ → Type 0}
      → Gives (item i st) p (One next q) → Gives (meaning c next) q Q → Gives (meaning (i ⨾ c) st) p Q
  unfolding meaning
  gives-next i c st next p q g k = gives-bind (item i st) (λ x. meaning c x) p g (λ a e r. rw (r.0, r.1) k)

  pub gives-end : (st : State) (p : ℕ) (Q : State → ℕ → Type 0) → Q st p → Gives (meaning end st) p Q
  unfolding meaning run
  gives-end st p Q h = record { gives = λ a e. let z : st ≡ a = cc in subst (λ x. Q x p) z h }
