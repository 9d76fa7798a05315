-- Names that are kept nowhere steer nothing, of every syntax: items that keep no element with a name of a set, and have no span with such a name, mean trees that look
-- at no value of the set. Assumes nothing.
use mathlib.Core.Path.{◌≡◌, ap, sym, ◌∙◌}
use mathlib.Core.Bool.{Bool, true, false, not, ◌&&◌, ◌||◌, true≢false}
use mathlib.Core.List.{List}
use Prim.Native.Nat.{ℕ, zero, suc, ◌-◌}
use native.Mathlib.Omega.{arith}
use lib.Dec.{eqb}
use borrow.Author.Tests.{eqb-true, not-true}
use Rattle.reading.specs.Tree.{Part, Tree, done, refuse, ahead}
use Rattle.std.specs.Prelude.{Ok, Err}
use Rattle.exponents.specs.Exponents.{Group, decode_of}
use Rattle.exponents.specs.Set.{on_group, groups_from, set_of}
use Rattle.cells.specs.Cells.{State, Addr, Sum, cell_of, stored, place_of, sum_of}
use Rattle.derivations.specs.Sets.{exponents_of}
use Rattle.derivations.specs.Derivations.{derived}
use Rattle.rows.specs.Unkept.{nowhere, unkept_item, unkept}
use Rattle.rows.specs.Syntax.{Item, Block, element, elements, span, mantissas, exponents, when, each, reject, reject_at, put, fill, derive, end, ◌⨾◌, holds_of, count_of, turns, one, item, meaning}
use Rattle.bounds.proofs.Cells.{cell-zero, put-zero}
use Rattle.bounds.proofs.Bounds.{both}
use Rattle.steers.specs.Blind.{Blind}
use Rattle.steers.proofs.Blinds.{blind-bind, blind-choice}

place-nowhere : (a : Addr) (m : List ℕ) → nowhere a ≡ true → place_of a m ≡ 0
place-nowhere a m h =
    let t = both (eqb a.base 0) (eqb a.by 0 && eqb a.row 0) h in
    let u = both (eqb a.by 0) (eqb a.row 0) t.1 in
    let b = eqb-true a.base 0 t.0 in
    let i : cell_of m a.by ≡ 0 = ap (cell_of m) (eqb-true a.by 0 u.0) ∙ cell-zero m in
    let r : cell_of m a.row ≡ 0 = ap (cell_of m) (eqb-true a.row 0 u.1) ∙ cell-zero m in
    omega arith

stored-nowhere : (a : Addr) (st : State) (v : ℕ) → nowhere a ≡ true → stored st (place_of a st.cells) v ≡ st
stored-nowhere a st v h =
    ap (λ k. stored st k v) (place-nowhere a st.cells h) ∙ ap (λ m. record { cells = m; bins = st.bins }) (put-zero st.cells v)

or_else : (x y : Bool) → (not x || y) ≡ true → x ≡ true → y ≡ true
or_else true y h e = h
or_else false y h e = absurd (true≢false (sym e))

module _ (N : ℕ → Bool) where
  blind-one : (name : ℕ) (i : Sum) (w : ℕ) (a : Addr) → (not (N name) || nowhere a) ≡ true → (st : State) → Blind N (one name i w a st)
  blind-one name i w a h st =
      (λ e u v. ap done (stored-nowhere a st u (or_else (N name) (nowhere a) h e) ∙ sym (stored-nowhere a st v (or_else (N name) (nowhere a) h e))), λ v. tt)

  -- a set of exponents
  blind-groups : (q : Part) → N q.name ≡ false → (slot size n bin prev : ℕ) (exps : List ℕ) → Blind N (groups_from q slot size n bin prev exps)
  unfolding groups_from
  blind-groups q o slot size zero bin prev exps = tt
  blind-groups q o slot size (suc n) bin prev exps =
      (λ e. absurd (true≢false (sym e ∙ o)), λ grp. go (decode_of prev grp) _ (λ a b c. blind-groups q o slot size n _ c _))
    where
      go : (g : Group) (f : ℕ → ℕ → ℕ → Tree (List ℕ)) → ((a b c : ℕ) → Blind N (f a b c)) → Blind N (on_group g f)
      go (Err k) f h = tt
      go (Ok (a, b, c)) f h = h a b c

  blind-exponents : (q : Part) → N q.name ≡ false → (slot : ℕ) (st : State) → Blind N (exponents_of q slot st)
  unfolding exponents_of set_of
  blind-exponents q o slot st = blind-bind N (groups_from _ _ _ _ _ _ _) _ (blind-groups q o _ _ _ _ _ _) (λ b. tt)

  blind-turns : (n i k : ℕ) (f : State → Tree State) → ((st : State) → Blind N (f st)) → (st : State) → Blind N (turns n i k f st)
  unfolding turns
  blind-turns zero i k f h st = tt
  blind-turns (suc n) i k f h st = blind-bind N (f (stored st k i)) (turns n (suc i) k f) (h (stored st k i)) (blind-turns n (suc i) k f h)

  mutual
    unfolding item unkept

    blind-item : (i : Item) → unkept_item N i ≡ true → (st : State) → Blind N (item i st)
    blind-item (element name i w a) h st = blind-one name i w a h st
    blind-item (elements name i w a k f n) h st = blind-turns (cell_of st.cells n - f) f k (one name i w a) (blind-one name i w a h) st
    blind-item (span name k) h st = (not-true (N name) h, tt)
    blind-item (mantissas name a) h st = (not-true (N name) h, λ v. tt)
    blind-item (exponents s name i) h st = blind-exponents _ (not-true (N name) h) _ st
    blind-item (when c b) h st = blind-choice N (holds_of c st.cells) (meaning b st) (done st) (blind-block b h st) tt
    blind-item (each k i n b) h st =
        blind-turns (count_of n st.cells - sum_of i st.cells) (sum_of i st.cells) k (λ x. meaning b x) (λ x. blind-block b h x) st
    blind-item (reject c n) h st = blind-choice N (holds_of c st.cells) (refuse n) (done st) tt tt
    blind-item (reject_at c n k) h st = λ p. blind-choice N (holds_of c st.cells) (ahead n (cell_of st.cells k - p)) (done st) tt tt
    blind-item (put a v) h st = λ p. tt
    blind-item (fill k n x y a) h st = tt
    blind-item (derive k) h st = blind-choice N (eqb (derived k st).number 0) (done (derived k st).st) (refuse (derived k st).number) tt tt

    pub blind-block : (b : Block) → unkept N b ≡ true → (st : State) → Blind N (meaning b st)
    blind-block end h st = tt
    blind-block (i ⨾ b) h st =
        let t = both (unkept_item N i) (unkept N b) h in
        blind-bind N (item i st) (λ x. meaning b x) (blind-item i t.0 st) (λ x. blind-block b t.1 x)
