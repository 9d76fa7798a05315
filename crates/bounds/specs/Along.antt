-- What holds wherever a reading comes: of each item that it comes to, with the state and the bit place then, and the records so far.
use Rattle.std.specs.Prelude.{◌≡◌, true, List, [], ◌∷◌, ◌++◌, ◌⊎◌, ℕ, zero, suc, ◌-◌}
use Rattle.reading.specs.Tree.{Tree}
use Rattle.reading.specs.Run.{Entry, accepted, run}
use Rattle.cells.specs.Cells.{State, cell_of, stored, sum_of}
use Rattle.rows.specs.Syntax.{Item, Block, element, elements, span, mantissas, exponents, when, each, reject, reject_at, put, fill, derive, end, ◌⨾◌, holds_of, count_of, one, item, meaning}

-- what holds of a state, a place and the records so far
abbrev pub Point : Type 1
Point = State → ℕ → List Entry → Type 0

-- a record is among the records; one of this name is
abbrev pub Among : Entry → List Entry → Type 0
Among e [] = ⊥
Among e (x ∷ xs) = (x ≡ e) ⊎ Among e xs

abbrev pub Has : ℕ → List Entry → Type 0
Has n [] = ⊥
Has n (e ∷ es) = (e.field.name ≡ n) ⊎ Has n es

module _ (s : List ℕ) (l : ℕ) where
  -- what holds after a tree, from the place p and after the records es, where the tree is accepted
  abbrev pub Then : Tree State → ℕ → List Entry → Point → Type 0
  Then t p es R = (a : State) → (run t s p l).result ≡ accepted a → R a (run t s p l).place (es ++ (run t s p l).records)

  -- A of each of n turns from the number i on, which stands in the cell k meanwhile
  unfoldable pub Turning : Point → (State → Tree State) → ℕ → ℕ → ℕ → State → ℕ → List Entry → Type 0
  Turning A f zero i k st p es = Unit {0}
  Turning A f (suc n) i k st p es = A (stored st k i) p es × Then (f (stored st k i)) p es (λ a q fs. Turning A f n (suc i) k a q fs)

  module _ (Q : Item → Point) where
    unfoldable mutual
      -- inside an item: of each turn of repeated elements, and of a block
      pub Inside : Item → State → ℕ → List Entry → Type 0
      Inside (element name i w a) st p es = Unit {0}
      Inside (elements name i w a k f n) st p es = Turning (λ x q fs. Q (element name i w a) x q fs) (one name i w a) (cell_of st.cells n - f) f k st p es
      Inside (span name k) st p es = Unit {0}
      Inside (mantissas name a) st p es = Unit {0}
      Inside (exponents x name i) st p es = Unit {0}
      Inside (when c b) st p es = holds_of c st.cells ≡ true → Along b st p es
      Inside (each k i n b) st p es =
          Turning (λ a q fs. Along b a q fs) (λ a. meaning b a) (count_of n st.cells - sum_of i st.cells) (sum_of i st.cells) k st p es
      Inside (reject c n) st p es = Unit {0}
      Inside (reject_at c n k) st p es = Unit {0}
      Inside (put a v) st p es = Unit {0}
      Inside (fill k n x y a) st p es = Unit {0}
      Inside (derive k) st p es = Unit {0}

      pub Along : Block → State → ℕ → List Entry → Type 0
      Along end st p es = Unit {0}
      Along (i ⨾ b) st p es = Q i st p es × Inside i st p es × Then (item i st) p es (λ a q fs. Along b a q fs)
