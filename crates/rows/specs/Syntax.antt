-- A bitstream syntax as nested items, and the tree that it means: what is read next, given what was read so far.
-- What an element says is stored in a cell, where it steers the rest.
use Rattle.std.specs.Prelude.{ℕ, zero, suc, ◌+◌, ◌-◌, ◌*◌, ◌%◌, Bool, false, cond, not, ◌||◌, List, [], ◌∷◌, eqb, ltb, leb}
use Rattle.reading.specs.Tree.{Tree, done, refuse, ahead, here, read, span as spanned, scan, ◌>>=◌}
use Rattle.cells.specs.Cells.{State, state, Addr, Sum, addr, sum, cell_of, put_in, place_of, held_of, sum_of, stored, stored_all, part_of}
use Rattle.derivations.specs.Acted.{Acted}
use Rattle.derivations.specs.Derivations.{derived}
use Rattle.derivations.specs.Sets.{exponents_of}
use Rattle.derivations.specs.Mantissas.{mantissas_in}

-- a number: that of a cell, or a fixed one
pub data Number : Type 0 where
  Cell : Addr → Number
  Word : ℕ → Number

abbrev pub number_of : Number → List ℕ → ℕ
number_of (Cell a) m = held_of a m
number_of (Word n) m = n

-- a condition: a cell holds a number, another one, one above it, one below it, or one of some; or it differs from, is over, under, or at least another number
pub data Cond : Type 0 where
  Is : Addr → ℕ → Cond
  Not : Addr → ℕ → Cond
  Above : Addr → ℕ → Cond
  Below : Addr → ℕ → Cond
  Among : Addr → List ℕ → Cond
  Differs : Addr → Number → Cond
  Over : Addr → Number → Cond
  Under : Addr → Number → Cond
  AtLeast : Addr → Number → Cond

unfoldable pub among : List ℕ → ℕ → Bool
among [] v = false
among (x ∷ xs) v = eqb v x || among xs v

abbrev pub holds_of : Cond → List ℕ → Bool
holds_of (Is a x) m = eqb (held_of a m) x
holds_of (Not a x) m = not (eqb (held_of a m) x)
holds_of (Above a x) m = ltb x (held_of a m)
holds_of (Below a x) m = ltb (held_of a m) x
holds_of (Among a xs) m = among xs (held_of a m)
holds_of (Differs a n) m = not (eqb (held_of a m) (number_of n m))
holds_of (Over a n) m = ltb (number_of n m) (held_of a m)
holds_of (Under a n) m = ltb (held_of a m) (number_of n m)
holds_of (AtLeast a n) m = leb (number_of n m) (held_of a m)

-- what is put into a cell: the present bit place; x + y a; y a - x; a + b; a - b. A difference below 0 is 0
pub data Value : Type 0 where
  Here : Value
  Let : ℕ → ℕ → Addr → Value
  Less : ℕ → ℕ → Addr → Value
  Plus : Addr → ℕ → Value
  Minus : Addr → ℕ → Value

abbrev pub amount_of : Value → ℕ → List ℕ → ℕ
amount_of Here p m = p
amount_of (Let x y a) p m = x + y * held_of a m
amount_of (Less x y a) p m = y * held_of a m - x
amount_of (Plus a k) p m = held_of a m + cell_of m k
amount_of (Minus a k) p m = held_of a m - cell_of m k

-- up to where a loop counts
pub data Count : Type 0 where
  Fixed : ℕ → Count
  Held : Addr → Count

abbrev pub count_of : Count → List ℕ → ℕ
count_of (Fixed n) m = n
count_of (Held a) m = held_of a m

infixr 20 ◌⨾◌
mutual
  pub data Item : Type 0 where
    -- an element: its name, its index, its width, and the cell that keeps its value
    element : ℕ → Sum → ℕ → Addr → Item
    -- the same for each number of a counter, from 0 or 1 up to that in a cell
    elements : ℕ → Sum → ℕ → Addr → ℕ → ℕ → ℕ → Item
    -- bits that are not looked at: the name, and the cell of the width
    span : ℕ → ℕ → Item
    -- the mantissas of the block: the name, and the first of the cells that keep what their walk tells
    mantissas : ℕ → Addr → Item
    -- a set of exponents: the slot, and the name and the index of its groups
    exponents : Sum → ℕ → Sum → Item
    -- the items, if the condition holds
    when : Cond → Block → Item
    -- the items for each number from one up to another, while this counter holds the number
    each : ℕ → Sum → Count → Block → Item
    -- a refusal with this number, if the condition holds; the same, at the place that a cell holds
    reject : Cond → ℕ → Item
    reject_at : Cond → ℕ → ℕ → Item
    -- a value put into a cell; into so many cells from one on
    put : Addr → Value → Item
    fill : ℕ → ℕ → ℕ → ℕ → Addr → Item
    -- a derivation
    derive : ℕ → Item

  pub data Block : Type 0 where
    end : Block
    ◌⨾◌ : Item → Block → Block

-- one block after another
infixr 15 ◌⧺◌
unfoldable pub ◌⧺◌ : Block → Block → Block
end ⧺ c = c
(i ⨾ b) ⧺ c = i ⨾ (b ⧺ c)

-- a cell; the cell of an array that a counter picks; in an array of rows of eight, by two counters; stored nowhere
abbrev pub cell : ℕ → Addr
cell k = addr k 0 0

abbrev pub at : ℕ → ℕ → Addr
at k by = addr k by 0

abbrev pub at2 : ℕ → ℕ → ℕ → Addr
at2 k by row = addr k by row

abbrev pub no : Addr
no = addr 0 0 0

-- no index; a fixed index; a counter's value
abbrev pub none : Sum
none = sum 0 0

abbrev pub nth : ℕ → Sum
nth n = sum (n + 1) 0

abbrev pub by : ℕ → Sum
by k = sum 1 k

-- where a loop begins: at a number; after a cell's value. A slot: fixed, or a channel's
abbrev pub from : ℕ → Sum
from n = sum n 0

abbrev pub after : ℕ → Sum
after k = sum 1 k

abbrev pub slot : ℕ → Sum
slot n = sum n 0

abbrev pub slot_of : ℕ → Sum
slot_of k = sum 0 k

-- up to the number in a cell; the number in a cell; a fixed number
abbrev pub upto : ℕ → Count
upto k = Held (cell k)

abbrev pub held : ℕ → Number
held k = Cell (cell k)

abbrev pub number : ℕ → Value
number n = Let n 0 no

abbrev pub copy : Addr → Value
copy a = Let 0 1 a

-- a tree once for each of n numbers from i on, which stands in the cell k meanwhile
unfoldable pub turns : ℕ → ℕ → ℕ → (State → Tree State) → State → Tree State
turns zero i k f st = done st
turns (suc n) i k f st = f (stored st k i) >>= turns n (suc i) k f

-- a value put into n cells from k on
unfoldable pub filled : ℕ → ℕ → ℕ → List ℕ → List ℕ
filled zero k v m = m
filled (suc n) k v m = put_in (filled n k v m) (k + n) v

-- a derivation's end
abbrev pub ended : Acted → Tree State
ended a = cond (eqb a.number 0) (done a.st) (refuse a.number)

-- one element
abbrev pub one : ℕ → Sum → ℕ → Addr → State → Tree State
one name i w a st = read (part_of name i st.cells) w (λ v. done (stored st (place_of a st.cells) v))

unfoldable mutual
  pub item : Item → State → Tree State
  item (element name i w a) st = one name i w a st
  item (elements name i w a k f n) st = turns (cell_of st.cells n - f) f k (one name i w a) st
  item (span name k) st = spanned (part_of name none st.cells) (cell_of st.cells k) (done st)
  item (mantissas name a) st = scan (part_of name none st.cells) (mantissas_in st) (λ told. done (stored_all st (place_of a st.cells) told))
  item (exponents s name i) st = exponents_of (part_of name i st.cells) (sum_of s st.cells % 256) st
  item (when c b) st = cond (holds_of c st.cells) (meaning b st) (done st)
  item (each k i n b) st = turns (count_of n st.cells - sum_of i st.cells) (sum_of i st.cells) k (λ x. meaning b x) st
  item (reject c n) st = cond (holds_of c st.cells) (refuse n) (done st)
  item (reject_at c n k) st = here (λ p. cond (holds_of c st.cells) (ahead n (cell_of st.cells k - p)) (done st))
  item (put a v) st = here (λ p. done (stored st (place_of a st.cells) (amount_of v p st.cells)))
  item (fill k n x y a) st = done (state (filled n k (x + y * held_of a st.cells) st.cells) st.bins)
  item (derive k) st = ended (derived k st)

  pub meaning : Block → State → Tree State
  meaning end st = done st
  meaning (i ⨾ b) st = item i st >>= (λ x. meaning b x)
