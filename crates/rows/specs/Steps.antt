-- What one row comes to.
use Rattle.std.specs.Prelude.{ℕ, ◌+◌, ◌-◌, ◌*◌, ◌%◌, cond, ◌≡◌, ltb, eqb, Result, Ok, Err}
use Rattle.refusals.specs.declared.Refusal.{Refusal}
use Rattle.refusals.specs.Refusals.{number_of as refusal_number}
use Rattle.reading.specs.Tree.{Tree, done, ahead, span as spanned, scan}
use Rattle.cells.specs.Cells.{State, state, Addr, Sum, cell_of, place_of, held_of, sum_of, stored, stored_all, part_of}
use Rattle.derivations.specs.Derivations.{derived}
use Rattle.derivations.specs.Sets.{exponents_of}
use Rattle.derivations.specs.Mantissas.{mantissas_in}
use Rattle.rows.specs.Syntax.{number_of, amount_of, count_of, turns, filled, one}
use Rattle.rows.specs.Rows.{Row, Elements, Span, Mantissas, Exponents, When, Refuse, Compare, Each, Put, Fill, Do, masked, compares, name_in, index_in, width_in, keep_in, region_in, slot_in, stop_in, row_of}

-- what a row that reads nothing comes to: 0, or the number of a refusal and the cell of its place; and the state then
pub record Dealing : Type 0 where
  pub number : ℕ
  pub stop : ℕ
  pub st : State

abbrev pub dealing : ℕ → ℕ → State → Dealing
dealing n k st = record { number = n; stop = k; st = st }

-- at the place p
abbrev pub dealt_of : Dealing → ℕ → Tree State
dealt_of d p = cond (eqb d.number 0) (done d.st) (ahead d.number (cell_of d.st.cells d.stop - p))

-- a tree to run; to pass so many rows; a row that reads nothing; to run so many rows from one number up to another, which stands in a cell
pub data Move : Type 0 where
  runs : Tree State → Move
  go : ℕ → Move
  deals : Dealing → Move
  loops : ℕ → ℕ → ℕ → ℕ → Move

-- bits that are not looked at; the mantissas
abbrev pub region : ℕ → Sum → Addr → ℕ → State → Tree State
region name i a k st = spanned (part_of name i st.cells) (cell_of st.cells k) (done (stored st (place_of a st.cells) 0))

abbrev pub walked : ℕ → Sum → Addr → State → Tree State
walked name i a st = scan (part_of name i st.cells) (mantissas_in st) (λ told. done (stored_all st (place_of a st.cells) told))

unfoldable pub step_of : Row → ℕ → State → Move
step_of (Elements n i w a k f c) p st = runs (turns (count_of c st.cells - f) f k (one n i w a) st)
step_of (Span n i a k) p st = runs (region n i a k st)
step_of (Mantissas n i a) p st = runs (walked n i a st)
step_of (Exponents s n i) p st = runs (exponents_of (part_of n i st.cells) (sum_of s st.cells % 256) st)
step_of (When a mask r) p st = go (cond (masked mask a st.cells) 0 r)
step_of (Refuse a mask n) p st = deals (dealing (cond (masked mask a st.cells) n 0) 0 st)
step_of (Compare r a x n k) p st = deals (dealing (cond (compares r (held_of a st.cells) (number_of x st.cells)) n 0) k st)
step_of (Put a v) p st = deals (dealing 0 0 (stored st (place_of a st.cells) (amount_of v p st.cells)))
step_of (Fill k n x y a) p st = deals (dealing 0 0 (state (filled n k (x + y * held_of a st.cells) st.cells) st.bins))
step_of (Do k) p st = deals (dealing (derived k st).number 0 (derived k st).st)
step_of (Each k i n r) p st = loops (sum_of i st.cells) (count_of n st.cells) k r

-- what a row that reads nothing comes to, at the place p
pub record Dealt (w p : ℕ) (st : State) (n : ℕ) (st' : State) : Type 0 where
  pub is : step_of (row_of w) p st ≡ deals (dealing n (stop_in w) st')

-- the number of a refusal, 0 for none
abbrev pub refusal_in : Result (Unit {0}) Refusal → ℕ
refusal_in (Ok u) = 0
refusal_in (Err r) = refusal_number r

-- one element of a row, the bits of a span, the mantissas
abbrev pub one_in : ℕ → State → Tree State
one_in w = one (name_in w) (index_in w) (width_in w) (keep_in w)

abbrev pub region_by : ℕ → State → Tree State
region_by w = region (name_in w) (index_in w) (keep_in w) (region_in w)

abbrev pub walked_by : ℕ → State → Tree State
walked_by w = walked (name_in w) (index_in w) (keep_in w)

-- what a row of input reads, once
unfoldable pub input_in : ℕ → State → Tree State
input_in w st = cond (ltb (w % 16) 3) (one_in w st) (cond (ltb (w % 16) 4) (region_by w st) (walked_by w st))

-- the set of exponents of a row
abbrev pub set_in : ℕ → State → Tree State
set_in w st = exponents_of (part_of (name_in w) (index_in w) st.cells) (sum_of (slot_in w) st.cells % 256) st
