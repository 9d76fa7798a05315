-- The cells: what a reading keeps of the elements that it has read, and what is derived from them; and the exponents and pointers.
use Rattle.std.specs.Prelude.{ℕ, suc, ◌+◌, ◌-◌, ◌*◌, ◌%◌, cond, List, [], ◌∷◌, eqb, ℤ, pos, negsuc, set, get_or}
use Rattle.reading.specs.Tree.{Part}
use Rattle.slots.specs.Held.{Bins}
use Rattle.cells.specs.Names.{BLOCK}

pub record State : Type 0 where
  pub cells : List ℕ
  pub bins : Bins

abbrev pub state : List ℕ → Bins → State
state m b = record { cells = m; bins = b }

-- a cell holds a number of 16 bits. Cell 0 holds 0 for ever, so that 0 stands for no cell; there are 1,024 of them
unfoldable pub cell_of : List ℕ → ℕ → ℕ
cell_of m k = cond (eqb (k % 1024) 0) 0 (get_or m (k % 1024) 0)

unfoldable pub put_in : List ℕ → ℕ → ℕ → List ℕ
put_in m k v = cond (eqb (k % 1024) 0) m (set m (k % 1024) (v % 65536))

-- a cell of an array: its first, the value of one counter, and eight times that of another
pub record Addr : Type 0 where
  pub base : ℕ
  pub by : ℕ
  pub row : ℕ

-- a number, and the value of a cell
pub record Sum : Type 0 where
  pub number : ℕ
  pub cell : ℕ

abbrev pub addr : ℕ → ℕ → ℕ → Addr
addr base by row = record { base = base; by = by; row = row }

abbrev pub sum : ℕ → ℕ → Sum
sum number cell = record { number = number; cell = cell }

abbrev pub place_of : Addr → List ℕ → ℕ
place_of a m = a.base + cell_of m a.by + 8 * cell_of m a.row

abbrev pub held_of : Addr → List ℕ → ℕ
held_of a m = cell_of m (place_of a m)

abbrev pub sum_of : Sum → List ℕ → ℕ
sum_of s m = s.number + cell_of m s.cell

-- a state with a value put into a cell
abbrev pub stored : State → ℕ → ℕ → State
stored st k v = state (put_in st.cells k v) st.bins

-- numbers put into cells one after another, from the cell k on
unfoldable pub puts_in : List ℕ → ℕ → List ℕ → List ℕ
puts_in m k [] = m
puts_in m k (v ∷ vs) = puts_in (put_in m k v) (suc k) vs

abbrev pub stored_all : State → ℕ → List ℕ → State
stored_all st k vs = state (puts_in st.cells k vs) st.bins

-- a part of a record is one less than n, -1 for none
abbrev pub signed : ℕ → ℕ → ℤ
signed most n = cond (eqb (n % most) 0) (negsuc 0) (pos (n % most - 1))

-- what a record says besides its place and value
abbrev pub part_of : ℕ → Sum → List ℕ → Part
part_of name index m = record { name = name; block = signed 128 (cell_of m BLOCK); index = signed 32768 (sum_of index m) }
