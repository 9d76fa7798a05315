-- Where the rows of a block stand in a table of numbers, and what the code asks of a table.
use Rattle.std.specs.Prelude.{ℕ, ◌+◌, ◌%◌, ◌≤◌, Bool, true, cond, ◌&&◌, List, [], ◌∷◌, map, ◌≡◌, leb, ltb, length, drop}
use Rattle.rows.specs.Syntax.{Block}
use Rattle.rows.specs.Rows.{flat, size, plain, row_of, width_in}

-- the rows of a block stand in a table from one place to another
pub record Stands (t : List ℕ) (b : Block) (from to : ℕ) : Type 0 where
  pub rows : drop from (map row_of t) ≡ flat b (drop to (map row_of t))
  pub plain : plain b ≡ true
  pub ends : from + size b ≡ to
  pub room : to ≤ length (map row_of t)

-- no element is wider than what one read gives
abbrev pub narrow : ℕ → Bool
narrow w = cond (ltb (w % 16) 3) (leb (width_in w) 25) true

unfoldable pub all_narrow : List ℕ → Bool
all_narrow [] = true
all_narrow (w ∷ t) = narrow w && all_narrow t

-- what the code asks of a table: no more than 1,023 rows, no element too wide
pub record Table (t : List ℕ) : Type 0 where
  pub sized : length t ≤ 1023
  pub narrows : all_narrow t ≡ true
