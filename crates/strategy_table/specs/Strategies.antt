-- Exponent strategies of a frame, from its records alone.
use Rattle.std.specs.Prelude.{Bool, false, ◌&&◌, cond, List, [], ◌∷◌, Option, Some, None, ℕ, zero, suc, ◌+◌, ◌-◌, ◌*◌, min, eqb, ltb, ℤ, pos, negsuc, get_or, unwrap_or}
use Rattle.names.specs.Names.{chexpstr, frmchexpstr, cplinu, cplexpstr, frmcplexpstr, lfeexpstr}
use Rattle.tables.specs.Small.{frmexpstr}
use Rattle.listing.specs.declared.Records.{Records}
use Rattle.strategy_table.specs.declared.grid.Strategy.{Strategy}
use Rattle.strategy_table.specs.declared.grid.Strategy.TheVariants.{Reuse, D15, D25, D45}

abbrev pub eq_z : ℤ → ℤ → Bool
eq_z (pos a) (pos b) = eqb a b
eq_z (pos a) (negsuc b) = false
eq_z (negsuc a) (pos b) = false
eq_z (negsuc a) (negsuc b) = eqb a b

abbrev pub is_of : ℕ → ℤ → ℕ → ℤ → Bool
is_of n i name index = eqb n name && eq_z i index

-- among f records from the place i on: the value of the one that has a name and an index, after k others that have both
module _ (r : Records) (name : ℕ) (index : ℤ) where
  unfoldable pub found : ℕ → ℕ → ℕ → Option ℕ
  found zero i k = None
  found (suc f) i k =
      let hit = is_of (get_or r.names i 0) (get_or r.indexes i (pos 0)) name index in
      cond (hit && eqb k 0) (Some (get_or r.values i 0)) (found f (i + 1) (cond hit (k - 1) k))

-- a strategy as it is sent for one block
unfoldable pub kinds : List (Option Strategy)
kinds = Some Reuse ∷ Some D15 ∷ Some D25 ∷ Some D45 ∷ []

unfoldable pub sent_of : ℕ → Option Strategy
sent_of v = get_or kinds v None

-- the strategy of a block by the code for six blocks (Table E.1.9)
abbrev pub expanded_of : ℕ → ℕ → Option Strategy
expanded_of code block = cond (ltb code 32) (cond (ltb block 6) (sent_of (get_or frmexpstr (6 * code + block) 0)) None) None

unfoldable pub chosen_of : Option ℕ → Option Strategy → Option Strategy
chosen_of (Some v) otherwise = sent_of v
chosen_of None otherwise = otherwise

unfoldable pub coded_of : Option ℕ → ℕ → Option Strategy
coded_of (Some code) block = expanded_of code block
coded_of None block = None

-- whether coupling is in use, by what a block says of it or else by what held before
unfoldable pub in_use : Option ℕ → Bool → Bool
in_use (Some v) before = eqb v 1
in_use None before = before

abbrev pub plain_of : Option ℕ → ℕ
plain_of value = unwrap_or value 0

-- the first n records of a frame, and at most 2,048
module _ (r : Records) (n : ℕ) where
  abbrev pub value_of : ℕ → ℤ → ℕ → Option ℕ
  value_of name index k = found r name index (min n 2048) 0 k

  -- chexpstr has the block as its index, and the channels of a block follow one another; frmchexpstr has the channel
  abbrev pub channel_of : ℕ → ℕ → Option Strategy
  channel_of block ch = chosen_of (value_of chexpstr (pos block) ch) (coded_of (value_of frmchexpstr (pos ch) 0) block)

  -- whether coupling is in use after so many blocks
  unfoldable pub coupled_of : ℕ → Bool
  coupled_of zero = false
  coupled_of (suc b) = in_use (value_of cplinu (pos b) 0) (coupled_of b)

  abbrev pub coupling_of : ℕ → Option Strategy
  coupling_of block =
      cond (coupled_of (block + 1)) (chosen_of (value_of cplexpstr (pos block) 0) (coded_of (value_of frmcplexpstr (negsuc 0) 0) block)) None

  abbrev pub lfe_of : ℕ → Option Strategy
  lfe_of block = chosen_of (value_of lfeexpstr (pos block) 0) None

  -- an element that has no index, 0 where it was not sent
  abbrev pub element_of : ℕ → ℕ
  element_of name = plain_of (value_of name (negsuc 0) 0)
