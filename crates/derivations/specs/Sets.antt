-- The exponents of a slot in the present block (A/52 5.4.3.22 to 5.4.3.27 and 7.1.3, TS 102 366 4.4.3.22 to 4.4.3.27 and 6.1.3): the strategy of the set,
-- its first bin, and the first bin past it.
use Rattle.std.specs.Prelude.{ℕ, ◌+◌, ◌*◌, ◌%◌, cond, List, eqb}
use Rattle.reading.specs.Tree.{Part, Tree, done, ◌>>=◌}
use Rattle.slots.specs.Slots.{CPL, LFE}
use Rattle.slots.specs.Held.{bins}
use Rattle.exponents.specs.Set.{set_of}
use Rattle.cells.specs.Cells.{State, state, cell_of}
use Rattle.cells.specs.Names.{ABSEXP, BLK, CHEXPSTR, CPLEND, CPLEXPSTR, CPLSTRT, ENDMANT}

unfoldable pub strategy_of : List ℕ → ℕ → ℕ
strategy_of m slot =
    cond (eqb slot CPL) (cell_of m (CPLEXPSTR + cell_of m BLK))
    (cond (eqb slot LFE) 1 (cell_of m (CHEXPSTR + slot + 8 * cell_of m BLK)))

unfoldable pub start_of : List ℕ → ℕ → ℕ
start_of m slot = cond (eqb slot CPL) (cell_of m CPLSTRT) 0

unfoldable pub end_of : List ℕ → ℕ → ℕ
end_of m slot = cond (eqb slot CPL) (cell_of m CPLEND) (cond (eqb slot LFE) 7 (cell_of m (ENDMANT + slot)))

-- the set is read after its absolute exponent
unfoldable pub exponents_of : Part → ℕ → State → Tree State
exponents_of q slot st =
    let m = st.cells in
    set_of q slot (strategy_of m slot % 256) (start_of m slot) (end_of m slot) (cell_of m ABSEXP % 16) st.bins.exps >>= (λ e. done (state m (bins e st.bins.baps)))
