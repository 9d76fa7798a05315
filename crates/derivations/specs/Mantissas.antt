-- The mantissas of a block, by what the cells say of it.
use Rattle.std.specs.Prelude.{List, ℕ}
use Rattle.reading.specs.Tree.{Skim}
use Rattle.plan.specs.Plan.{mantissas_of}
use Rattle.cells.specs.Cells.{State}
use Rattle.sideinfo.specs.Shapes.{shape_of}

-- the mantissas of the block (A/52 clauses 5.3.3 and E2.2.4, TS 102 366 clauses 4.3.3 and E.1.2.4)
unfoldable pub mantissas_in : State → Skim (List ℕ)
mantissas_in st = mantissas_of st.bins.baps (shape_of st.cells)
