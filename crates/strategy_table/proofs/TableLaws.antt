-- Laws of the table's text. Assumes nothing.
use mathlib.Core.Path.{◌≡◌, refl}
use mathlib.Core.List.{[], ◌∷◌, ◌++◌}
use Prim.Native.Nat.{ℕ}
use Rattle.names.specs.Names.{acmod, numblkscod}
use Rattle.answer.specs.Answer.{count_of}
use Rattle.listing.specs.declared.Records.{Records}
use Rattle.columns.specs.Columns.{heading_of, channels_of}
use Rattle.strategy_table.specs.Strategies.{element_of}
use Rattle.strategy_table.specs.Table.{rows_of, blocks_of, table_of}

-- the parts of the table are those of the frame
pub as-table : (r : Records) {n mode code ch blk : ℕ} → n ≡ count_of r.answer → mode ≡ element_of r n acmod → code ≡ element_of r n numblkscod
    → ch ≡ channels_of mode → blk ≡ blocks_of code → heading_of mode ++ (10 ∷ []) ++ rows_of r n ch blk ≡ table_of r
as-table r e a b c d = rw (d, c, b, a, e) refl
