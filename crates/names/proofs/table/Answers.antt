-- The table of the code is the spellings of the definition, filled up.
use mathlib.Core.Path.{refl}
use Rattle.names.specs.Names.{names}
use Rattle.names.specs.Spelling.{spellings, bytes, padded, in_row, rows}
use Rattle.names.proofs.table.Goals as goal

pub returns : goal.returns
unfolding names spellings bytes padded in_row rows
returns c = refl
