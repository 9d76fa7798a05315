use mathlib.Core.Path.{refl}
use native.Mathlib.Omega.{arith}
use Rattle.rows.specs.Rows.{row_of, flat, plain, keep_in, index_in, counter_in, from_in, to_in, at_in, value_in, relation_in, with_in, stop_in, loop_to, mask_of, digits, all_small}
use Rattle.rows.specs.Syntax.{◌⧺◌, among}
use Rattle.rows.specs.Standing.{all_narrow}
use Rattle.toy.specs.Toy.{opening, strategies, sets, quantized, block, closing, frame}
use Rattle.toy.proofs.rows.Goals as goal

-- the rows that stand in the table are computed to be those of the syntax
pub returns : goal.returns
unfolding row_of flat plain keep_in index_in counter_in from_in to_in at_in value_in relation_in with_in stop_in loop_to mask_of digits all_small ◌⧺◌ among all_narrow opening strategies sets quantized block closing frame
returns c = record { framed = record { rows = refl; plain = refl; ends = refl; room = omega arith }; table = record { sized = omega arith; narrows = refl } }
