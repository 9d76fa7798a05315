use mathlib.Core.Path.{refl}
use native.Mathlib.Omega.{arith}
use Rattle.rows.specs.Rows.{row_of, flat, plain, keep_in, index_in, counter_in, from_in, to_in, at_in, value_in, relation_in, with_in, stop_in, loop_to, mask_of, digits, all_small}
use Rattle.rows.specs.Syntax.{◌⧺◌, among}
use Rattle.rows.specs.Standing.{all_narrow}
use Rattle.annex.specs.Syncinfo.{syncinfo, bsi_size}
use Rattle.annex.specs.Bsi.{bsi, mixdef3, mixing_metadata, informational_metadata}
use Rattle.annex.specs.Audfrm.{audfrm, flags, coupling, strategies, hybrid, offsets}
use Rattle.annex.specs.Audblk.{audblk, dynamics, spx_strategy, spx_coordinates, cpl_strategy, cpl_coordinates, rematrixing, bandwidth, exponents_of_block, parameters, deltas, skip_field, quantized}
use Rattle.annex.specs.Annex.{header, body, audblks}
use Rattle.annex.specs.Tail.{tail}
use Rattle.annex.proofs.annex.Goals as goal

-- the rows that stand in the table are computed to be those of the pages
pub returns : goal.returns
unfolding row_of flat plain keep_in index_in counter_in from_in to_in at_in value_in relation_in with_in stop_in loop_to mask_of digits all_small ◌⧺◌ among all_narrow syncinfo bsi_size bsi mixdef3 mixing_metadata informational_metadata audfrm flags coupling strategies hybrid offsets audblk dynamics spx_strategy spx_coordinates cpl_strategy cpl_coordinates rematrixing bandwidth exponents_of_block parameters deltas skip_field quantized header body audblks tail
returns c =
    record {
      headed = record { rows = refl; plain = refl; ends = refl; room = omega arith };
      bodied = record { rows = refl; plain = refl; ends = refl; room = omega arith };
      tailed = record { rows = refl; plain = refl; ends = refl; room = omega arith };
      table = record { sized = omega arith; narrows = refl };
    }
