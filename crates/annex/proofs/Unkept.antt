-- The names that the pages of Annex E keep nowhere. Computed; assumes nothing.
use mathlib.Core.Path.{refl}
use Rattle.names.specs.Names.{names}
use Rattle.rows.specs.Syntax.{◌⧺◌, among}
use Rattle.rows.specs.Unkept.{unkept}
use Rattle.annex.specs.Syncinfo.{syncinfo, bsi_size}
use Rattle.annex.specs.Bsi.{bsi, mixdef3, mixing_metadata, informational_metadata}
use Rattle.annex.specs.Audfrm.{audfrm, flags, coupling, strategies, hybrid, offsets}
use Rattle.annex.specs.Audblk.{audblk, dynamics, spx_strategy, spx_coordinates, cpl_strategy, cpl_coordinates, rematrixing, bandwidth, exponents_of_block, parameters, deltas, skip_field, quantized}
use Rattle.annex.specs.Annex.{body, audblks}
use Rattle.annex.specs.Unkept.{unkept_here, unkept_names, UnkeptNames}

pub unkept-names : UnkeptNames
unfolding unkept among ◌⧺◌ names syncinfo bsi_size bsi mixdef3 mixing_metadata informational_metadata audfrm flags coupling strategies hybrid offsets audblk dynamics spx_strategy spx_coordinates cpl_strategy cpl_coordinates rematrixing bandwidth exponents_of_block parameters deltas skip_field quantized body audblks unkept_here unkept_names
unkept-names = record { together = refl; each = refl }
