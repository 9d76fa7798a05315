-- The definitions give what every row of the table of edges says. Computed; assumes nothing.
use mathlib.Core.Path.{◌≡◌, refl}
use mathlib.Core.List.{map}
use Rattle.bits.specs.Bits.{bit_at, bits_at, get_of}
use Rattle.reading.specs.Tree.{◌>>=◌, ◌>>-◌}
use Rattle.reading.specs.Run.{after, skim, run}
use Rattle.cells.specs.Cells.{cell_of, put_in, puts_in}
use Rattle.rows.specs.Syntax.{among, ◌⧺◌, turns, filled, item, meaning}
use Rattle.tables.specs.BitAllocation.{slowdec, fastdec, slowgain, dbpbtab, floortab, fastgain, bndend, masktab, latab, hth, baptab, hebaptab}
use Rattle.tables.specs.Small.{nfchans, bap_bits, vq_bits, gaq_bits, frmexpstr, defcplbndstrc, defspxbndstrc}
use Rattle.tables.specs.Bands.{band_of}
use Rattle.slots.specs.Slots.{pointer, range_of, used_of, read_of, requested_of}
use Rattle.exponents.specs.Exponents.{next_of, decode_of, size_of, groups_of, start_of, first_of, put_of, spread_of, laid_of}
use Rattle.exponents.specs.Set.{groups_from, begun_of, set_of}
use Rattle.alloc.specs.Allocation.{snroffset, sum, bndpsd, counter, deltaed}
use Rattle.silence.specs.Silence.{offsets_zero, silent_by}
use Rattle.allocation.specs.State.{fresh_state, segments_of, channel_of, leak_for, kind_of, pointed_of, allocated_of, point_slots, point_slot, pointers_of}
use Rattle.skim.specs.Counted.{counting}
use Rattle.mantissas.specs.Mantissas.{width_of, counted_of, conventional_of}
use Rattle.hybrid.specs.Hybrid.{active_of, active_in, singles_of, triples_of, gains_of, premantissa_of, premantissas_of, bin_of, bins_of, aht_of}
use Rattle.sideinfo.specs.Steps.{sum_of, each_of, tab_of}
use Rattle.sideinfo.specs.Frames.{numblks_by, nfchans_by, ncplblks_by, cpl_strategies_by, ch_strategies_by, regions_by, blkstrtinfo_by}
use Rattle.sideinfo.specs.Blocks.{spx_range_by, nspxbnds_by, cpl_range_by, ncplbnd_by, nrematbd_by, cpl_bins_by, endmant_of, unknown_of, unknown_in, endmants_by, aht_read_by}
use Rattle.derivations.specs.Sets.{strategy_of, start_of as startOf-derivations, end_of, exponents_of}
use Rattle.derivations.specs.Mantissas.{mantissas_in}
use Rattle.derivations.specs.Allocating.{put_state, fresh_by, defaults_by, allocate_in}
use Rattle.derivations.specs.Derivations.{endmants_in, derived}
use Rattle.annex.specs.Syncinfo.{syncinfo, bsi_size}
use Rattle.annex.specs.Bsi.{mixdef3, mixing_metadata, informational_metadata, bsi}
use Rattle.annex.specs.Audfrm.{flags, coupling, strategies, hybrid, offsets, audfrm}
use Rattle.annex.specs.Audblk.{dynamics, spx_strategy, spx_coordinates, cpl_strategy, cpl_coordinates, rematrixing, bandwidth, exponents_of_block, parameters, deltas, skip_field, quantized, audblk}
use Rattle.annex.specs.Annex.{audblks, body}
use Rattle.annex.specs.Frame.{start, eac3}
use Rattle.reading.specs.Frame.{header_by, framed, sized, parse, finish, tail}
use Rattle.reading.specs.Room.{cut}
use Rattle.plan.specs.Plan.{mantissas_of, slots_of, visit_if, visit_of}
use Rattle.annex.specs.Edges.{Edge, edges}

pub edges-hold : map (λ (e : Edge). e.gives) edges ≡ map (λ (e : Edge). e.is) edges
unfolding bit_at bits_at get_of ◌>>=◌ ◌>>-◌ after skim run cell_of put_in puts_in counting among ◌⧺◌ turns filled item meaning slowdec fastdec slowgain dbpbtab floortab fastgain bndend masktab latab hth baptab hebaptab nfchans bap_bits vq_bits gaq_bits frmexpstr defcplbndstrc defspxbndstrc band_of pointer range_of used_of read_of requested_of next_of decode_of size_of groups_of start_of first_of put_of spread_of laid_of groups_from begun_of set_of snroffset sum bndpsd counter deltaed fresh_state segments_of offsets_zero silent_by channel_of leak_for kind_of pointed_of allocated_of width_of counted_of conventional_of active_of active_in singles_of triples_of gains_of premantissa_of premantissas_of bin_of bins_of aht_of sum_of each_of tab_of numblks_by nfchans_by ncplblks_by cpl_strategies_by ch_strategies_by regions_by blkstrtinfo_by spx_range_by nspxbnds_by cpl_range_by ncplbnd_by nrematbd_by cpl_bins_by endmant_of unknown_of unknown_in endmants_by aht_read_by strategy_of startOf-derivations end_of exponents_of mantissas_in put_state fresh_by defaults_by allocate_in endmants_in derived syncinfo bsi_size mixdef3 mixing_metadata informational_metadata bsi flags coupling strategies hybrid offsets audfrm dynamics spx_strategy spx_coordinates cpl_strategy cpl_coordinates rematrixing bandwidth exponents_of_block parameters deltas skip_field quantized audblk audblks body start eac3 point_slots point_slot pointers_of header_by framed sized parse finish tail cut mantissas_of slots_of visit_if visit_of edges
edges-hold = refl
