use mathlib.Core.Path.{refl}
use Rattle.answer.proofs.frame_of.Goals as goal

pub returns : goal.returns
returns c = rw (c.bytes-bytes.ensures, c.cell_of-bsid.ensures, c.cell_of-acmod.ensures, c.flag-lfeon.ensures, c.cell_of-fscod.ensures, c.cell_of-strmtyp.ensures, c.cell_of-substreamid.ensures, c.cell_of-numblks.ensures, c.places-block_starts.ensures, c.places-mantissa_starts.ensures, c.cell_of-audio_end.ensures, c.cell_of-aht_tags.ensures, c.flags-aht_slots.ensures, c.cell_of-spx_blocks.ensures, c.cell_of-cpl_blocks.ensures, c.bits_of_blocks-slot_bits.ensures) refl
