-- What a reading answers: an accepted frame, or one numbered refusal.
use Rattle.std.specs.Prelude.{false, List, [], ℕ, ◌+◌, ◌*◌, ◌/◌, get_or, replicate}
use Rattle.reading.specs.Run.{Result, accepted, refused}
use Rattle.reading.specs.Room.{Out}
use Rattle.cells.specs.Cells.{State, cell_of}
use Rattle.cells.specs.Names.{ACMOD, AHT_TAGS, AHTINU, AUDIO_END, BLOCK_STARTS, BSID, CPL_BLOCKS, FSCOD, LFEON, MANTISSA_STARTS, NUMBLKS, SLOT_BITS, SPX_BLOCKS, STRMTYP, SUBSTREAMID}
use Rattle.sideinfo.specs.Blocks.{flag_of}
use Rattle.bits.specs.declared.BitPlace.{BitPlace}
use Rattle.sideinfo.specs.Steps.{tab_of}
use Rattle.sideinfo.specs.Shapes.{flags_of, values_of}
use Rattle.answer.specs.declared.Frame.{Frame}
use Rattle.answer.specs.declared.Answer.{Answer}
use Rattle.answer.specs.declared.SlotBits.{SlotBits}
use Rattle.answer.specs.declared.Verdict.{Verdict}
use Rattle.answer.specs.declared.Verdict.TheVariants.{Accepted, Refused}

-- a place in a frame, in bits from its first one; and n places, from the cell k on
abbrev pub place_at : ℕ → BitPlace
place_at p = record { 0 = p }

abbrev pub places_of : List ℕ → ℕ → ℕ → List BitPlace
places_of m k n = tab_of (λ i. place_at (cell_of m (k + i))) 0 n

-- the bits that the slots of a block took, from the cell k on; those of six blocks
abbrev pub slot_bits_at : List ℕ → ℕ → SlotBits
slot_bits_at m k = record { bits = values_of m k 7 }

abbrev pub slot_bits_in : List ℕ → List SlotBits
slot_bits_in m = tab_of (λ b. slot_bits_at m (SLOT_BITS + 8 * b)) 0 6

-- the bits of a slot in the block j
abbrev pub bits_in : List SlotBits → ℕ → ℕ → ℕ
bits_in blocks j slot = get_or (get_or blocks j (record { bits = [] })).bits slot 0

-- what the cells tell of an accepted frame that ends at the place p, with n records
abbrev pub frame_of : List ℕ → ℕ → ℕ → Frame
frame_of m p n = record {
  bytes = record { 0 = p / 8 };
  fields = n;
  bsid = cell_of m BSID;
  acmod = cell_of m ACMOD;
  lfeon = flag_of m LFEON;
  fscod = cell_of m FSCOD;
  strmtyp = cell_of m STRMTYP;
  substreamid = cell_of m SUBSTREAMID;
  numblks = cell_of m NUMBLKS;
  block_starts = places_of m BLOCK_STARTS 6;
  mantissa_starts = places_of m MANTISSA_STARTS 6;
  audio_end = place_at (cell_of m AUDIO_END);
  aht_tags = cell_of m AHT_TAGS;
  aht_slots = flags_of m AHTINU 7;
  spx_blocks = cell_of m SPX_BLOCKS;
  cpl_blocks = cell_of m CPL_BLOCKS;
  slot_bits = slot_bits_in m;
}

-- after a refusal all is 0 or no
abbrev pub nothing : Frame
nothing = record {
  bytes = record { 0 = 0 };
  fields = 0;
  bsid = 0;
  acmod = 0;
  lfeon = false;
  fscod = 0;
  strmtyp = 0;
  substreamid = 0;
  numblks = 0;
  block_starts = replicate 6 (place_at 0);
  mantissa_starts = replicate 6 (place_at 0);
  audio_end = place_at 0;
  aht_tags = 0;
  aht_slots = replicate 7 false;
  spx_blocks = 0;
  cpl_blocks = 0;
  slot_bits = replicate 6 (record { bits = replicate 7 0 });
}

abbrev pub answer_by : Result State → ℕ → ℕ → Answer
answer_by (accepted st) p n = record { verdict = Accepted; frame = frame_of st.cells p n }
answer_by (refused k) p n = record { verdict = Refused k (place_at p) n; frame = nothing }

-- the answer of an outcome
unfoldable pub answer_of : Out State → Answer
answer_of o = answer_by o.result o.place o.count

-- document 01's number of an answer, 0 for an accepted frame; its place; and the records that were written
abbrev pub number_by : Verdict → ℕ
number_by Accepted = 0
number_by (Refused k p n) = k

abbrev pub number_of : Answer → ℕ
number_of a = number_by a.verdict

abbrev pub place_by : Verdict → Frame → ℕ
place_by Accepted f = 8 * f.bytes.0
place_by (Refused k p n) f = p.0

abbrev pub place_of : Answer → ℕ
place_of a = place_by a.verdict a.frame

abbrev pub count_by : Verdict → Frame → ℕ
count_by Accepted f = f.fields
count_by (Refused k p n) f = n

abbrev pub count_of : Answer → ℕ
count_of a = count_by a.verdict a.frame

-- the number of a reading's result
abbrev pub number_in : Result State → ℕ
number_in (accepted st) = 0
number_in (refused k) = k
