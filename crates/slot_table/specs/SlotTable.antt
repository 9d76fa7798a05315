-- The bits of the slots of a frame as a table of text: cells of seven bytes, a line for each block, one for the sums over the blocks, and one for
-- the share of the frame that each slot has, in per cent. The last column has the sum of its line.
use Rattle.std.specs.Prelude.{cond, List, [], ◌∷◌, ◌++◌, Option, Some, None, ℕ, zero, suc, ◌+◌, ◌*◌, ◌/◌, ◌%◌, min, eqb, get_or, length}
use Rattle.bits.specs.declared.ByteCount.{ByteCount}
use Rattle.names.specs.Spelling.{bytes}
use Rattle.slots.specs.Slots.{CPL, LFE}
use Rattle.sideinfo.specs.Steps.{sum_of, tab_of}
use Rattle.print.specs.Text.{decimal_of, right_of}
use Rattle.columns.specs.Columns.{heading_of, channels_of}
use Rattle.answer.specs.Answer.{bits_in}
use Rattle.answer.specs.declared.Answer.{Answer}
use Rattle.answer.specs.declared.Frame.{Frame}
use Rattle.answer.specs.declared.SlotBits.{SlotBits}
use Rattle.answer.specs.declared.Verdict.{Verdict}
use Rattle.answer.specs.declared.Verdict.TheVariants.{Accepted, Refused}
use Rattle.listing.specs.Listing.{first_line}

-- the bits of a slot in a list of blocks, and in all six
abbrev pub bits_of : List SlotBits → ℕ → ℕ
bits_of blocks slot = sum_of (λ b. bits_in blocks b slot) (length blocks)

abbrev pub slot_sum : List SlotBits → ℕ → ℕ
slot_sum blocks slot = sum_of (λ b. bits_in blocks b slot) 6

-- seven numbers by slot, and their sum
abbrev pub eight_of : (ℕ → ℕ) → List ℕ
eight_of x = tab_of x 0 7 ++ (sum_of x 7 ∷ [])

-- the share of n bits in a frame of so many bytes, to the nearest tenth of a per cent
abbrev pub share_of : ℕ → ℕ → ℕ
share_of frame n = cond (eqb frame 0) 0 ((1000 * n + 4 * frame) / (8 * frame))

abbrev pub tenths_of : ℕ → List ℕ
tenths_of n = right_of 5 (n / 10) ++ bytes "." ++ decimal_of (n % 10)

-- n bits as a cell: their number, or their share of a frame
unfoldable pub cell_of : Option ByteCount → ℕ → List ℕ
cell_of None n = right_of 7 n
cell_of (Some frame) n = tenths_of (share_of frame.0 n)

module _ (frame : Option ByteCount) (x : List ℕ) where
  -- the first channels
  unfoldable pub full_of : ℕ → List ℕ
  full_of zero = []
  full_of (suc ch) = full_of ch ++ cell_of frame (get_or x ch 0)

  -- a line: the coupling channel, the full bandwidth channels, the LFE channel, and the sum
  unfoldable pub line_of : ℕ → List ℕ
  line_of channels = cell_of frame (get_or x CPL 0) ++ full_of channels ++ cell_of frame (get_or x LFE 0) ++ cell_of frame (get_or x 7 0) ++ (10 ∷ [])

module _ (blocks : List SlotBits) (channels : ℕ) where
  abbrev pub row_of : ℕ → List ℕ
  row_of b = right_of 5 b ++ line_of None (eight_of (bits_in blocks b)) channels

  -- the first blocks
  unfoldable pub rows_of : ℕ → List ℕ
  rows_of zero = []
  rows_of (suc b) = rows_of b ++ row_of b

  -- the lines below them: the sums over the blocks, as bits and as shares of a frame
  unfoldable pub sums_of : ByteCount → List ℕ
  sums_of frame =
      let all = eight_of (slot_sum blocks) in
      bytes "  sum" ++ line_of None all channels ++ bytes "    %" ++ line_of (Some frame) all channels

-- a frame has at most six blocks
abbrev pub table_of : Frame → List ℕ
table_of f =
    let blocks = f.slot_bits in
    let n = channels_of f.acmod in
    heading_of f.acmod ++ (bytes "    sum" ++ (10 ∷ [])) ++ rows_of blocks n (min f.numblks 6) ++ sums_of blocks n f.bytes

unfoldable pub text_by : Verdict → Answer → List ℕ
text_by Accepted a = table_of a.frame
text_by (Refused number place count) a = first_line a

-- the table, or the answer of a frame that is refused
abbrev pub text_of : Answer → List ℕ
text_of a = text_by a.verdict a
