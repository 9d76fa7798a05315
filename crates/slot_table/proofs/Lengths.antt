-- How long the table's text can be. Assumes nothing.
use mathlib.Core.List.{List}
use Prim.Native.Nat.{ℕ, zero, suc, ◌*◌, ◌/◌, ◌%◌, min, ◌≤◌}
use native.Mathlib.Omega.{arith}
use lib.ListN.{length, get_or, length-append, length-replicate}
use Rattle.bits.specs.declared.ByteCount.{ByteCount}
use Rattle.names.specs.Spelling.{bytes}
use Rattle.slots.specs.Slots.{CPL, LFE}
use Rattle.print.proofs.Decimals.{few}
use Rattle.columns.specs.Columns.{channels_of}
use Rattle.columns.proofs.Laws.{heading-short, few-channels}
use Rattle.answer.specs.Answer.{bits_in}
use Rattle.answer.specs.declared.Answer.{Answer}
use Rattle.answer.specs.declared.Frame.{Frame}
use Rattle.answer.specs.declared.SlotBits.{SlotBits}
use Rattle.answer.specs.declared.Verdict.{Verdict}
use Rattle.answer.specs.declared.Verdict.TheVariants.{Accepted, Refused}
use Rattle.listing.proofs.Laws.{first_short}
use Rattle.slot_table.specs.SlotTable.{eight_of, slot_sum, share_of, cell_of, full_of, line_of, row_of, rows_of, sums_of, table_of, text_by, text_of}
use Rattle.std.specs.Prelude.{Option, Some, None}

cell-short : (of : Option ByteCount) (n : ℕ) → length (cell_of of n) ≤ 46
unfolding cell_of bytes
cell-short None n = let d = few 20 n in simp (length-append, length-replicate) (omega arith)
cell-short (Some frame) n =
    let d = few 20 (share_of frame.0 n / 10) in
    let e = few 20 (share_of frame.0 n % 10) in
    simp (length-append, length-replicate) (omega arith)

full-short : (of : Option ByteCount) (x : List ℕ) (ch : ℕ) → length (full_of of x ch) ≤ 46 * ch
unfolding full_of
full-short of x zero = omega arith
full-short of x (suc ch) =
    let h = full-short of x ch in
    let k = cell-short of (get_or x ch 0) in
    rw length-append (omega arith)

line-short : (of : Option ByteCount) (x : List ℕ) (channels : ℕ) → channels ≤ 5 → length (line_of of x channels) ≤ 369
unfolding line_of
line-short of x channels c =
    let h = full-short of x channels in
    let i = cell-short of (get_or x CPL 0) in
    let j = cell-short of (get_or x LFE 0) in
    let k = cell-short of (get_or x 7 0) in
    simp length-append (omega arith)

module _ (blocks : List SlotBits) (channels : ℕ) (c : channels ≤ 5) where
  row-short : (b : ℕ) → length (row_of blocks channels b) ≤ 394
  row-short b =
      let d = few 20 b in
      let h = line-short None (eight_of (bits_in blocks b)) channels c in
      simp (length-append, length-replicate) (omega arith)

  rows_short : (b : ℕ) → length (rows_of blocks channels b) ≤ 394 * b
  unfolding rows_of
  rows_short zero = omega arith
  rows_short (suc b) =
      let h = rows_short b in
      let k = row-short b in
      rw length-append (omega arith)

  sums-short : (frame : ByteCount) → length (sums_of blocks channels frame) ≤ 748
  unfolding sums_of bytes
  sums-short frame =
      let s = line-short None (eight_of (slot_sum blocks)) channels c in
      let t = line-short (Some frame) (eight_of (slot_sum blocks)) channels c in
      simp length-append (omega arith)

table-short : (f : Frame) → length (table_of f) ≤ 3174
unfolding bytes
table-short f =
    let n = channels_of f.acmod in
    let c = few-channels (f.acmod % 8) in
    let h = heading-short f.acmod in
    let r = rows_short f.slot_bits n c (min f.numblks 6) in
    let s = sums-short f.slot_bits n c f.bytes in
    simp length-append (omega arith)

short-by : (v : Verdict) (a : Answer) → length (text_by v a) ≤ 4096
unfolding text_by
short-by Accepted a = let h = table-short a.frame in omega arith
short-by (Refused number place count) a = let h = first_short a.verdict a.frame in omega arith

-- 4,096 bytes hold every text
pub text-short : (a : Answer) → length (text_of a) ≤ 4096
text-short a = short-by a.verdict a
