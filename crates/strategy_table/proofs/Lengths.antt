-- How long the table's text can be. Assumes nothing.
use Prim.Native.Nat.{ℕ, zero, suc, ◌*◌, ◌%◌, ◌≤◌}
use native.Mathlib.Omega.{arith}
use lib.ListN.{length, length-append, length-replicate}
use Rattle.names.specs.Names.{acmod, numblkscod}
use Rattle.names.specs.Spelling.{bytes}
use Rattle.print.proofs.Decimals.{few}
use Rattle.columns.specs.Columns.{channels_of}
use Rattle.columns.proofs.Laws.{heading-short, few-channels}
use Rattle.answer.specs.Answer.{count_of}
use Rattle.answer.specs.declared.Verdict.{Verdict}
use Rattle.answer.specs.declared.Verdict.TheVariants.{Accepted, Refused}
use Rattle.listing.specs.declared.Records.{Records}
use Rattle.listing.proofs.Laws.{first_short}
use Rattle.std.specs.Prelude.{Option, Some, None}
use Rattle.strategy_table.specs.declared.grid.Strategy.{Strategy}
use Rattle.strategy_table.specs.declared.grid.Strategy.TheVariants.{Reuse, D15, D25, D45}
use Rattle.strategy_table.specs.Strategies.{channel_of, coupling_of, lfe_of, element_of}
use Rattle.strategy_table.specs.Table.{cell_of, full_of, row_of, rows_of, blocks_of, table_of, text_by, text_of}

cell-short : (s : Option Strategy) → length (cell_of s) ≤ 7
unfolding cell_of bytes
cell-short (Some Reuse) = omega arith
cell-short (Some D15) = omega arith
cell-short (Some D25) = omega arith
cell-short (Some D45) = omega arith
cell-short None = omega arith

few-blocks : (code : ℕ) → blocks_of code ≤ 6
unfolding blocks_of
few-blocks zero = omega arith
few-blocks (suc zero) = omega arith
few-blocks (suc (suc zero)) = omega arith
few-blocks (suc (suc (suc code))) = omega arith

module _ (r : Records) (n : ℕ) where
  full-short : (block ch : ℕ) → length (full_of r n block ch) ≤ 7 * ch
  unfolding full_of
  full-short block zero = omega arith
  full-short block (suc ch) =
      let h = full-short block ch in
      let k = cell-short (channel_of r n block ch) in
      rw length-append (omega arith)

  row-short : (channels block : ℕ) → channels ≤ 5 → length (row_of r n channels block) ≤ 75
  row-short channels block c =
      let d = few 20 block in
      let h = full-short block channels in
      let i = cell-short (coupling_of r n block) in
      let k = cell-short (lfe_of r n block) in
      simp (length-append, length-replicate) (omega arith)

  rows_short : (channels blocks : ℕ) → channels ≤ 5 → length (rows_of r n channels blocks) ≤ 75 * blocks
  unfolding rows_of
  rows_short channels zero c = omega arith
  rows_short channels (suc block) c =
      let h = rows_short channels block c in
      let k = row-short channels block c in
      rw length-append (omega arith)

module _ (r : Records) where
  table-short : length (table_of r) ≤ 505
  table-short =
      let n = count_of r.answer in
      let mode = element_of r n acmod in
      let b = blocks_of (element_of r n numblkscod) in
      let h = heading-short mode in
      let f = few-blocks (element_of r n numblkscod) in
      let k = rows_short r n (channels_of mode) b (few-channels (mode % 8)) in
      simp length-append (omega arith)

  short-by : (v : Verdict) → length (text_by r v) ≤ 1024
  unfolding text_by
  short-by Accepted = let h = table-short in omega arith
  short-by (Refused number place count) = let h = first_short r.answer.verdict r.answer.frame in omega arith

  -- 1,024 bytes hold every text
  pub text-short : length (text_of r) ≤ 1024
  text-short = short-by r.answer.verdict
