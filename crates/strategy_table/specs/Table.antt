-- The exponent strategies of a frame as a table of text: cells of seven bytes, a line for each block.
use Rattle.std.specs.Prelude.{List, [], ◌∷◌, ◌++◌, Option, Some, None, ℕ, zero, suc, get_or}
use Rattle.names.specs.Names.{acmod, numblkscod}
use Rattle.names.specs.Spelling.{bytes}
use Rattle.print.specs.Text.{right_of}
use Rattle.columns.specs.Columns.{heading_of, channels_of}
use Rattle.answer.specs.Answer.{count_of}
use Rattle.answer.specs.declared.Verdict.{Verdict}
use Rattle.answer.specs.declared.Verdict.TheVariants.{Accepted, Refused}
use Rattle.listing.specs.Listing.{first_line}
use Rattle.listing.specs.declared.Records.{Records}
use Rattle.strategy_table.specs.declared.grid.Strategy.{Strategy}
use Rattle.strategy_table.specs.declared.grid.Strategy.TheVariants.{Reuse, D15, D25, D45}
use Rattle.strategy_table.specs.Strategies.{channel_of, coupling_of, lfe_of, element_of}

-- a strategy; a dash stands where there is none
unfoldable pub cell_of : Option Strategy → List ℕ
cell_of (Some Reuse) = bytes "  reuse"
cell_of (Some D15) = bytes "    D15"
cell_of (Some D25) = bytes "    D25"
cell_of (Some D45) = bytes "    D45"
cell_of None = bytes "      -"

module _ (r : Records) (n : ℕ) where
  -- the first channels of a block
  unfoldable pub full_of : ℕ → ℕ → List ℕ
  full_of block zero = []
  full_of block (suc ch) = full_of block ch ++ cell_of (channel_of r n block ch)

  -- a block: its number, the coupling channel, the full bandwidth channels and the LFE channel
  abbrev pub row_of : ℕ → ℕ → List ℕ
  row_of channels block =
      right_of 5 block ++ cell_of (coupling_of r n block) ++ full_of block channels ++ cell_of (lfe_of r n block) ++ (10 ∷ [])

  -- the first blocks
  unfoldable pub rows_of : ℕ → ℕ → List ℕ
  rows_of channels zero = []
  rows_of channels (suc block) = rows_of channels block ++ row_of channels block

-- how many blocks there are by numblkscod
unfoldable pub blocks_of : ℕ → ℕ
blocks_of code = get_or (1 ∷ 2 ∷ 3 ∷ []) code 6

-- the records that the answer counts tell acmod and numblkscod
module _ (r : Records) where
  abbrev pub table_of : List ℕ
  table_of =
      let n = count_of r.answer in
      let mode = element_of r n acmod in
      heading_of mode ++ (10 ∷ []) ++ rows_of r n (channels_of mode) (blocks_of (element_of r n numblkscod))

  unfoldable pub text_by : Verdict → List ℕ
  text_by Accepted = table_of
  text_by (Refused number place count) = first_line r.answer

  -- the table, or the answer of a frame that is refused
  abbrev pub text_of : List ℕ
  text_of = text_by r.answer.verdict
