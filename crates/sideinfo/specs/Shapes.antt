-- What the cells say of a block: its channels, ranges and slots.
use Rattle.std.specs.Prelude.{ℕ, ◌+◌, ◌%◌, Bool, List}
use Rattle.slots.specs.declared.Shape.{Shape}
use Rattle.cells.specs.Cells.{cell_of}
use Rattle.sideinfo.specs.Steps.{tab_of}
use Rattle.sideinfo.specs.Blocks.{flag_of}
use Rattle.cells.specs.Names.{NFCHANS, LFEON, CPLINU, CHINCPL, AHTINU, AHT_READ, ENDMANT, CPLSTRT, CPLEND}

-- n flags, and n values, from the cell k on
abbrev pub flags_of : List ℕ → ℕ → ℕ → List Bool
flags_of m k n = tab_of (λ i. flag_of m (k + i)) 0 n

abbrev pub values_of : List ℕ → ℕ → ℕ → List ℕ
values_of m k n = tab_of (λ i. cell_of m (k + i)) 0 n

abbrev pub shape_of : List ℕ → Shape
shape_of m = record {
  nfchans = cell_of m NFCHANS % 256;
  lfeon = flag_of m LFEON;
  cplinu = flag_of m CPLINU;
  chincpl = flags_of m CHINCPL 5;
  ahtinu = flags_of m AHTINU 7;
  ahtread = flags_of m AHT_READ 7;
  endmant = values_of m ENDMANT 5;
  cplstrt = cell_of m CPLSTRT;
  cplend = cell_of m CPLEND;
}
