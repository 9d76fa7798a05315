-- The state of bit allocation and the delta segments in the cells: at the start of a frame, and the allocation of a block.
use Rattle.std.specs.Prelude.{Option, Some, None, ℕ, ◌+◌, ◌%◌, cond, List, [], ◌∷◌, length, get_or}
use Rattle.tables.specs.Small.{defspxbndstrc, defcplbndstrc}
use Rattle.allocation.specs.State.{fresh_state, number_in, allocated_of}
use Rattle.allocation.specs.declared.Codes.{Codes}
use Rattle.allocation.specs.declared.AllocState.{AllocState}
use Rattle.allocation.specs.declared.Segments.{Segments}
use Rattle.slots.specs.Held.{bins}
use Rattle.cells.specs.Cells.{State, state, cell_of, put_in}
use Rattle.sideinfo.specs.Steps.{each_of, tab_of}
use Rattle.derivations.specs.Acted.{Acted, acted}
use Rattle.sideinfo.specs.Blocks.{flag_of}
use Rattle.sideinfo.specs.Shapes.{shape_of}
use Rattle.cells.specs.Names.{FSCOD, BAI_SENT, SDCYCOD, FDCYCOD, SGAINCOD, DBPBCOD, FLOORCOD, CSNROFFST, CPLFLEAK, CPLSLEAK, FSNROFFST, FGAINCOD, DELTNSEG, DELTOFFST, DELTLEN, DELTBA, SPXBNDSTRC, CPLBNDSTRC, FIRSTSPXCOS, FIRSTCPLCOS, FIRSTCPLLEAK}

-- n cells from the cell k on, as bytes
abbrev pub bytes_of : List ℕ → ℕ → ℕ → List ℕ
bytes_of m k n = tab_of (λ i. cell_of m (k + i) % 256) 0 n

-- some values put into the cells from k on
abbrev pub put_all : List ℕ → ℕ → List ℕ → List ℕ
put_all m k vs = each_of (λ i x. put_in x (k + i) (get_or vs i 0)) (length vs) m

-- the parameters, if they were ever sent
abbrev pub parameters_of : List ℕ → Option Codes
parameters_of m =
    let codes : Codes = record {
      sdcycod = cell_of m SDCYCOD % 256;
      fdcycod = cell_of m FDCYCOD % 256;
      sgaincod = cell_of m SGAINCOD % 256;
      dbpbcod = cell_of m DBPBCOD % 256;
      floorcod = cell_of m FLOORCOD % 256;
    } in
    cond (flag_of m BAI_SENT) (Some codes) None

-- the leak codes have three bits
abbrev pub alloc_state_of : List ℕ → AllocState
alloc_state_of m = record {
  parameters = parameters_of m;
  csnroffst = cell_of m CSNROFFST % 256;
  fsnroffst = bytes_of m FSNROFFST 7;
  fgaincod = bytes_of m FGAINCOD 7;
  cplfleak = cell_of m CPLFLEAK % 8;
  cplsleak = cell_of m CPLSLEAK % 8;
}

abbrev pub segments_in : List ℕ → Segments
segments_in m = record {
  n = bytes_of m DELTNSEG 6;
  offset = bytes_of m DELTOFFST 48;
  len = bytes_of m DELTLEN 48;
  ba = bytes_of m DELTBA 48;
}

-- a state of bit allocation put into its cells: whether the parameters were sent, and their codes, come first
abbrev pub sent_of : Option Codes → List ℕ
sent_of None = 0 ∷ 0 ∷ 0 ∷ 0 ∷ 0 ∷ 0 ∷ []
sent_of (Some q) = 1 ∷ q.sdcycod ∷ q.fdcycod ∷ q.sgaincod ∷ q.dbpbcod ∷ q.floorcod ∷ []

unfoldable pub put_state : List ℕ → AllocState → List ℕ
put_state m a =
    put_all (put_all (put_all (put_all m BAI_SENT (sent_of a.parameters)) CSNROFFST (a.csnroffst ∷ a.cplfleak ∷ a.cplsleak ∷ []))
    FSNROFFST a.fsnroffst)
    FGAINCOD a.fgaincod

abbrev pub five_ones : List ℕ
five_ones = 1 ∷ 1 ∷ 1 ∷ 1 ∷ 1 ∷ []

-- the start of the audio blocks: a fresh state, no delta segments, the default band structures, nothing sent of coordinates and leaks
unfoldable pub fresh_by : List ℕ → List ℕ
fresh_by m =
    put_in
    (put_all
    (put_all
    (put_all
    (put_all (put_all (put_state m fresh_state) DELTNSEG (0 ∷ 0 ∷ 0 ∷ 0 ∷ 0 ∷ 0 ∷ [])) SPXBNDSTRC defspxbndstrc)
    CPLBNDSTRC defcplbndstrc)
    FIRSTSPXCOS five_ones)
    FIRSTCPLCOS five_ones)
    FIRSTCPLLEAK 1

-- the parameters of bamode 0 (TS 102 366 E.1.2.4, A/52 E2.2.4)
unfoldable pub defaults_by : List ℕ → List ℕ
defaults_by m = put_all m BAI_SENT (sent_of (Some (record { sdcycod = 2; fdcycod = 1; sgaincod = 1; dbpbcod = 2; floorcod = 7 })))

-- the pointers of the block, or 29
unfoldable pub allocate_in : State → Acted
allocate_in st =
    let o = allocated_of (alloc_state_of st.cells) (cell_of st.cells FSCOD % 3) (shape_of st.cells) (segments_in st.cells) st.bins.exps st.bins.baps in
    acted (number_in o.ended) (state st.cells (bins st.bins.exps o.baps))
