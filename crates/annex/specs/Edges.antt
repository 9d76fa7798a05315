-- Values at the edges: what the definitions give, beside what they must give, as rows of one table. Proved in proofs/Edges.antt.
use Rattle.std.specs.Prelude.{List, [], ◌∷◌, ℕ, ◌*◌, ℤ, pos, negsuc, ◌-ℤ◌, length, replicate}
use Rattle.reading.specs.Run.{Result, accepted, refused, Outcome, run}
use Rattle.reading.specs.Frame.{parse}
use Rattle.reading.specs.Room.{cut}
use Rattle.tables.specs.Bands.{band_of}
use Rattle.alloc.specs.Allocation.{snroffset}
use Rattle.slots.specs.Held.{bins}
use Rattle.cells.specs.Cells.{State, state, cell_of, put_in}
use Rattle.cells.specs.Names.{CHEXPSTR, CPL_SUBND_END, CPLEND, CPLINUS, CPLSTRE, CPLSTRT, ENDMANT, FRMSIZ, NCPLSUBND, NFCHANS, NUMBLKS, SPXINU, WIDTH}
use Rattle.sideinfo.specs.Frames.{blkstrtinfo_by}
use Rattle.rows.specs.Syntax.{Block, ◌⧺◌, meaning}
use Rattle.annex.specs.Audblk.{cpl_strategy, bandwidth}
use Rattle.annex.specs.Frame.{eac3}

pub record Edge : Type 0 where
  pub gives : List ℤ
  pub is : List ℤ

infix 70 ◌must-be◌
abbrev pub ◌must-be◌ : List ℤ → List ℤ → Edge
a must-be b = record { gives = a; is = b }

-- a refusal's number; 0 for an acceptance
abbrev pub number_of : Result State → ℤ
number_of (accepted st) = pos 0
number_of (refused n) = pos n

-- the number, the place and the count of records for a slice, and with room for n records
abbrev pub three : Outcome State → List ℤ
three o = number_of o.result ∷ pos o.place ∷ pos (length o.records) ∷ []

abbrev pub answer : List ℕ → List ℤ
answer s = three (parse eac3 s)

abbrev pub edge_answer : ℕ → List ℕ → List ℤ
edge_answer n s = three (cut n (parse eac3 s))

-- a part of a block, read from some bytes with these cells: the number, and then what some cells hold
abbrev pub held_after : Result State → (List ℕ → List ℤ) → List ℤ
held_after (accepted st) f = pos 0 ∷ f st.cells
held_after (refused n) f = pos n ∷ []

abbrev pub part : Block → List ℕ → List ℕ → (List ℕ → List ℤ) → List ℤ
part b m s f = held_after (run (meaning b (state m (bins [] []))) s 0 (8 * length s)).result f

-- block 0 with coupling, and spectral extension from its first sub-band; the bits are ecplinu, cplbegf and cplbndstrce
abbrev pub coupled : List ℕ
coupled = put_in (put_in (put_in (replicate 1024 0) CPLSTRE 1) CPLINUS 1) SPXINU 1

-- cplendf, the number of sub-bands, and the range of bins
abbrev pub coupling : List ℕ → List ℤ
coupling m = (pos (cell_of m CPL_SUBND_END) -ℤ pos 3) ∷ pos (cell_of m NCPLSUBND) ∷ pos (cell_of m CPLSTRT) ∷ pos (cell_of m CPLEND) ∷ []

-- one channel with new exponents; the bits are its chbwcod
abbrev pub alone : List ℕ
alone = put_in (put_in (replicate 1024 0) NFCHANS 1) CHEXPSTR 1

abbrev pub channel_end : List ℕ → List ℤ
channel_end m = pos (cell_of m ENDMANT) ∷ []

-- six blocks in a frame of this size
abbrev pub six_blocks : ℕ → List ℤ
six_blocks frmsiz = pos (cell_of (blkstrtinfo_by (put_in (put_in (replicate 1024 0) NUMBLKS 6) FRMSIZ frmsiz)) WIDTH) ∷ []

-- an accepted frame of 20 bytes, the shortest that was drawn: one block of one channel
abbrev pub shortest : List ℕ
shortest = 0x0B ∷ 0x77 ∷ 0x70 ∷ 0x09 ∷ 0x42 ∷ 0x6D ∷ 0xC0 ∷ 0x04 ∷ 0x60 ∷ 0x00 ∷ 0x01 ∷ 0x3E ∷ 0x7C ∷ 0xF9 ∷ 0xF3 ∷ 0xE7 ∷ 0xD6 ∷ 0x6D ∷ 0x00 ∷ 0x00 ∷ []

unfoldable pub edges : List Edge
edges =
    answer [] must-be (pos 1 ∷ pos 0 ∷ pos 0 ∷ [])
    ∷ answer (0x0B ∷ 0x77 ∷ 0xC0 ∷ 0 ∷ 0 ∷ 0x80 ∷ []) must-be (pos 3 ∷ pos 32 ∷ pos 4 ∷ [])
    ∷ answer (0x0B ∷ 0x77 ∷ 0 ∷ 0 ∷ 0 ∷ 0x80 ∷ []) must-be (pos 8 ∷ pos 32 ∷ pos 4 ∷ [])
    ∷ answer (0x0B ∷ 0x77 ∷ 0 ∷ 3 ∷ 0xC0 ∷ 0x80 ∷ []) must-be (pos 4 ∷ pos 32 ∷ pos 4 ∷ [])
    ∷ answer (0x0B ∷ 0x77 ∷ 0 ∷ 2 ∷ 0xC0 ∷ 0x80 ∷ []) must-be (pos 5 ∷ pos 34 ∷ pos 5 ∷ [])
    ∷ answer (0x0B ∷ 0x77 ∷ 0 ∷ 2 ∷ 0 ∷ 0x80 ∷ []) must-be (pos 8 ∷ pos 45 ∷ pos 9 ∷ [])
    -- bsid 0, 10, 11, 17; and bsid 8 where strmtyp is 3, in a frame of 2 bytes, in one of 8 and one of 6 with fscod 3, behind another sync word
    ∷ answer (0x0B ∷ 0x77 ∷ 0 ∷ 2 ∷ 0 ∷ 0 ∷ []) must-be (pos 6 ∷ pos 45 ∷ pos 1 ∷ [])
    ∷ answer (0x0B ∷ 0x77 ∷ 0 ∷ 2 ∷ 0 ∷ 0x50 ∷ []) must-be (pos 6 ∷ pos 45 ∷ pos 1 ∷ [])
    ∷ answer (0x0B ∷ 0x77 ∷ 0 ∷ 2 ∷ 0 ∷ 0x58 ∷ []) must-be (pos 8 ∷ pos 45 ∷ pos 9 ∷ [])
    ∷ answer (0x0B ∷ 0x77 ∷ 0 ∷ 2 ∷ 0 ∷ 0x88 ∷ []) must-be (pos 6 ∷ pos 45 ∷ pos 1 ∷ [])
    ∷ answer (0x0B ∷ 0x77 ∷ 0xC0 ∷ 0 ∷ 0 ∷ 0x40 ∷ []) must-be (pos 6 ∷ pos 45 ∷ pos 1 ∷ [])
    ∷ answer (0x0B ∷ 0x77 ∷ 0 ∷ 0 ∷ 0 ∷ 0x40 ∷ []) must-be (pos 6 ∷ pos 45 ∷ pos 1 ∷ [])
    ∷ answer (0x0B ∷ 0x77 ∷ 0 ∷ 3 ∷ 0xC0 ∷ 0x40 ∷ []) must-be (pos 6 ∷ pos 45 ∷ pos 1 ∷ [])
    ∷ answer (0x0B ∷ 0x77 ∷ 0 ∷ 2 ∷ 0xC0 ∷ 0x40 ∷ []) must-be (pos 6 ∷ pos 45 ∷ pos 1 ∷ [])
    ∷ answer (0x0B ∷ 0x76 ∷ 0 ∷ 2 ∷ 0 ∷ 0x40 ∷ []) must-be (pos 2 ∷ pos 16 ∷ pos 1 ∷ [])
    ∷ edge_answer 1 (0x0B ∷ 0x77 ∷ 0 ∷ 2 ∷ 0 ∷ 0x40 ∷ []) must-be (pos 6 ∷ pos 45 ∷ pos 1 ∷ [])
    ∷ edge_answer 0 (0x0B ∷ 0x77 ∷ 0 ∷ 2 ∷ 0 ∷ 0x40 ∷ []) must-be (pos 33 ∷ pos 0 ∷ pos 0 ∷ [])
    ∷ answer shortest must-be (pos 0 ∷ pos 160 ∷ pos 45 ∷ [])
    ∷ part (cpl_strategy ⧺ bandwidth) coupled (0 ∷ []) coupling must-be (pos 0 ∷ negsuc 1 ∷ pos 1 ∷ pos 37 ∷ pos 49 ∷ [])
    ∷ part cpl_strategy coupled (8 ∷ []) coupling must-be (pos 22 ∷ [])
    ∷ part bandwidth alone (240 ∷ []) channel_end must-be (pos 0 ∷ pos 253 ∷ [])
    ∷ part bandwidth alone (244 ∷ []) channel_end must-be (pos 10 ∷ [])
    ∷ six_blocks 1023 must-be (pos 70 ∷ [])
    ∷ six_blocks 1024 must-be (pos 75 ∷ [])
    ∷ (pos (band_of 0) ∷ pos (band_of 36) ∷ pos (band_of 37) ∷ pos (band_of 252) ∷ []) must-be (pos 0 ∷ pos 30 ∷ pos 31 ∷ pos 49 ∷ [])
    ∷ (snroffset 0 0 ∷ snroffset 15 0 ∷ snroffset 63 15 ∷ []) must-be (negsuc 959 ∷ pos 0 ∷ pos 3132 ∷ [])
    ∷ []
