-- An E-AC-3 syncframe as a format: its header, in which bsid is looked at ahead, the size that it announces, its body, and the names of its tail.
use Rattle.std.specs.Prelude.{◌&&◌, List, ℕ, ◌+◌, ◌*◌, leb, replicate}
use Rattle.bits.specs.Bits.{bits_at}
use Rattle.names.specs.Names.{auxbits, auxdatal, auxdatae, encinfo, crc2}
use Rattle.reading.specs.Frame.{TailNames, Look, Format}
use Rattle.slots.specs.Held.{bins}
use Rattle.cells.specs.Cells.{State, state, cell_of}
use Rattle.cells.specs.Names.{FRMSIZ}
use Rattle.rows.specs.Syntax.{meaning}
use Rattle.annex.specs.Syncinfo.{syncinfo, bsi_size}
use Rattle.annex.specs.Annex.{body}

-- nothing is read yet
unfoldable pub start : State
start = state (replicate 1024 0) (bins (replicate 1792 0) (replicate 1792 0))

abbrev pub tail_names : TailNames
tail_names = record { auxbits = auxbits; auxdatal = auxdatal; auxdatae = auxdatae; reserved = encinfo; crc2 = crc2 }

-- a frame has 2 (frmsiz + 1) bytes
abbrev pub bytes_of : State → ℕ
bytes_of st = 2 * (cell_of st.cells FRMSIZ + 1)

-- and a buffer announces them by its bits 21 to 31
abbrev pub announced_by : List ℕ → ℕ
announced_by b = 2 * (bits_at b 21 11 + 1)

-- bsid, the bits 40 to 44 of AC-3 and of E-AC-3 frames: 11 to 16 are E-AC-3's (TS 102 366 E.1.3.1, A/52 E2.3.1), others are refusal 6
abbrev pub bsid_ahead : Look
bsid_ahead = record { first = 40; width = 5; good = λ v. leb 11 v && leb v 16; number = 6 }

unfoldable pub eac3 : Format State State
eac3 = record {
  names = tail_names;
  opening = meaning syncinfo start;
  look = bsid_ahead;
  rest = meaning bsi_size;
  bytes = bytes_of;
  body = meaning body;
  announced = announced_by;
}
