-- Values at the edges of the settop entry: number, place and count of slices of 6 bytes, by their header. Proved in proofs/SettopEdges.antt.
use Rattle.std.specs.Prelude.{List, [], ◌∷◌, ℕ, ℤ, pos}
use Rattle.reading.specs.Frame.{parse}
use Rattle.reading.specs.Room.{cut}
use Rattle.annex.specs.Edges.{Edge, ◌must-be◌, three, answer}
use Rattle.eac3.specs.Called.{settop}

abbrev pub settop_answer : List ℕ → List ℤ
settop_answer s = three (parse settop s)

abbrev pub settop_with : ℕ → List ℕ → List ℤ
settop_with n s = three (cut n (parse settop s))

-- frmsiz 768: a frame of 1,538 bytes
abbrev pub longer : List ℕ
longer = 0x0B ∷ 0x77 ∷ 0x03 ∷ 0x00 ∷ 0x00 ∷ 0x80 ∷ []

unfoldable pub settop_edges : List Edge
settop_edges =
    settop_answer [] must-be (pos 1 ∷ pos 0 ∷ pos 0 ∷ [])
    -- frmsiz 767: the slice is shorter than its frame of 1,536 bytes
    ∷ settop_answer (0x0B ∷ 0x77 ∷ 0x02 ∷ 0xFF ∷ 0x00 ∷ 0x80 ∷ []) must-be (pos 4 ∷ pos 32 ∷ pos 4 ∷ [])
    -- frmsiz 768, here and at the full entry; frmsiz 2047
    ∷ settop_answer longer must-be (pos 46 ∷ pos 32 ∷ pos 4 ∷ [])
    ∷ answer longer must-be (pos 4 ∷ pos 32 ∷ pos 4 ∷ [])
    ∷ settop_answer (0x0B ∷ 0x77 ∷ 0x07 ∷ 0xFF ∷ 0x00 ∷ 0x80 ∷ []) must-be (pos 46 ∷ pos 32 ∷ pos 4 ∷ [])
    -- with strmtyp 3, with bsid 8, behind another sync word
    ∷ settop_answer (0x0B ∷ 0x77 ∷ 0xC3 ∷ 0x00 ∷ 0x00 ∷ 0x80 ∷ []) must-be (pos 3 ∷ pos 32 ∷ pos 4 ∷ [])
    ∷ settop_answer (0x0B ∷ 0x77 ∷ 0x03 ∷ 0x00 ∷ 0x00 ∷ 0x40 ∷ []) must-be (pos 6 ∷ pos 45 ∷ pos 1 ∷ [])
    ∷ settop_answer (0x0B ∷ 0x76 ∷ 0x03 ∷ 0x00 ∷ 0x00 ∷ 0x80 ∷ []) must-be (pos 2 ∷ pos 16 ∷ pos 1 ∷ [])
    -- with room for 0, 3 and 4 records
    ∷ settop_with 0 longer must-be (pos 33 ∷ pos 0 ∷ pos 0 ∷ [])
    ∷ settop_with 3 longer must-be (pos 33 ∷ pos 21 ∷ pos 3 ∷ [])
    ∷ settop_with 4 longer must-be (pos 46 ∷ pos 32 ∷ pos 4 ∷ [])
    ∷ []
