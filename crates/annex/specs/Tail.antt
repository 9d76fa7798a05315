-- The rows of a frame's tail, auxdata and errorcheck (A/52 clauses 5.3.4, 5.3.5, E2.2.5, E2.2.6; TS 102 366 clauses 4.3.4, 4.3.5, E.1.2.5, E.1.2.6).
-- Their meaning is the tail of every frame (reading/specs/Frame), which proofs/Tails shows.
use Rattle.names.specs.Names.{auxbits, auxdatae, auxdatal, crc2, encinfo}
use Rattle.cells.specs.Names.{AFTER_AUDIO, AFTER_AUXDATAE, AUXDATAE, AUXDATAL, FRAME_END, WIDTH}
use Rattle.rows.specs.Syntax.{Word, Is, Not, Under, Over, Here, Less, Minus, Block, end, ◌⨾◌, element, span, when, reject, reject_at, put, held, cell, no, none}

unfoldable pub tail : Block
tail =
    put (cell AFTER_AUDIO) Here
    ⨾ put (cell AFTER_AUDIO) (Minus (cell FRAME_END) AFTER_AUDIO)
    ⨾ put (cell AFTER_AUXDATAE) (Less 17 1 (cell FRAME_END))
    ⨾ reject (Under (cell AFTER_AUDIO) (Word 18)) 30
    ⨾ when (Is (cell AUXDATAE) 1)
    (reject_at (Under (cell AFTER_AUDIO) (Word 32)) 31 AFTER_AUXDATAE
    ⨾ put (cell WIDTH) (Less 32 1 (cell AFTER_AUDIO))
    ⨾ span auxbits WIDTH
    ⨾ element auxdatal none 14 (cell AUXDATAL)
    ⨾ reject_at (Over (cell AUXDATAL) (held WIDTH)) 32 AFTER_AUXDATAE
    ⨾ end)
    ⨾ when (Not (cell AUXDATAE) 1) (put (cell WIDTH) (Less 18 1 (cell AFTER_AUDIO)) ⨾ span auxbits WIDTH ⨾ end)
    ⨾ element auxdatae none 1 no
    ⨾ element encinfo none 1 no
    ⨾ element crc2 none 16 no
    ⨾ end
