-- The syntax of an E-AC-3 syncframe (A/52 Annex E, TS 102 366 Annex E): the header, and the body after it. The tail is that of every frame (reading/specs/Frame).
-- Clauses are cited by TS 102 366 V1.4.1 and by A/52, where E.1.2.x is E2.2.x, E.1.3.x is E2.3.x and E.2.x is E3.x.
-- Who reads the pages may forget that cells are 1,024 numbers of 16 bits and that derivations cut what they take to its width: along every reading no item's
-- value and no sum or product of a derivation wraps (cuts/specs/Unwrapped), and addresses, parts of records, slots, codes and ends lie where they are cut to
-- (cuts/specs/Unclamped, unmet/specs/Unmet). Inside a derivation an address is a cell's number and an index, a channel, a block, a slot or a sub-band, and a table
-- is looked up by a code: their bounds are among those (and bounds/specs/Bounds). The tail is defined on numbers, without cells.
use Rattle.cells.specs.Names.{AUDIO_END, BLK, BLOCK, NUMBLKS}
use Rattle.rows.specs.Syntax.{Here, Block, end, ◌⨾◌, ◌⧺◌, each, put, cell, from, upto, number}
use Rattle.annex.specs.Syncinfo.{syncinfo, bsi_size}
use Rattle.annex.specs.Bsi.{bsi}
use Rattle.annex.specs.Audfrm.{audfrm}
use Rattle.annex.specs.Audblk.{audblk}

-- after syncinfo bsid is looked at ahead (specs/Frame)
unfoldable pub header : Block
header = syncinfo ⧺ bsi_size

unfoldable pub audblks : Block
audblks =
    each BLK (from 0) (upto NUMBLKS) audblk
    ⨾ put (cell BLOCK) (number 0)
    ⨾ put (cell AUDIO_END) Here
    ⨾ end

unfoldable pub body : Block
body = bsi ⧺ audfrm ⧺ audblks
