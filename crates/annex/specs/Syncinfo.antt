-- The header: syncinfo (TS 102 366 E.1.2.1, A/52 E2.2.1), and bsi (E.1.2.2, E2.2.2) up to frmsiz, which announces the size of the frame. Each element with its name, index,
-- width in bits, and the cell that keeps its value for what steers the rest.
use Rattle.names.specs.Names.{frmsiz, strmtyp, substreamid, syncword}
use Rattle.cells.specs.Names.{FRMSIZ, STRMTYP, SUBSTREAMID, SYNCWORD}
use Rattle.rows.specs.Syntax.{Word, Is, Differs, Block, end, ◌⨾◌, element, reject, cell, none}

-- the sync word is 0x0B77
unfoldable pub syncinfo : Block
syncinfo =
    element syncword none 16 (cell SYNCWORD)
    ⨾ reject (Differs (cell SYNCWORD) (Word 0x0B77)) 2
    ⨾ end

-- bsi up to frmsiz; strmtyp 3 is reserved
unfoldable pub bsi_size : Block
bsi_size =
    element strmtyp none 2 (cell STRMTYP)
    ⨾ element substreamid none 3 (cell SUBSTREAMID)
    ⨾ element frmsiz none 11 (cell FRMSIZ)
    ⨾ reject (Is (cell STRMTYP) 3) 3
    ⨾ end
