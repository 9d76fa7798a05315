-- The slots of a block (A/52 clauses 5.3.3 and E2.2.4, TS 102 366 clauses 4.3.3 and E.1.2.4).
use Rattle.std.specs.Prelude.{Bool, false, ◌&&◌, not, cond, List, ℕ, ◌+◌, ◌*◌, min, eqb, ltb, get_or}
use Rattle.slots.specs.declared.Shape.{Shape}
use Rattle.slots.specs.declared.Range.{Range}

-- the slots after the five full bandwidth channels: the coupling channel and the LFE channel
abbrev pub CPL : ℕ
CPL = 5

abbrev pub LFE : ℕ
LFE = 6

-- bap[bin] or hebap[bin] of a slot
unfoldable pub pointer : List ℕ → ℕ → ℕ → ℕ
pointer baps slot bin = get_or baps (256 * slot + bin) 0

-- the bins of a slot, of which there are at most 253
unfoldable pub range_of : Shape → ℕ → Range
range_of shape slot =
    cond (eqb slot CPL) (record { start = shape.cplstrt; end = min shape.cplend 253 })
    (cond (eqb slot LFE) (record { start = 0; end = 7 })
    (record { start = 0; end = min (get_or shape.endmant slot 0) 253 }))

-- whether the block has the slot
unfoldable pub used_of : Shape → ℕ → Bool
used_of shape slot =
    cond (eqb slot CPL) shape.cplinu
    (cond (eqb slot LFE) shape.lfeon (ltb slot (min shape.nfchans 5)))

-- a slot of the adaptive hybrid transform is read once, for all blocks of the frame
unfoldable pub read_of : Shape → ℕ → Bool
read_of shape slot = get_or shape.ahtinu slot false && get_or shape.ahtread slot false

-- the slots whose pointers are asked for
unfoldable pub requested_of : Shape → ℕ → Bool
requested_of shape slot = used_of shape slot && not (read_of shape slot)
