-- The slots that have no bits: those that a block has not, and those of the adaptive hybrid transform that were read before, since one reading serves all blocks
-- of the frame (A/52 E2.2.4, TS 102 366 E.1.2.4). Proved in proofs/NoBits.antt, and of a frame in proofs/Sums.antt and proofs/Zeros.antt.
use Rattle.std.specs.Prelude.{◌≡◌, Bool, true, false, ◌&&◌, List, ℕ, suc, ◌+◌, ◌*◌, min, ◌≤◌, ◌<◌, get_or}
use Rattle.reading.specs.Run.{accepted, skim, run}
use Rattle.reading.specs.Frame.{headed}
use Rattle.slots.specs.Slots.{CPL, LFE, requested_of}
use Rattle.slots.specs.declared.Shape.{Shape}
use Rattle.cells.specs.Cells.{State, cell_of}
use Rattle.cells.specs.Names.{AHTINU, CPLINUS, LFEON, NFCHANS, NUMBLKS}
use Rattle.sideinfo.specs.Blocks.{flag_of}
use Rattle.sideinfo.specs.Shapes.{shape_of}
use Rattle.derivations.specs.Mantissas.{mantissas_in}
use Rattle.rows.specs.Syntax.{meaning}
use Rattle.annex.specs.Annex.{body}
use Rattle.annex.specs.Frame.{bytes_of, eac3}
use Rattle.slot_sums.specs.SlotSums.{slot_bits}

-- the bits of a slot by what the walk through a block's mantissas tells: the tags, then the bits of each slot
abbrev pub bits_told : List ℕ → ℕ → ℕ
bits_told v slot = get_or v (suc slot) 0

-- a channel is coupled
abbrev pub coupled_of : Shape → ℕ → Bool
coupled_of shape ch = shape.cplinu && get_or shape.chincpl ch false

-- a slot takes no bits where its pointers are not asked for: the block has it not, or it was read before. Nor does coupling where no channel is coupled
pub record NoneTaken (shape : Shape) (v : List ℕ) : Type 0 where
  pub unasked : (slot : ℕ) → slot < 7 → requested_of shape slot ≡ false → bits_told v slot ≡ 0
  pub uncoupled : ((ch : ℕ) → ch < min shape.nfchans 5 → coupled_of shape ch ≡ false) → bits_told v CPL ≡ 0

-- whatever the state and the buffer, of a walk through a block's mantissas that is accepted
abbrev pub UnaskedTakeNone : Type 0
UnaskedTakeNone = (st : State) (s : List ℕ) (p l : ℕ) (v : List ℕ) → (skim (mantissas_in st) s p l).result ≡ accepted v → NoneTaken (shape_of st.cells) v

-- in the block j: a channel past those of acmod, LFE where lfeon is not set, coupling where cplinu of the block is not, and a slot of the adaptive hybrid transform that has
-- bits in an earlier block
pub record NoBits (m : List ℕ) (j : ℕ) : Type 0 where
  pub channels : (ch : ℕ) → cell_of m NFCHANS ≤ ch → ch < 5 → slot_bits m j ch ≡ 0
  pub lfe : flag_of m LFEON ≡ false → slot_bits m j LFE ≡ 0
  pub coupling : flag_of m (CPLINUS + j) ≡ false → slot_bits m j CPL ≡ 0
  pub hybrid : (slot i : ℕ) → slot < 7 → i < j → flag_of m (AHTINU + slot) ≡ true → 0 < slot_bits m i slot → slot_bits m j slot ≡ 0

-- the cells of a body that is read to its end, whatever the buffer
abbrev pub AtBodyEnd : (List ℕ → Type 0) → Type 0
AtBodyEnd P =
    (s : List ℕ) (h st : State) → (headed eac3 s).result ≡ accepted h
    → (run (meaning body h) s (headed eac3 s).place (8 * bytes_of h)).result ≡ accepted st → P st.cells

-- of every block of the frame; and of a block that the frame has not, every slot
abbrev pub UnusedHaveNone : Type 0
UnusedHaveNone = AtBodyEnd (λ m. (j : ℕ) → j < cell_of m NUMBLKS → NoBits m j)

abbrev pub OtherBlocksHaveNone : Type 0
OtherBlocksHaveNone = AtBodyEnd (λ m. (j slot : ℕ) → cell_of m NUMBLKS ≤ j → j < 6 → slot < 7 → slot_bits m j slot ≡ 0)
