-- For each block of an accepted frame the bits of its slots add up to the width of its mantissas record, and a slot that is not in use, or was read before, has none.
-- Of six blocks those that the frame has not have none.
use Rattle.std.specs.Prelude.{ℕ, ◌≤◌, ◌<◌, ◌≡◌, true, false, List, pos, get_or}
use Rattle.names.specs.Names.{mantissas}
use Rattle.tables.specs.Small.{nfchans}
use Rattle.slots.specs.Slots.{CPL, LFE}
use Rattle.sideinfo.specs.Steps.{sum_of}
use Rattle.answer.specs.Answer.{bits_in}
use Rattle.demands.specs.Calls.{Call, count, nth, Accepts}

module _ {s : List ℕ} where
  -- the bits of a slot in the block j
  abbrev pub bits_of : Call s → ℕ → ℕ → ℕ
  bits_of c = bits_in c.answer.frame.slot_bits

  -- the mantissas record of the block j, as wide as the bits of its seven slots
  pub record MantissasOf (c : Call s) (j : ℕ) : Type 0 where
    pub place : ℕ
    pub among : place < count c
    pub name : (nth c place).name ≡ mantissas
    pub block : (nth c place).block ≡ pos j
    pub width : (nth c place).width ≡ sum_of (bits_of c j) 7

  -- in the block j: a channel past those of acmod, LFE where lfeon is not set, coupling where no block uses it, and a slot of the adaptive hybrid transform that has bits
  -- in an earlier block
  pub record NoBitsOf (c : Call s) (j : ℕ) : Type 0 where
    pub channels : (ch : ℕ) → get_or nfchans c.answer.frame.acmod 0 ≤ ch → ch < 5 → bits_of c j ch ≡ 0
    pub lfe : c.answer.frame.lfeon ≡ false → bits_of c j LFE ≡ 0
    pub coupling : c.answer.frame.cpl_blocks ≡ 0 → bits_of c j CPL ≡ 0
    pub hybrid : (slot i : ℕ) → slot < 7 → i < j → get_or c.answer.frame.aht_slots slot false ≡ true → 0 < bits_of c i slot → bits_of c j slot ≡ 0

pub record SlotBits (s : List ℕ) (c : Call s) : Type 0 where
  pub adds_up : Accepts c → (j : ℕ) → j < c.answer.frame.numblks → MantissasOf c j
  pub unused : Accepts c → (j : ℕ) → j < c.answer.frame.numblks → NoBitsOf c j
  pub others : Accepts c → (j slot : ℕ) → c.answer.frame.numblks ≤ j → j < 6 → slot < 7 → bits_of c j slot ≡ 0
