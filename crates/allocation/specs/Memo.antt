-- What the code keeps of the last allocation of each slot, so as to use its pointers again. The definition of a block knows nothing of it.
use Rattle.std.specs.Prelude.{◌≡◌, true, false, cond, Option, Some, None, List, [], ◌∷◌, ℕ, zero, suc, ◌+◌, ◌-◌, ◌*◌, ◌/◌, ◌%◌, ◌<◌, ◌≤◌, min, eqb, ltb, length, get_or}
use Rattle.tables.specs.BitAllocation.{fastgain}
use Rattle.alloc.specs.Allocation.{params_of, leak_of, allocation}
use Rattle.alloc.specs.declared.Params.{Params}
use Rattle.alloc.specs.declared.Channel.{Channel}
use Rattle.alloc.specs.declared.Deltas.{Deltas}
use Rattle.alloc.specs.declared.Leak.{Leak}
use Rattle.alloc.specs.declared.Pointers.{Pointers}
use Rattle.alloc.specs.declared.Pointers.TheVariants.{Bap, Hebap}
use Rattle.slots.specs.Slots.{CPL, LFE, requested_of}
use Rattle.slots.specs.declared.Shape.{Shape}
use Rattle.mantissas.specs.Tally.{packed, tally_of}
use Rattle.allocation.specs.State.{eight_of, Alike, silent_of, channel_of, kind_of, exps_in, pointed_of}
use Rattle.allocation.specs.Coded.{silenced}
use Rattle.allocation.specs.declared.AllocState.{AllocState}
use Rattle.kept.specs.Kept.{source_at}
use Rattle.kept.specs.declared.Source.{Source}

-- a byte of a word, counted from the lowest, and all eight
unfoldable pub byte_of : ℕ → ℕ → ℕ
byte_of w zero = w % 256
byte_of w (suc i) = byte_of (w / 256) i

abbrev pub eight_in : ℕ → List ℕ
eight_in w = byte_of w 0 ∷ byte_of w 1 ∷ byte_of w 2 ∷ byte_of w 3 ∷ byte_of w 4 ∷ byte_of w 5 ∷ byte_of w 6 ∷ byte_of w 7 ∷ []

-- these are the bytes of a word
pub record Packs (xs : List ℕ) (w : ℕ) : Type 0 where
  pub bytes : (k : ℕ) → k < 8 → byte_of w k ≡ get_or xs k 0

-- the arguments of an allocation in words. The slot's own: the number of segments, 1 or 2 for the kind, the channel
abbrev pub kind_by : ℕ → Pointers
kind_by own = cond (eqb (byte_of own 1) 2) Hebap Bap

abbrev pub start_by : ℕ → ℕ
start_by own = byte_of own 2 + 256 * byte_of own 3

abbrev pub end_by : ℕ → ℕ
end_by own = min (byte_of own 4) 253

abbrev pub channel_by : ℕ → Channel
channel_by own = record { start = start_by own; end = end_by own; fgain = get_or fastgain (byte_of own 5) 0; csnroffst = byte_of own 6; fsnroffst = byte_of own 7 }

-- what all slots have in common: the parameters, and the leaks of coupling
abbrev pub params_by : ℕ → Params
params_by common = params_of (byte_of common 0) (byte_of common 1) (byte_of common 2) (byte_of common 3) (byte_of common 4) (byte_of common 5)

abbrev pub leak_by : ℕ → ℕ → Option Leak
leak_by slot common = cond (eqb slot CPL) (Some (leak_of (byte_of common 6) (byte_of common 7))) None

-- and the segments
abbrev pub many_by : ℕ → ℕ → ℕ
many_by slot own = cond (ltb slot LFE) (min (byte_of own 0) 8) 0

abbrev pub deltas_by : ℕ → Source → Deltas
deltas_by slot s = record { n = many_by slot s.own; offset = eight_in s.offset; len = eight_in s.len; ba = eight_in s.ba }

unfoldable pub allocation_by : ℕ → Source → List ℕ → List ℕ
allocation_by slot s exps = allocation (kind_by s.own) exps (channel_by s.own) (params_by s.common) (leak_by slot s.common) (deltas_by slot s)

-- codes of three bits, and one of the three sampling rates
pub record CodedBy (common : ℕ) : Type 0 where
  pub fast : byte_of common 6 < 8
  pub slow : byte_of common 7 < 8
  pub rate : byte_of common 5 < 3

-- a slot's own word says this of it, and is 0 where the slot is not asked for
pub record Owned (own : ℕ) (st : AllocState) (shape : Shape) (n slot : ℕ) : Type 0 where
  pub none : requested_of shape slot ≡ false → own ≡ 0
  pub some : requested_of shape slot ≡ true → 0 < own
  pub many : requested_of shape slot ≡ true → byte_of own 0 ≡ n
  pub kind : requested_of shape slot ≡ true → kind_by own ≡ kind_of shape slot
  pub channel : requested_of shape slot ≡ true → channel_by own ≡ silenced (silent_of st shape) (channel_of st shape slot)

pub record Owns (own : List ℕ) (st : AllocState) (shape : Shape) (n : List ℕ) : Type 0 where
  pub size : length own ≡ 7
  pub at : (slot : ℕ) → slot < 7 → Owned (get_or own slot 0) st shape (cond (ltb slot LFE) (get_or n slot 0) 0) slot

-- as many segments as the word says, of those that are lent
unfoldable pub deltas_of : ℕ → List ℕ → List ℕ → List ℕ → ℕ → Deltas
deltas_of own offset len ba slot = record { n = many_by slot own; offset = eight_of offset (8 * slot); len = eight_of len (8 * slot); ba = eight_of ba (8 * slot) }

-- five words of which the first two are these, and the others say these segments
pub record Says (slot : ℕ) (s : Source) (w v : ℕ) (d : Deltas) : Type 0 where
  pub own : s.own ≡ w
  pub common : s.common ≡ v
  pub segments : Alike (deltas_by slot s) d

-- of a slot that is not stale the tally is that of its pointers
pub record Tallies (memo baps : List ℕ) : Type 0 where
  pub size : length memo ≡ 42
  pub sized : length baps ≡ 1792
  pub tally : (slot : ℕ) → slot < 7 → 0 < get_or memo (6 * slot) 0
      → get_or memo (6 * slot + 5) 0
      ≡ packed (tally_of baps slot (start_by (get_or memo (6 * slot) 0)) (end_by (get_or memo (6 * slot) 0) - start_by (get_or memo (6 * slot) 0)))

-- and its pointers are the allocation by what is kept and by the exponents that are held now
pub record Memo (memo exps baps : List ℕ) : Type 0 where
  pub tallies : Tallies memo baps
  pub right : (slot : ℕ) → slot < 7 → 0 < get_or memo (6 * slot) 0
      → (k : ℕ) → k < 256 → get_or baps (256 * slot + k) 0 ≡ get_or (allocation_by slot (source_at memo slot) (exps_in exps slot)) k 0

-- the pointers of a slot by its own word and by what all slots have in common, as they are where the word is 0; those of n slots from the slot `slot` on
module _ (common : ℕ) (offset len ba exps : List ℕ) where
  unfoldable pub point_by : ℕ → List ℕ → ℕ → List ℕ
  point_by own baps slot =
      cond (eqb own 0) baps
      (pointed_of baps slot (allocation (kind_by own) (exps_in exps slot) (channel_by own) (params_by common) (leak_by slot common) (deltas_of own offset len ba slot)))

  unfoldable pub points_by : List ℕ → List ℕ → ℕ → ℕ → List ℕ
  points_by own baps slot zero = baps
  points_by own baps slot (suc n) = points_by own (point_by (get_or own slot 0) baps slot) (suc slot) n

-- the pointers of the slots before `slot` are there already
pub record Passes (common : ℕ) (offset len ba own : List ℕ) (slot : ℕ) (memo : List ℕ) : Type 0 where
  pub within : slot ≤ 7
  pub there : (exps baps : List ℕ) → Memo memo exps baps → points_by common offset len ba exps own baps 0 7 ≡ points_by common offset len ba exps own baps slot (7 - slot)
