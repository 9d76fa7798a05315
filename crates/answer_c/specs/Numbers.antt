-- An answer as 76 numbers, for hosts outside.
use Rattle.std.specs.Prelude.{Bool, true, false, List, [], ◌∷◌, ℕ, zero, suc, ◌+◌, ◌*◌, get_or, set}
use Rattle.bits.specs.declared.BitPlace.{BitPlace}
use Rattle.answer.specs.Answer.{place_at, number_of, place_of, count_of}
use Rattle.answer.specs.declared.Answer.{Answer}
use Rattle.answer.specs.declared.Frame.{Frame}
use Rattle.answer.specs.declared.SlotBits.{SlotBits}

abbrev pub bit_of : Bool → ℕ
bit_of true = 1
bit_of false = 0

-- one of a frame's starts, in bits
abbrev start_at : List BitPlace → ℕ → ℕ
start_at ps i = (get_or ps i (place_at 0)).0

-- bytes, bsid, acmod, lfeon, fscod, strmtyp, substreamid, numblks; six starts of blocks, six of mantissas; the end of the audio, tags, seven slots,
-- blocks with spectral extension, blocks with coupling
unfoldable pub frame_numbers : Frame → List ℕ
frame_numbers f =
    let b = f.block_starts in
    let m = f.mantissa_starts in
    let s = f.aht_slots in
    f.bytes.0
    ∷ f.bsid
    ∷ f.acmod
    ∷ bit_of f.lfeon
    ∷ f.fscod
    ∷ f.strmtyp
    ∷ f.substreamid
    ∷ f.numblks
    ∷ start_at b 0
    ∷ start_at b 1
    ∷ start_at b 2
    ∷ start_at b 3
    ∷ start_at b 4
    ∷ start_at b 5
    ∷ start_at m 0
    ∷ start_at m 1
    ∷ start_at m 2
    ∷ start_at m 3
    ∷ start_at m 4
    ∷ start_at m 5
    ∷ f.audio_end.0
    ∷ f.aht_tags
    ∷ bit_of (get_or s 0 false)
    ∷ bit_of (get_or s 1 false)
    ∷ bit_of (get_or s 2 false)
    ∷ bit_of (get_or s 3 false)
    ∷ bit_of (get_or s 4 false)
    ∷ bit_of (get_or s 5 false)
    ∷ bit_of (get_or s 6 false)
    ∷ f.spx_blocks
    ∷ f.cpl_blocks
    ∷ []

-- a list with the first n of some numbers from the place k on
unfoldable pub written : List ℕ → ℕ → List ℕ → ℕ → List ℕ
written m k vs zero = m
written m k vs (suc n) = set (written m k vs n) (n + k) (get_or vs n 0)

-- a list with number, place and count in its first three places, and then the frame's numbers
unfoldable pub laid : List ℕ → ℕ → ℕ → ℕ → List ℕ → List ℕ
laid m number place count frame = written (set (set (set m 0 number) 1 place) 2 count) 3 frame 31

-- the bits of the slots of a block
abbrev pub block_bits : List SlotBits → ℕ → List ℕ
block_bits ts b = (get_or ts b (record { bits = [] })).bits

-- a list with the bits of the slots of the first n blocks, seven for each, from the place 34 on
unfoldable pub bits_laid : List ℕ → List SlotBits → ℕ → List ℕ
bits_laid m ts zero = m
bits_laid m ts (suc n) = written (bits_laid m ts n) (34 + 7 * n) (block_bits ts n) 7

abbrev pub laid_of : List ℕ → Answer → List ℕ
laid_of m a = bits_laid (laid m (number_of a) (place_of a) (count_of a) (frame_numbers a.frame)) a.frame.slot_bits 6
