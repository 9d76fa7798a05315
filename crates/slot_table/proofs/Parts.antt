-- Laws of the table's parts. Assumes nothing.
use Rattle.bits.specs.declared.ByteCount.{ByteCount}
use Rattle.std.proofs.Common.{◌≡◌, ◌<◌, ◌≤◌, ◌+◌, ◌*◌, ◌∙◌, ℕ, List, [], ◌∷◌, ◌++◌, min, refl, ap, get_or, length, take, drop, sym, length-drop, length-take-le, get_or-drop, get_or-take, add-one, arith}
use Rattle.names.specs.Spelling.{bytes}
use Rattle.answer.specs.Answer.{bits_in}
use Rattle.sideinfo.specs.Steps.{sum_of}
use Rattle.slot_table.proofs.Eight.{eight}
use Rattle.columns.specs.Columns.{heading_of, channels_of}
use Rattle.answer.specs.declared.Frame.{Frame}
use Rattle.answer.specs.declared.SlotBits.{SlotBits}
use Rattle.slot_table.specs.SlotTable.{bits_of, eight_of, slot_sum, line_of, rows_of, sums_of, table_of}
use Rattle.std.specs.Prelude.{Some, None}

-- the parts of the table are those of the frame
pub as_sums : (blocks : List SlotBits) (channels : ℕ) (frame : ByteCount) {all : List ℕ} → all ≡ eight_of (slot_sum blocks)
    → bytes "  sum" ++ line_of None all channels ++ bytes "    %" ++ line_of (Some frame) all channels ≡ sums_of blocks channels frame
unfolding sums_of
as_sums blocks channels frame e = rw e refl

pub as-table : (f : Frame) {n blocks : ℕ} → n ≡ channels_of f.acmod → blocks ≡ min f.numblks 6
    → heading_of f.acmod ++ (bytes "    sum" ++ (10 ∷ [])) ++ rows_of f.slot_bits n blocks ++ sums_of f.slot_bits n f.bytes ≡ table_of f
as-table f e d = rw (e, d) refl

-- the bits of a slot in one block more, whose number is the next, and how many they are at most
pub one_more : (blocks : List SlotBits) (slot sum i : ℕ) → sum ≡ sum_of (λ b. bits_in blocks b slot) i → (k : ℕ) → k ≡ i → sum + bits_in blocks k slot ≡ sum_of (λ b. bits_in blocks b slot) (i + 1)
unfolding sum_of
one_more blocks slot sum i e k h =
    ap (λ n. n + bits_in blocks k slot) e ∙ ap (λ j. sum_of (λ b. bits_in blocks b slot) i + bits_in blocks j slot) h
    ∙ sym (ap (sum_of (λ b. bits_in blocks b slot)) (add-one i))

pub most_more : {sum x : ℕ} (i : ℕ) → sum ≤ 65535 * i → x ≤ 65535 → sum + x ≤ 65535 * (i + 1)
most_more i h l = omega arith

-- a list of one block
one_bits : (blocks : List SlotBits) (b slot : ℕ) → b < length blocks → bits_of (take 1 (drop b blocks)) slot ≡ bits_in blocks b slot
unfolding sum_of
one_bits blocks b slot h =
    let part = take 1 (drop b blocks) in
    let none : SlotBits = record { bits = [] } in
    let long : length part ≡ 1 = length-take-le 1 (drop b blocks) (let d = length-drop b blocks in omega arith) in
    let place : b + 0 ≡ b = omega arith in
    let first : get_or part 0 none ≡ get_or blocks b none = get_or-take 1 (drop b blocks) 0 none (omega arith) ∙ get_or-drop b blocks 0 none ∙ ap (λ i. get_or blocks i none) place in
    let one : sum_of (λ i. bits_in part i slot) 1 ≡ bits_in part 0 slot = omega arith in
    ap (sum_of (λ i. bits_in part i slot)) long ∙ one ∙ ap (λ s. get_or s.bits slot 0) first

pub one_block : (blocks : List SlotBits) (b k : ℕ) → b < length blocks → k ≡ 1 → eight_of (bits_of (take k (drop b blocks))) ≡ eight_of (bits_in blocks b)
one_block blocks b k h e =
    let f : (slot : ℕ) → bits_of (take 1 (drop b blocks)) slot ≡ bits_in blocks b slot = λ slot. one_bits blocks b slot h in
    ap (λ k. eight_of (bits_of (take k (drop b blocks)))) e
    ∙ sym (eight (bits_of (take 1 (drop b blocks))) refl refl refl refl refl refl refl)
    ∙ eight (bits_in blocks b) (f 0) (f 1) (f 2) (f 3) (f 4) (f 5) (f 6)
