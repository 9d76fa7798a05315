-- Numbers written one after another. Assumes nothing.
use mathlib.Core.Path.{◌≡◌, refl, sym, ap, ap₂, ◌∙◌}
use mathlib.Core.List.{List, ◌∷◌}
use mathlib.Core.Bool.{Bool, true, false}
use Prim.Native.Nat.{ℕ, zero, suc, ◌+◌, ◌*◌, ◌<◌, ◌≤◌}
use native.Mathlib.Numerals.{add-one}
use native.Mathlib.Omega.{arith}
use lib.ListN.{length, get_or, set}
use lib.Seq.{paste, paste-zero, paste-suc}
use mir.Val.{bool_byte}
use Rattle.reading.specs.Run.{Result, accepted, refused}
use Rattle.reading.specs.Room.{Out}
use Rattle.cells.specs.Cells.{State}
use Rattle.answer.specs.declared.Answer.{Answer}
use Rattle.answer.specs.declared.Frame.{Frame}
use Rattle.answer.specs.declared.SlotBits.{SlotBits}
use Rattle.answer_c.specs.Numbers.{bit_of, written, laid, block_bits, bits_laid, laid_of, frame_numbers}
use Rattle.answer_c.specs.Parts.{Bare, refusal_laid}
use Rattle.answer.specs.Answer.{nothing, answer_by, answer_of, number_of, place_of, count_of}

pub written-more : (m : List ℕ) (k : ℕ) (vs x : List ℕ) (i v : ℕ) → x ≡ written m k vs i → v ≡ get_or vs i 0 → set x (i + k) v ≡ written m k vs (i + 1)
unfolding written
written-more m k vs x i v ex ev = rw (add-one i, ex, ev)

-- numbers written one after another are pasted
pub written-pasted : (m : List ℕ) (k : ℕ) (vs : List ℕ) (n : ℕ) → k + n ≤ length m → n ≤ length vs → written m k vs n ≡ paste m k vs n
unfolding written
written-pasted m k vs zero g h = paste-zero m k vs
written-pasted m k vs (suc n) g h =
    let below : n < length vs = omega arith in
    let swap : n + k ≡ k + n = omega arith in
    rw (swap, written-pasted m k vs n (omega arith) (omega arith)) (paste-suc m k vs n 0 (omega arith) below)

-- the bits of the slots of one block more
pub bits-more : (m : List ℕ) (ts : List SlotBits) (x y : List ℕ) (i n : ℕ) → x ≡ bits_laid m ts i → y ≡ written x (34 + 7 * i) (block_bits ts i) n → n ≡ 7 → y ≡ bits_laid m ts (i + 1)
unfolding bits_laid
bits-more m ts x y i n ex ey en = ey ∙ rw (add-one i, ex, en) refl

-- the bit of a flag
pub bit-is : (b : Bool) → bool_byte b ≡ bit_of b
bit-is true = refl
bit-is false = refl

-- two lists that begin alike and go on alike
pub also : {x y : ℕ} {xs ys : List ℕ} → x ≡ y → xs ≡ ys → (x ∷ xs) ≡ (y ∷ ys)
also e es = ap₂ ◌∷◌ e es

-- numbers written, and what they are of an answer
pub laid-are : (m x y vs : List ℕ) (n p k : ℕ) (a : Answer) → y ≡ bits_laid x a.frame.slot_bits 6 → x ≡ laid m n p k vs → n ≡ number_of a → p ≡ place_of a → k ≡ count_of a → vs ≡ frame_numbers a.frame → y ≡ laid_of m a
laid-are m x y vs n p k a d e f g h i = d ∙ rw e (rw f (rw g (rw h (rw i refl))))

-- those of a refusal: the numbers of its frame and the bits of its slots are 0
none-numbers : (m : List ℕ) (n p k : ℕ) → refusal_laid m n p k ≡ bits_laid (laid m n p k (frame_numbers nothing)) nothing.slot_bits 6
unfolding refusal_laid laid bits_laid written frame_numbers
none-numbers m n p k = refl

pub laid_none : (m y : List ℕ) (n p k : ℕ) (a : Answer) → a.frame ≡ nothing → y ≡ refusal_laid m n p k → n ≡ number_of a → p ≡ place_of a → k ≡ count_of a → y ≡ laid_of m a
laid_none m y n p k a e d f g h =
    d ∙ none-numbers m n p k ∙ rw f (rw g (rw h (ap (λ (x : Frame). bits_laid (laid m (number_of a) (place_of a) (count_of a) (frame_numbers x)) x.slot_bits 6) (sym e))))

-- the answer of a reading has no frame where it is a refusal
bare-by : (r : Result State) (p n : ℕ) → Bare (answer_by r p n)
bare-by (accepted st) p n h = absurd (h refl)
bare-by (refused k) p n h = refl

pub bare-answer : (o : Out State) → Bare (answer_of o)
unfolding answer_of
bare-answer o = bare-by o.result o.place o.count
