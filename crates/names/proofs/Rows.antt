-- Laws of spellings in a row. Assumes nothing.
use Prim.Native.Nat.{ℕ, zero, suc, ◌+◌, ◌-◌, ◌*◌, ◌≤◌, ◌<◌}
use mathlib.Core.Path.{◌≡◌, refl, sym, ap, ◌∙◌}
use mathlib.Core.Bool.{Bool, true, ◌&&◌}
use mathlib.Core.List.{List, [], ◌∷◌}
use native.Mathlib.Omega.{arith}
use lib.Dec.{T, leb, leb→le}
use lib.ListN.{length, get_or, take, drop, get_or-append}
use lib.Seq.{get_or-append-add, ext_get_or}
use Rattle.std.proofs.lemmas.List.{length-append, length-take-le, length-drop, get_or-take, get_or-drop}
use Rattle.names.specs.Names.{names}
use Rattle.names.proofs.Bools.{and_left, and_right}
use Rattle.names.specs.Spelling.{spellings, spelling_of, bytes, padded, in_row, rows}

pub padded-length : (n : ℕ) (l : List ℕ) → length (padded n l) ≡ n
unfolding padded
padded-length zero l = refl
padded-length (suc n) [] = ap suc (padded-length n [])
padded-length (suc n) (x ∷ l) = ap suc (padded-length n l)

-- the letters of a word stand before the blanks
pub padded-word : (n : ℕ) (l : List ℕ) → length l ≤ n → take (length l) (padded n l) ≡ l
unfolding padded
padded-word n [] h = refl
padded-word zero (x ∷ l) h = absurd (let z : ⊥ = omega arith in z)
padded-word (suc n) (x ∷ l) h = ap (λ r. x ∷ r) (padded-word n l (omega arith))

in-row : (ls : List (List ℕ)) (n i : ℕ) → n < length ls → i < 16 → get_or (in_row ls) (16 * n + i) 0 ≡ get_or (padded 16 (get_or ls n [])) i 0
unfolding in_row
in-row [] n i h k = absurd (let z : ⊥ = omega arith in z)
in-row (l ∷ ls) zero i h k =
    let e : 16 * zero + i ≡ i = omega arith in
    rw e (get_or-append (padded 16 l) (in_row ls) 0 i (rw (padded-length 16 l) k))
in-row (l ∷ ls) (suc n) i h k =
    let e : 16 * suc n + i ≡ length (padded 16 l) + (16 * n + i) = rw (padded-length 16 l) (omega arith) in
    rw e (get_or-append-add (padded 16 l) (in_row ls) (16 * n + i) 0 ∙ in-row ls n i (omega arith) k)

pub count : length spellings ≡ 202
unfolding spellings names
count = refl

row-lengths : (ls : List (List ℕ)) → length (in_row ls) ≡ 16 * length ls
unfolding in_row
row-lengths [] = refl
row-lengths (l ∷ ls) = length-append (padded 16 l) (in_row ls) ∙ (let e = padded-length 16 l in let f = row-lengths ls in omega arith)

rows-length : length rows ≡ 3232
unfolding rows
rows-length = row-lengths spellings ∙ rw count refl

pub at_row : (n i : ℕ) → n < 202 → i < 16 → get_or rows (16 * n + i) 0 ≡ get_or (padded 16 (spelling_of n)) i 0
unfolding rows
at_row n i h k = in-row spellings n i (rw count h) k

-- what is filled up to the end with the bytes of a word is the word
pub filled : (out l : List ℕ) → length out ≡ 16 → ((k : ℕ) → k < 16 → get_or out k 0 ≡ get_or (padded 16 l) k 0) → out ≡ padded 16 l
filled out l e h = ext_get_or 0 out (padded 16 l) (e ∙ sym (padded-length 16 l)) (λ k b. h k (rw (← e) b))

-- the row of a name is its spelling, filled up
pub row_is : (n : ℕ) → n < 202 → take (16 * n + 16 - 16 * n) (drop (16 * n) rows) ≡ padded 16 (spelling_of n)
row_is n h =
    let w : 16 * n + 16 - 16 * n ≡ 16 = omega arith in
    let held : 16 ≤ length (drop (16 * n) rows) = rw (length-drop (16 * n) rows, rows-length) (omega arith) in
    rw w (filled (take 16 (drop (16 * n) rows)) (spelling_of n) (length-take-le 16 (drop (16 * n) rows) held)
    (λ k l. get_or-take 16 (drop (16 * n) rows) k 0 l ∙ get_or-drop (16 * n) rows k 0 ∙ at_row n k h l))

-- no spelling is longer than 16 bytes
unfoldable all_short : List (List ℕ) → Bool
all_short [] = true
all_short (l ∷ ls) = leb (length l) 16 && all_short ls

short : (ls : List (List ℕ)) (n : ℕ) → T (all_short ls) → length (get_or ls n []) ≤ 16
unfolding all_short
short [] n t = omega arith
short (l ∷ ls) zero t = leb→le (length l) 16 (and_left (leb (length l) 16) (all_short ls) t)
short (l ∷ ls) (suc n) t = short ls n (and_right (leb (length l) 16) (all_short ls) t)

pub spelling-short : (n : ℕ) → length (spelling_of n) ≤ 16
unfolding spellings names bytes all_short
spelling-short n = short spellings n tt
