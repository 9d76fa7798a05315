-- The lowest and the highest of some factors: the range record, and the answer.
use Rattle.std.specs.Prelude.{◌≡◌, ℕ, ◌*◌, ◌<◌, Bool, cond, T, List, [], ◌∷◌, map, length, nat_le, slice_index}
use Rattle.gain.specs.declared.Range.{Range}
use Rattle.gain.specs.declared.Gain.{Gain}
use Rattle.gain.specs.declared.Gain.TheVariants.{NotSent, Present}
use Rattle.gain.specs.Factor.{Ratio, one, to_f64, Is}

-- p ≤ q
abbrev pub leq : Ratio → Ratio → Bool
leq p q = nat_le (p.over * q.under) (q.over * p.under)

abbrev pub lower : Ratio → Ratio → Ratio
lower p q = cond (leq p q) p q

abbrev pub higher : Ratio → Ratio → Ratio
higher p q = cond (leq p q) q p

-- the one of q and qs that f picks, taken through in order; of none, 1
unfoldable pub best : (Ratio → Ratio → Ratio) → Ratio → List Ratio → Ratio
best f q [] = q
best f q (r ∷ rs) = best f (f q r) rs

unfoldable pub pick : (Ratio → Ratio → Ratio) → List Ratio → Ratio
pick f [] = one
pick f (q ∷ qs) = best f q qs

-- the range record of some factors: the lowest, the highest and how many; with none 1, 1 and 0
unfoldable pub range_of : List Ratio → Range
range_of qs = record { low = to_f64 (pick lower qs); high = to_f64 (pick higher qs); words = length qs }

-- the answer: no word was sent, or the pair
unfoldable pub gain_of : List Ratio → Gain
gain_of [] = NotSent
gain_of (q ∷ qs) = Present (to_f64 (best lower q qs)) (to_f64 (best higher q qs))

-- r is the factor of one of the words, where q gives the factor of a word
pub record Found (q : ℕ → Ratio) (ws : List ℕ) (r : Ratio) : Type 0 where
  pub place : ℕ
  pub inside : place < length ws
  pub is : r ≡ q (slice_index ws place)

-- what the range record of some words holds: the lowest factor is one of theirs, none is below it, and its f64 is exact; the highest likewise. Proved in
-- proofs/Lowest.antt.
pub record Holds (q : ℕ → Ratio) (ws : List ℕ) : Type 0 where
  pub low : Found q ws (pick lower (map q ws))
  pub none_below : (i : ℕ) → i < length ws → T (leq (pick lower (map q ws)) (q (slice_index ws i)))
  pub low_exact : Is (range_of (map q ws)).low (pick lower (map q ws))
  pub high : Found q ws (pick higher (map q ws))
  pub none_above : (i : ℕ) → i < length ws → T (leq (q (slice_index ws i)) (pick higher (map q ws)))
  pub high_exact : Is (range_of (map q ws)).high (pick higher (map q ws))
