-- Text as bytes: numbers in decimal, and what is added to a text.
use Rattle.std.specs.Prelude.{◌≡◌, cond, List, [], ◌∷◌, ◌++◌, ℕ, zero, suc, ◌+◌, ◌-◌, ◌/◌, ◌%◌, ltb, ℤ, pos, negsuc, length, take, replicate}

-- the last digits of a number, at most so many, and none before the first that is not 0
unfoldable pub digits : ℕ → ℕ → List ℕ
digits zero n = []
digits (suc most) n = cond (ltb n 10) ((48 + n) ∷ []) (digits most (n / 10) ++ ((48 + n % 10) ∷ []))

-- a number in decimal; 20 digits hold every number of 64 bits
abbrev pub decimal_of : ℕ → List ℕ
decimal_of n = digits 20 n

-- the same of a number with a sign, which is a minus or nothing
abbrev pub signed_of : ℤ → List ℕ
signed_of (pos n) = decimal_of n
signed_of (negsuc n) = 45 ∷ decimal_of (suc n)

-- a number at the right end of so many bytes, blanks before it; one with more digits takes what it needs
abbrev pub right_of : ℕ → ℕ → List ℕ
right_of width n = replicate (width - length (decimal_of n)) 32 ++ decimal_of n

-- bytes are added to a text, as far as there is room: it has n at most
pub record Adds (n : ℕ) (old bytes new : List ℕ) : Type 0 where
  pub is : new ≡ take n (old ++ bytes)
