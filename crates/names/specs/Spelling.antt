-- The spelling of a name as bytes, and the order of bytes.
use Rattle.std.specs.Prelude.{Bool, true, false, ◌&&◌, ◌||◌, List, [], ◌∷◌, ◌++◌, map, ℕ, zero, suc, ltb, eqb, get_or}
use Prim.Native.Char.{code}
use Prim.Native.String as String
use Rattle.names.specs.Names.{Name, names}

-- the bytes of a text; every letter of the names is one byte
unfoldable pub bytes : String.String → List ℕ
bytes String.[] = []
bytes (String.◌∷◌ c s) = code c ∷ bytes s

abbrev pub bytes_of : Name → List ℕ
bytes_of n = bytes n.spelling

-- the spellings in the order of their numbers
unfoldable pub spellings : List (List ℕ)
spellings = map bytes_of names

-- the spelling of the name with the number n; nothing for other numbers
abbrev pub spelling_of : ℕ → List ℕ
spelling_of n = get_or spellings n []

-- so many bytes: a word, filled up with blanks
unfoldable pub padded : ℕ → List ℕ → List ℕ
padded zero l = []
padded (suc n) [] = 32 ∷ padded n []
padded (suc n) (x ∷ l) = x ∷ padded n l

-- the spellings one after another, each filled up to 16 bytes
unfoldable pub in_row : List (List ℕ) → List ℕ
in_row [] = []
in_row (l ∷ ls) = padded 16 l ++ in_row ls

unfoldable pub rows : List ℕ
rows = in_row spellings

-- one word comes before another in byte order
unfoldable pub before : List ℕ → List ℕ → Bool
before l [] = false
before [] (y ∷ m) = true
before (x ∷ l) (y ∷ m) = ltb x y || (eqb x y && before l m)

-- each word comes before the next
unfoldable pub rising : List (List ℕ) → Bool
rising [] = true
rising (l ∷ []) = true
rising (l ∷ m ∷ ms) = before l m && rising (m ∷ ms)
