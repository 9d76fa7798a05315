-- THE TEXT OF AN ITEM: a word and its value, `dialnorm=27`, `dynrng[3]=0x80` or `17=5`. A word is told by its name, with its block in brackets, or by its place in the list.
use Rattle.std.specs.Prelude.{Bool, false, cond, List, ℕ, zero, suc, ◌+◌, ◌-◌, ◌*◌, leb, ltb, eqb, length, get_or, bytes_eq, Option, Some, None, Result, Ok, Err}
use Rattle.names.specs.Spelling.{bytes}
use Rattle.word_items.specs.declared.Unplaced.{Unplaced}
use Rattle.word_items.specs.declared.Unplaced.TheVariants.{Nowhere, Twice}

-- of the first t bytes: where the last c stands, if there is one
unfoldable pub last_to : List ℕ → ℕ → ℕ → Option ℕ
last_to s c zero = None
last_to s c (suc t) = cond (eqb (get_or s t 0) c) (Some t) (last_to s c t)

-- the number of the word that a text spells, if it spells one
unfoldable pub name_of : List ℕ → Option ℕ
name_of s =
    cond (bytes_eq s (bytes "dialnorm")) (Some 80)
    (cond (bytes_eq s (bytes "dialnorm2")) (Some 81)
    (cond (bytes_eq s (bytes "compr")) (Some 36)
    (cond (bytes_eq s (bytes "compr2")) (Some 37)
    (cond (bytes_eq s (bytes "dynrng")) (Some 89)
    (cond (bytes_eq s (bytes "dynrng2")) (Some 90) None)))))

-- what a letter counts as a digit, 0 to 9 and a to f
unfoldable pub digit_of : ℕ → Option ℕ
digit_of c = cond (ltb c 48) None (cond (ltb c 58) (Some (c - 48)) (cond (ltb c 97) None (cond (ltb c 103) (Some (c - 87)) None)))

-- what no 32 bits hold
abbrev pub no_number : ℕ
no_number = 0x100000000

-- a digit more behind a number: none where there is no number or no digit, where the digit is none of the base, and where 32 bits do not hold the number
unfoldable pub behind : ℕ → Option ℕ → Option ℕ → Option ℕ
behind base None d = None
behind base (Some v) None = None
behind base (Some v) (Some d) = cond (leb base d) None (cond (leb no_number (v * base + d)) None (Some (v * base + d)))

-- the number that t letters from one on write
unfoldable pub value_to : List ℕ → ℕ → ℕ → ℕ → Option ℕ
value_to s base from zero = Some 0
value_to s base from (suc t) = behind base (value_to s base from t) (digit_of (get_or s (from + t) 0))

-- two letters are 0x
unfoldable pub marks_hex : ℕ → ℕ → Bool
marks_hex a b = cond (eqb a 48) (eqb b 120) false

-- the number that a text writes: decimal, or hexadecimal behind 0x
unfoldable pub number_of : List ℕ → Option ℕ
number_of s =
    cond (leb (length s) 0) None
    (cond (leb (length s) 2) (value_to s 10 0 (length s))
    (cond (marks_hex (get_or s 0 0) (get_or s 1 0)) (value_to s 16 2 (length s - 2)) (value_to s 10 0 (length s))))

-- a record is the word meant: its name, and its block where one is told
unfoldable pub is_meant : ℕ → ℕ → ℕ → Option ℕ → Bool
is_meant n b name None = eqb n name
is_meant n b name (Some block) = cond (eqb n name) (eqb b block) false

-- of the first t records: the place of the last that is meant, if there is one
unfoldable pub meant_to : List ℕ → List ℕ → ℕ → Option ℕ → ℕ → Option ℕ
meant_to names blocks name block zero = None
meant_to names blocks name block (suc t) =
    cond (is_meant (get_or names t 0) (get_or blocks t 0) name block) (Some t) (meant_to names blocks name block t)

-- the last that is meant stands at p, and before it another at q, if there is one
abbrev pub only : ℕ → Option ℕ → Result ℕ Unplaced
only p None = Ok p
only p (Some q) = Err Twice

-- the last that is meant, if there is one; `before` gives the last before a place
abbrev pub place_by : (ℕ → Option ℕ) → Option ℕ → Result ℕ Unplaced
place_by before None = Err Nowhere
place_by before (Some p) = only p (before p)

-- the place of the one record that is meant, among the first n
unfoldable pub place_of : List ℕ → List ℕ → ℕ → ℕ → Option ℕ → Result ℕ Unplaced
place_of names blocks n name block = place_by (meant_to names blocks name block) (meant_to names blocks name block n)
