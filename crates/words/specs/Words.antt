-- The six loudness words: dialnorm and compr of bsi, dynrng of audblk, and those of the second programme of a 1+1 frame (A/52 clauses 5.4.2.8 to 5.4.2.10, 5.4.2.16
-- to 5.4.2.18, 5.4.3.2 to 5.4.3.6; TS 102 366 clauses 4.4.2.8 to 4.4.2.10, 4.4.2.16 to 4.4.2.18, 4.4.3.3 to 4.4.3.6), and one of them written.
use Rattle.std.specs.Prelude.{cond, ◌||◌, List, ℕ, ◌+◌, ◌*◌, ◌-◌, ◌/◌, ◌%◌, ◌^◌, leb, eqb, set}
use Rattle.bits.specs.Bits.{bits_at}
use Rattle.names.specs.Names.{dialnorm, dialnorm2, compr, compr2, dynrng, dynrng2}

-- the bits of a word of this name: dialnorm and dialnorm2 have 5, the others 8. 0 where the name is not one of the six
unfoldable pub width_of : ℕ → ℕ
width_of n = cond (eqb n dialnorm || eqb n dialnorm2) 5 (cond (eqb n compr || (eqb n compr2 || (eqb n dynrng || eqb n dynrng2))) 8 0)

-- a record of this name is not set to this value: 42, it is not one of the six; 43, the value is too wide; 0, it may be set
unfoldable pub unfit_of : ℕ → ℕ → ℕ
unfit_of n v = cond (eqb (width_of n) 0) 42 (cond (leb (2 ^ width_of n) v) 43 0)

-- the bits behind a word of w bits at the bit p, in the two bytes from its first one on
abbrev pub rest_of : ℕ → ℕ → ℕ
rest_of p w = 16 - p % 8 - w

-- the two bytes with the value v as the word: the bits before it, the word, the bits behind it
abbrev pub both_of : List ℕ → ℕ → ℕ → ℕ → ℕ
both_of s p w v = (bits_at s (p - p % 8) (p % 8) * 2 ^ w + v) * 2 ^ rest_of p w + bits_at s (p + w) (rest_of p w)

-- the buffer with them
unfoldable pub with_word : List ℕ → ℕ → ℕ → ℕ → List ℕ
with_word s p w v = set (set s (p / 8) (both_of s p w v / 256)) (p / 8 + 1) (both_of s p w v % 256)
