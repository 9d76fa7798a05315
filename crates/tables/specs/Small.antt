-- The small tables of the syntax and of the mantissas, as printed. Table numbers are those of TS 102 366.
use Rattle.std.specs.Prelude.{List, [], ◌∷◌, ℕ}

-- Table 4.3, full bandwidth channels by acmod
unfoldable pub nfchans : List ℕ
nfchans =
    2 ∷ 1 ∷ 2 ∷ 3 ∷ 3 ∷ 4 ∷ 4 ∷ 5 ∷ []

-- Table 6.17, bits of one mantissa by bap; those of 1, 2 and 4 come in groups (6.3.5) and have 0 here
unfoldable pub bap_bits : List ℕ
bap_bits =
    0 ∷ 0 ∷ 0 ∷ 3 ∷ 0 ∷ 4 ∷ 5 ∷ 6 ∷ 7 ∷ 8 ∷ 9 ∷ 10 ∷ 11 ∷ 12 ∷ 14 ∷ 16 ∷ []

-- Table E.2.2, bits of a vector index by hebap 0 to 7
unfoldable pub vq_bits : List ℕ
vq_bits =
    0 ∷ 2 ∷ 3 ∷ 4 ∷ 5 ∷ 7 ∷ 8 ∷ 9 ∷ []

-- Table E.2.2, bits of a gain adaptive mantissa by hebap 8 to 19, at hebap - 8
unfoldable pub gaq_bits : List ℕ
gaq_bits =
    3 ∷ 4 ∷ 5 ∷ 6 ∷ 7 ∷ 8 ∷ 9 ∷ 10 ∷ 11 ∷ 12 ∷ 14 ∷ 16 ∷ []

-- TS 102 366 Table E.1.9, A/52 Table E2.14: the strategies of the blocks 0 to 5, six for each code, one after the other (0 reuse, 1 D15, 2 D25, 3 D45)
unfoldable pub frmexpstr : List ℕ
frmexpstr =
    1 ∷ 0 ∷ 0 ∷ 0 ∷ 0 ∷ 0 ∷
    1 ∷ 0 ∷ 0 ∷ 0 ∷ 0 ∷ 3 ∷
    1 ∷ 0 ∷ 0 ∷ 0 ∷ 2 ∷ 0 ∷
    1 ∷ 0 ∷ 0 ∷ 0 ∷ 3 ∷ 3 ∷
    2 ∷ 0 ∷ 0 ∷ 2 ∷ 0 ∷ 0 ∷
    2 ∷ 0 ∷ 0 ∷ 2 ∷ 0 ∷ 3 ∷
    2 ∷ 0 ∷ 0 ∷ 3 ∷ 2 ∷ 0 ∷
    2 ∷ 0 ∷ 0 ∷ 3 ∷ 3 ∷ 3 ∷
    2 ∷ 0 ∷ 1 ∷ 0 ∷ 0 ∷ 0 ∷
    2 ∷ 0 ∷ 2 ∷ 0 ∷ 0 ∷ 3 ∷
    2 ∷ 0 ∷ 2 ∷ 0 ∷ 2 ∷ 0 ∷
    2 ∷ 0 ∷ 2 ∷ 0 ∷ 3 ∷ 3 ∷
    2 ∷ 0 ∷ 3 ∷ 2 ∷ 0 ∷ 0 ∷
    2 ∷ 0 ∷ 3 ∷ 2 ∷ 0 ∷ 3 ∷
    2 ∷ 0 ∷ 3 ∷ 3 ∷ 2 ∷ 0 ∷
    2 ∷ 0 ∷ 3 ∷ 3 ∷ 3 ∷ 3 ∷
    3 ∷ 1 ∷ 0 ∷ 0 ∷ 0 ∷ 0 ∷
    3 ∷ 1 ∷ 0 ∷ 0 ∷ 0 ∷ 3 ∷
    3 ∷ 2 ∷ 0 ∷ 0 ∷ 2 ∷ 0 ∷
    3 ∷ 2 ∷ 0 ∷ 0 ∷ 3 ∷ 3 ∷
    3 ∷ 2 ∷ 0 ∷ 2 ∷ 0 ∷ 0 ∷
    3 ∷ 2 ∷ 0 ∷ 2 ∷ 0 ∷ 3 ∷
    3 ∷ 2 ∷ 0 ∷ 3 ∷ 2 ∷ 0 ∷
    3 ∷ 2 ∷ 0 ∷ 3 ∷ 3 ∷ 3 ∷
    3 ∷ 3 ∷ 1 ∷ 0 ∷ 0 ∷ 0 ∷
    3 ∷ 3 ∷ 2 ∷ 0 ∷ 0 ∷ 3 ∷
    3 ∷ 3 ∷ 2 ∷ 0 ∷ 2 ∷ 0 ∷
    3 ∷ 3 ∷ 2 ∷ 0 ∷ 3 ∷ 3 ∷
    3 ∷ 3 ∷ 3 ∷ 2 ∷ 0 ∷ 0 ∷
    3 ∷ 3 ∷ 3 ∷ 2 ∷ 0 ∷ 3 ∷
    3 ∷ 3 ∷ 3 ∷ 3 ∷ 2 ∷ 0 ∷
    3 ∷ 3 ∷ 3 ∷ 3 ∷ 3 ∷ 3 ∷ []

-- TS 102 366 Table E.1.12, A/52 Table E2.16: the default banding of coupling, by sub-band
unfoldable pub defcplbndstrc : List ℕ
defcplbndstrc =
    0 ∷ 0 ∷ 0 ∷ 0 ∷ 0 ∷ 0 ∷ 0 ∷ 0 ∷ 1 ∷ 0 ∷ 1 ∷ 1 ∷ 0 ∷ 1 ∷ 1 ∷ 1 ∷
    1 ∷ 1 ∷ []

-- TS 102 366 Table E.1.10, A/52 Table E2.15: the default banding of spectral extension, by sub-band
unfoldable pub defspxbndstrc : List ℕ
defspxbndstrc =
    0 ∷ 0 ∷ 0 ∷ 0 ∷ 0 ∷ 0 ∷ 0 ∷ 0 ∷ 1 ∷ 0 ∷ 1 ∷ 0 ∷ 1 ∷ 0 ∷ 1 ∷ 0 ∷
    1 ∷ []
