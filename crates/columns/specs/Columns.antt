-- The columns of a table by channels, cells of seven bytes: the coupling channel, the full bandwidth channels by acmod, and the LFE channel.
use Rattle.std.specs.Prelude.{List, [], ◌∷◌, ◌++◌, ℕ, ◌%◌, get_or}
use Rattle.names.specs.Spelling.{bytes}
use Rattle.tables.specs.Small.{nfchans}

-- the full bandwidth channels by acmod (A/52 table 5.8); 3/2 is the last
unfoldable pub modes : List (List ℕ)
modes =
    bytes "    Ch1    Ch2"
    ∷ bytes "      C"
    ∷ bytes "      L      R"
    ∷ bytes "      L      C      R"
    ∷ bytes "      L      R      S"
    ∷ bytes "      L      C      R      S"
    ∷ bytes "      L      R     Ls     Rs"
    ∷ []

unfoldable pub names_of : ℕ → List ℕ
names_of acmod = get_or modes acmod (bytes "      L      C      R     Ls     Rs")

-- how a table begins
unfoldable pub heading_of : ℕ → List ℕ
heading_of acmod = bytes "block    CPL" ++ names_of acmod ++ bytes "    LFE"

-- how many full bandwidth channels there are
abbrev pub channels_of : ℕ → ℕ
channels_of acmod = get_or nfchans (acmod % 8) 0
