-- The lines of the program `frames`, as text. Numbers stand at the right ends of their columns.
use Rattle.std.specs.Prelude.{Bool, cond, List, [], ◌∷◌, ◌++◌, ℕ, eqb, get_or}
use Rattle.names.specs.Spelling.{bytes}
use Rattle.print.specs.Text.{decimal_of, right_of}
use Rattle.answer.specs.declared.Frame.{Frame}

-- the full bandwidth channels by acmod (A/52 table 5.8), in front and behind; 3/2 is the last
unfoldable pub modes : List (List ℕ)
modes = bytes "   1+1" ∷ bytes "   1/0" ∷ bytes "   2/0" ∷ bytes "   3/0" ∷ bytes "   2/1" ∷ bytes "   3/1" ∷ bytes "   2/2" ∷ []

unfoldable pub mode_of : ℕ → List ℕ
mode_of acmod = get_or modes acmod (bytes "   3/2")

unfoldable pub lfe_of : Bool → List ℕ
lfe_of lfeon = cond lfeon (bytes "+LFE") (bytes "    ")

-- samples a second by fscod (A/52 table 5.6)
abbrev pub rate_of : ℕ → ℕ
rate_of fscod = cond (eqb fscod 0) 48000 (cond (eqb fscod 1) 44100 32000)

module _ (f : Frame) where
  -- where a frame stands, its bytes, its type and its number
  abbrev pub what_of : ℕ → List ℕ
  what_of position = right_of 12 position ++ right_of 7 f.bytes.0 ++ right_of 6 f.strmtyp ++ right_of 8 f.substreamid

  abbrev pub channels_of : List ℕ
  channels_of = mode_of f.acmod ++ lfe_of f.lfeon

  -- its sample rate, blocks and records
  abbrev pub sizes_of : List ℕ
  sizes_of = right_of 7 (rate_of f.fscod) ++ right_of 8 f.numblks ++ right_of 9 f.fields ++ (10 ∷ [])

  -- a frame at a position of the capture
  abbrev pub line_of : ℕ → List ℕ
  line_of position = what_of position ++ channels_of ++ sizes_of

-- bytes from a position on that hold no frame
unfoldable pub stretch_of : ℕ → ℕ → List ℕ
stretch_of position n = right_of 12 position ++ right_of 7 n ++ (bytes " passed over" ++ (10 ∷ []))

-- frames, bytes of the capture, and those that were passed over
unfoldable pub sums_of : ℕ → ℕ → ℕ → List ℕ
sums_of frames all passed = decimal_of frames ++ bytes " frames, " ++ decimal_of all ++ bytes " bytes, " ++ decimal_of passed ++ (bytes " passed over" ++ (10 ∷ []))

-- the names of the columns
unfoldable pub heading_of : List ℕ
heading_of = bytes "    position  bytes  type  number  channels   rate  blocks  records" ++ (10 ∷ [])
