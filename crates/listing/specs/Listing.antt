-- The text that lists a frame (document 01, module 8).
use Rattle.std.specs.Prelude.{List, [], ◌∷◌, ◌++◌, ℕ, zero, suc, min, ℤ, pos, get_or}
use Rattle.names.specs.Spelling.{bytes, spelling_of}
use Rattle.print.specs.Text.{decimal_of, signed_of}
use Rattle.answer.specs.Answer.{count_of}
use Rattle.answer.specs.declared.Frame.{Frame}
use Rattle.answer.specs.declared.Answer.{Answer}
use Rattle.answer.specs.declared.Verdict.{Verdict}
use Rattle.answer.specs.declared.Verdict.TheVariants.{Accepted, Refused}
use Rattle.listing.specs.declared.Records.{Records}

-- a word with the blank after it, and the last word of a line
abbrev pub word : List ℕ → List ℕ
word w = w ++ (32 ∷ [])

abbrev pub last : List ℕ → List ℕ
last w = w ++ (10 ∷ [])

abbrev pub three_line : ℕ → ℕ → ℕ → List ℕ
three_line a b c = word (decimal_of a) ++ word (decimal_of b) ++ last (decimal_of c)

-- `accepted BYTES AUDIOEND RECORDS`, or `refused NUMBER PLACE RECORDS`
unfoldable pub first_by : Verdict → Frame → List ℕ
first_by Accepted f = bytes "accepted " ++ three_line f.bytes.0 f.audio_end.0 f.fields
first_by (Refused number place count) f = bytes "refused " ++ three_line number place.0 count

abbrev pub first_line : Answer → List ℕ
first_line a = first_by a.verdict a.frame

-- first bit, width, name, block, index and value
abbrev pub record_line : ℕ → ℕ → ℕ → ℤ → ℤ → ℕ → List ℕ
record_line first width name block index value =
    word (decimal_of first) ++ word (decimal_of width) ++ word (spelling_of name) ++ word (signed_of block)
    ++ word (signed_of index) ++ last (decimal_of value)

-- the record i; the records before n, one after another
abbrev pub line_of : Records → ℕ → List ℕ
line_of r i =
    record_line (get_or r.firsts i 0) (get_or r.widths i 0) (get_or r.names i 0) (get_or r.blocks i (pos 0))
    (get_or r.indexes i (pos 0)) (get_or r.values i 0)

unfoldable pub lines_of : Records → ℕ → List ℕ
lines_of r zero = []
lines_of r (suc n) = lines_of r n ++ line_of r n

-- the whole text: the answer, and a line for each record that it counts
abbrev pub listing_of : Records → List ℕ
listing_of r = first_line r.answer ++ lines_of r (min (count_of r.answer) 2048)
