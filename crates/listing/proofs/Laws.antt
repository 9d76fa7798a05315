-- Laws of a listing. Assumes nothing.
use Prim.Native.Nat.{ℕ, zero, suc, ◌*◌, ◌≤◌, min}
use native.Mathlib.Omega.{arith}
use lib.IntN.{ℤ, pos, negsuc}
use lib.ListN.{length, get_or, length-append}
use Rattle.names.specs.Spelling.{bytes}
use Rattle.names.proofs.Rows.{spelling-short}
use Rattle.print.specs.Text.{decimal_of, signed_of}
use Rattle.print.proofs.Decimals.{few}
use Rattle.answer.specs.Answer.{count_of}
use Rattle.answer.specs.declared.Frame.{Frame}
use Rattle.answer.specs.declared.Verdict.{Verdict}
use Rattle.answer.specs.declared.Verdict.TheVariants.{Accepted, Refused}
use Rattle.listing.specs.declared.Records.{Records}
use Rattle.listing.specs.Listing.{three_line, first_by, record_line, lines_of, listing_of}

-- every word is short
decimal-short : (n : ℕ) → length (decimal_of n) ≤ 20
decimal-short n = few 20 n

signed-short : (z : ℤ) → length (signed_of z) ≤ 21
signed-short (pos n) = let h = few 20 n in omega arith
signed-short (negsuc n) = let h = few 20 (suc n) in omega arith

three-short : (a b c : ℕ) → length (three_line a b c) ≤ 63
three-short a b c = simp length-append (omega (arith, decimal-short a, decimal-short b, decimal-short c))

pub first_short : (v : Verdict) (f : Frame) → length (first_by v f) ≤ 128
unfolding first_by bytes
first_short Accepted f = rw (length-append (bytes "accepted ")) (omega (arith, three-short f.bytes.0 f.audio_end.0 f.fields))
first_short (Refused number place count) f = rw (length-append (bytes "refused ")) (omega (arith, three-short number place.0 count))

record-short : (first width name : ℕ) (block index : ℤ) (value : ℕ) → length (record_line first width name block index value) ≤ 128
record-short first width name block index value =
    simp length-append
    (omega (arith, decimal-short first, decimal-short width, spelling-short name, signed-short block, signed-short index, decimal-short value))

lines-short : (r : Records) (n : ℕ) → length (lines_of r n) ≤ 128 * n
unfolding lines_of
lines-short r zero = omega arith
lines-short r (suc n) =
    let h = lines-short r n in
    let k = record-short (get_or r.firsts n 0) (get_or r.widths n 0) (get_or r.names n 0) (get_or r.blocks n (pos 0)) (get_or r.indexes n (pos 0)) (get_or r.values n 0) in
    rw length-append (omega arith)

-- no listing is longer than 2,049 lines of 128 bytes
pub listing-short : (r : Records) → length (listing_of r) ≤ 262272
listing-short r =
    let h = first_short r.answer.verdict r.answer.frame in
    let k = lines-short r (min (count_of r.answer) 2048) in
    rw length-append (omega arith)
