-- Whether a slice is read as a case of the list has it.
use Rattle.std.specs.Prelude.{ℕ, zero, suc, ◌+◌, ◌*◌, min, Bool, true, cond, ◌&&◌, List, ◌==◌, slice_index}
use Rattle.answer.specs.declared.Frame.{Frame}
use Rattle.answer.specs.declared.Verdict.{Verdict}
use Rattle.answer.specs.declared.Verdict.TheVariants.{Accepted, Refused}
use Rattle.answer_c.specs.Numbers.{frame_numbers}
use Rattle.listing.specs.declared.Records.{Records}
use Rattle.replay.specs.Sums.{sum, room_of, sum_of}
use Rattle.replay.specs.declared.sums.Sum.{Sum}
use Rattle.replay.specs.declared.cases.Kind.{Kind}
use Rattle.replay.specs.declared.cases.Kind.TheVariants.{Accepted as accepted, Invalid, Unsupported, Truncated, NoRoom}

-- what the Rust says of a slice, as a number of the list
abbrev pub number_of : Kind → ℕ
number_of accepted = 0
number_of Invalid = 1
number_of Unsupported = 2
number_of Truncated = 3
number_of NoRoom = 4

-- the Rust's error by document 01's number: 1 Invalid, 2 Unsupported, 3 Truncated; 33 is none of the Rust's, and has 4
abbrev pub kind_of : ℕ → ℕ
kind_of k = cond (k == 5) 2 (cond (k == 9) 2 (cond (k == 8) 3 (cond (k == 33) 4 1)))

unfoldable pub verdict_of : Verdict → ℕ
verdict_of Accepted = 0
verdict_of (Refused k p n) = kind_of k

-- nothing is summed up where a frame is refused
unfoldable pub kept_of : Verdict → Sum → Sum
kept_of Accepted s = s
kept_of (Refused k p n) s = sum 0 0

-- whether the first n numbers are those of a case: two bytes each, after that of the verdict
unfoldable pub agrees_of : List ℕ → List ℕ → ℕ → Bool
agrees_of ours theirs zero = true
agrees_of ours theirs (suc k) = agrees_of ours theirs k && slice_index ours k == 256 * slice_index theirs (2 * k + 1) + slice_index theirs (2 * k + 2)

-- whether the count of the records and the sum over them are those of a case
abbrev pub ends_of : ℕ → Sum → List ℕ → Bool
ends_of count sum theirs =
    (count == 256 * slice_index theirs 63 + slice_index theirs 64) && (sum.b == 256 * slice_index theirs 65 + slice_index theirs 66 && sum.a == 256 * slice_index theirs 67 + slice_index theirs 68)

abbrev pub same_by : Verdict → Frame → Sum → List ℕ → Bool
same_by v f s theirs =
    (verdict_of v == slice_index theirs 0) && (agrees_of (frame_numbers f) theirs 31 && ends_of (min f.fields 65535) (kept_of v s) theirs)

-- whether a slice is read as a case has it
abbrev pub same_of : Records → List ℕ → Bool
same_of r theirs = same_by r.answer.verdict r.answer.frame (sum_of (room_of r) (min r.answer.frame.fields 2048)) theirs
