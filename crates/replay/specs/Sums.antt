-- The sum over the records of a frame that a list of answers holds: two sums modulo 65521, to which each part of a record is added in turn.
use Rattle.std.specs.Prelude.{ℕ, zero, suc, ◌+◌, ◌/◌, ◌%◌, ℤ, pos, negsuc, slice_index, slice_index_or}
use Rattle.reading.specs.Room.{Room, room}
use Rattle.listing.specs.declared.Records.{Records}
use Rattle.replay.specs.declared.sums.Sum.{Sum}

abbrev pub sum : ℕ → ℕ → Sum
sum a b = record { a = a; b = b }

unfoldable pub add_of : Sum → ℕ → Sum
add_of s x = sum ((s.a + x) % 65521) ((s.b + (s.a + x) % 65521) % 65521)

-- a block or an index, one more than it is, 0 for none
abbrev pub raised_of : ℤ → ℕ
raised_of (pos n) = n + 1
raised_of (negsuc n) = 0

-- with the parts of one more record
unfoldable pub added_of : Sum → ℕ → ℤ → ℤ → ℕ → ℕ → ℕ → Sum
added_of s name block index first width value =
    add_of (add_of (add_of (add_of (add_of (add_of (add_of s name) (raised_of block)) (raised_of index)) first) width) (value / 65536)) (value % 65536)

-- the records of a frame
abbrev pub room_of : Records → Room
room_of r = room r.names r.blocks r.indexes r.firsts r.widths r.values

-- over the first records of a room
unfoldable pub sum_of : Room → ℕ → Sum
sum_of m zero = sum 1 0
sum_of m (suc i) =
    added_of (sum_of m i) (slice_index m.names i) (slice_index_or m.blocks i (pos 0)) (slice_index_or m.indexes i (pos 0)) (slice_index m.firsts i) (slice_index m.widths i) (slice_index m.values i)
