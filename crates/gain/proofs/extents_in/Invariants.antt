-- The loop goes by `AllGoing`: the extents so far, taken through the records that are left, are those of all.
use Rattle.gain.proofs.Named.{AllGoing}
use Rattle.gain.proofs.extents_in.Given as goal

abbrev pub invariant-loop-i : goal.invariant-loop-i
invariant-loop-i l = AllGoing l.names l.values l.i l.count l.e
