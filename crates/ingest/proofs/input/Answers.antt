-- What was read is the slice.
use native.Mathlib.Omega.{arith}
use lib.ListN.{take, length-take}
use Rattle.ingest.proofs.input.Goals as goal

pub returns : goal.returns
returns c = record { src = take c.in_ok-n.n c.read_full.new.bytes; short = rw length-take (omega arith); «from» = c.records_of.ensures }
