use Rattle.std.proofs.Common.{refl}
use Rattle.replay.specs.Sums.{room_of, sum_of}
use Rattle.replay.proofs.SumLaws.{next}
use Rattle.replay.proofs.sums.Sum.of_records.Goals as goal

pub loop-i-init : goal.loop-i-init
unfolding sum_of
loop-i-init c = refl

pub loop-i-preserved : goal.loop-i-preserved
loop-i-preserved c = next (room_of c.args.r.now) _ c.loop-i.invariant c.add_record-arg-in-loop-i-1.given c.add_record-arg-in-loop-i-2-1.given c.add_record-sum.ensures
