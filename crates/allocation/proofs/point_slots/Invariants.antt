use Rattle.std.proofs.Common.{◌≡◌, ◌-◌}
use Rattle.allocation.specs.Memo.{Memo, points_by}
use Rattle.allocation.proofs.point_slots.Given as goal

abbrev pub invariant-loop-slot : goal.invariant-loop-slot
invariant-loop-slot l =
    record {
      points : points_by l.common l.d.offset l.d.len l.d.ba l.exps l.own l.initial.baps l.first (7 - l.first) ≡ points_by l.common l.d.offset l.d.len l.d.ba l.exps l.own l.baps l.slot (7 - l.slot);
      memo : Memo l.memo l.exps l.baps;
    }
