use Rattle.alloc.specs.Levels.{point_l}
use Rattle.alloc.specs.Premises.{Pointed}
use Rattle.pointers.proofs.Lookup.point.Given as goal

abbrev pub invariant-loop-j : goal.invariant-loop-j
invariant-loop-j l =
    Pointed l.shares (point_l l.points l.powers l.place) l.lo l.j l.initial.out l.out l.sum
