use Rattle.alloc.specs.Levels.{pointer_l}
use Rattle.alloc.specs.Premises.{Pointed}
use Rattle.pointers.proofs.Lookup.point_singles.Given as goal

abbrev pub invariant-loop-j : goal.invariant-loop-j
invariant-loop-j l =
    Pointed l.shares (pointer_l l.points l.base l.powers l.places) l.from l.j l.initial.out l.out l.sum
