use Prim.Native.Nat.{◌+◌, ◌-◌, ◌/◌, ◌%◌}
use lib.ListN.{get_or}
use Rattle.alloc.specs.Premises.{Written}
use Rattle.pointers.proofs.place_bands.Given as goal

abbrev pub invariant-loop-b : goal.invariant-loop-b
invariant-loop-b l =
    Written (λ k. (get_or l.initial.out k 0 - l.down) / 32 % 256 + l.base) l.bands.first l.b l.initial.out l.out
