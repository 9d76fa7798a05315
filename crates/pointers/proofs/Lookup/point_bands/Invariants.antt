use Prim.Native.Nat.{◌≤◌, ◌<◌}
use Rattle.tables.specs.Bands.{BinBand}
use Rattle.alloc.specs.Levels.{pointer_l}
use Rattle.alloc.specs.Premises.{Pointed}
use Rattle.pointers.proofs.Lookup.point_bands.Given as goal

abbrev pub invariant-loop-k : goal.invariant-loop-k
invariant-loop-k l =
    record {
      from : l.start ≤ l.j;
      to : l.j ≤ l.end;
      band : l.j < l.end → BinBand l.j l.k;
      more : l.k < l.last → l.j < l.end;
      pointed : Pointed l.self.tables.now.shares.now (pointer_l l.self.tables.now.points.now l.self.base l.self.powers.now l.self.places.now)
          l.start l.j l.initial.out l.out l.sum;
    }
