use mathlib.Core.Path.{◌≡◌}
use Prim.Native.Nat.{◌-◌}
use lib.ListN.{set}
use Rattle.tables.specs.Bands.{end_of, BinBand}
use Rattle.alloc.specs.Levels.{bndpsd_l, range_l}
use Rattle.band_sums.proofs.bands.Given as goal

-- after bin j - 1, which is in band k: the powers and the sums of the range up to bin j
abbrev pub invariant-loop-j : goal.invariant-loop-j
invariant-loop-j l =
    record {
      band : BinBand (l.j - 1) l.k;
      ends : l.to ≡ end_of l.k;
      sum : l.s ≡ bndpsd_l l.exps l.bins.start l.j l.k;
      powers : l.powers ≡ (range_l l.exps l.bins.start l.j).powers;
      sums : set l.bnd l.k l.s ≡ (range_l l.exps l.bins.start l.j).sums;
    }
