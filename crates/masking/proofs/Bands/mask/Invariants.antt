use Prim.Native.Nat.{ℕ, ◌<◌}
use lib.ListN.{get_or}
use Rattle.alloc.specs.Levels.{masked_l}
use Rattle.alloc.specs.Premises.{Written}
use Rattle.masking.proofs.Bands.mask.Given as goal

abbrev pub invariant-loop-b : goal.invariant-loop-b
invariant-loop-b l =
    record {
      written : Written (λ k. masked_l (get_or l.initial.out k 0) (get_or l.self.powers.now k 0) l.curve.levels k) l.self.first l.b l.initial.out l.out;
      most : (k : ℕ) → get_or l.out k 0 < 65536;
    }
