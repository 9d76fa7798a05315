-- Values at the edges, the pointers of an empty range, and how large a pointer is.
-- Assumes nothing.
use mathlib.Core.Path.{◌≡◌, refl}
use mathlib.Core.List.{List}
use Rattle.std.specs.Prelude.{Option}
use Prim.Native.Nat.{ℕ, ◌≤◌}
use lib.IntN.{pos, negsuc}
use lib.ListN.{get_or, replicate}
use Rattle.tables.proofs.Limits.{bap-at-most-15, hebap-at-most-19}
use Rattle.alloc.specs.Allocation.{snroffset, pointer, allocation}
use Rattle.alloc.specs.declared.Channel.{Channel}
use Rattle.alloc.specs.declared.Deltas.{Deltas}
use Rattle.alloc.specs.declared.Leak.{Leak}
use Rattle.alloc.specs.declared.Params.{Params}
use Rattle.alloc.specs.declared.Pointers.{Pointers}
use Rattle.alloc.specs.declared.Pointers.TheVariants.{Bap, Hebap}
use Rattle.alloc.proofs.Lists.{ranged-none, ranged-most}

-- rows for the table of proved values
pub offset-0-0 : snroffset 0 0 ≡ negsuc 959
unfolding snroffset
offset-0-0 = refl

pub offset-15-0 : snroffset 15 0 ≡ pos 0
unfolding snroffset
offset-15-0 = refl

pub offset-63-15 : snroffset 63 15 ≡ pos 3132
unfolding snroffset
offset-63-15 = refl

pub none-allocated : (kind : Pointers) (exp : List ℕ) (c : Channel) (q : Params) (l : Option Leak) (d : Deltas) → c.end ≤ c.start
    → replicate 256 0 ≡ allocation kind exp c q l d
unfolding allocation
none-allocated kind exp c q l d h = ranged-none (pointer kind exp c q l d) c.start c.end 256 h

module _ (exp : List ℕ) (c : Channel) (q : Params) (l : Option Leak) (d : Deltas) (k : ℕ) where
  pub pointer-at-most-15 : get_or (allocation Bap exp c q l d) k 0 ≤ 15
  unfolding allocation
  pointer-at-most-15 = ranged-most (pointer Bap exp c q l d) c.start c.end 256 15 (λ j. bap-at-most-15 _) k

  pub pointer-at-most-19 : get_or (allocation Hebap exp c q l d) k 0 ≤ 19
  unfolding allocation
  pointer-at-most-19 = ranged-most (pointer Hebap exp c q l d) c.start c.end 256 19 (λ j. hebap-at-most-19 _) k
