-- Tests of the reference that no input meets, so that the definitions leave them out: one fact for each. Assumes nothing.
use Rattle.std.specs.Prelude.{Option}
use mathlib.Core.Path.{◌≡◌}
use mathlib.Core.Bool.{Bool, true, false, ◌&&◌, cond}
use mathlib.Core.List.{List}
use Prim.Native.Nat.{ℕ, ◌≤◌, ◌<◌}
use native.Mathlib.Omega.{arith}
use native.Mathlib.Decide.{dec_lt}
use lib.Dec.{leb, ltb}
use lib.ListN.{length, get_or, get_or-eq_default}
use Rattle.tables.proofs.Limits.{bap-at-most-15, hebap-at-most-19}
use Rattle.alloc.specs.Allocation.{tab, table_of, pointer, allocation}
use Rattle.alloc.specs.declared.Params.{Params}
use Rattle.alloc.specs.declared.Channel.{Channel}
use Rattle.alloc.specs.declared.Deltas.{Deltas}
use Rattle.alloc.specs.declared.Leak.{Leak}
use Rattle.alloc.specs.declared.Pointers.{Pointers}
use Rattle.alloc.specs.declared.Pointers.TheVariants.{Bap, Hebap}
use Rattle.alloc.proofs.Lists.{length-tab, get_d-tab}

-- 'bap above 15', 'hebap above 19': no pointer that is allocated is above its table's largest
module _ (kind : Pointers) (most : ℕ) (table : (k : ℕ) → get_or (table_of kind) k 0 ≤ most) (exp : List ℕ) (c : Channel) (q : Params) (l : Option Leak) (d : Deltas) where
  at_most : (t : Bool) (x : ℕ) → x ≤ most → cond t x 0 ≤ most
  at_most true x h = h
  at_most false x h = omega arith

  within : (bin : ℕ) → get_or (allocation kind exp c q l d) bin 0 ≤ most
  unfolding allocation
  within bin = go (dec_lt bin 256)
    where
      f : ℕ → ℕ
      f b = cond (leb c.start b && ltb b c.end) (pointer kind exp c q l d b) 0

      past : (bin < 256 → ⊥) → get_or (tab f 0 256) bin 0 ≤ most
      past h =
          let e : length (tab f 0 256) ≡ 256 = length-tab f 0 256 in
          let z : length (tab f 0 256) ≤ bin = omega arith in
          rw (get_or-eq_default (tab f 0 256) 0 {n = bin} z) (omega arith)

      go : Dec (bin < 256) → get_or (tab f 0 256) bin 0 ≤ most
      go (yes h) = rw (get_d-tab f 256 bin h) (at_most (leb c.start bin && ltb bin c.end) (pointer kind exp c q l d bin) (table _))
      go (no h) = past h

pub bap-within : (exp : List ℕ) (c : Channel) (q : Params) (l : Option Leak) (d : Deltas) (bin : ℕ) → get_or (allocation Bap exp c q l d) bin 0 ≤ 15
bap-within exp c q l d bin = within Bap 15 bap-at-most-15 exp c q l d bin

pub hebap-within : (exp : List ℕ) (c : Channel) (q : Params) (l : Option Leak) (d : Deltas) (bin : ℕ) → get_or (allocation Hebap exp c q l d) bin 0 ≤ 19
hebap-within exp c q l d bin = within Hebap 19 hebap-at-most-19 exp c q l d bin

-- so that none is above 19
pub pointer-within : (kind : Pointers) (exp : List ℕ) (c : Channel) (q : Params) (l : Option Leak) (d : Deltas) (bin : ℕ) → get_or (allocation kind exp c q l d) bin 0 ≤ 19
pointer-within Bap exp c q l d bin = let h = bap-within exp c q l d bin in omega arith
pointer-within Hebap exp c q l d bin = hebap-within exp c q l d bin
