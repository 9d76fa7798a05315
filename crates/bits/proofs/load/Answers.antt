use Prim.Native.Nat.{ℕ, ◌+◌, ◌-◌, ◌*◌, ◌^◌, ◌<◌, ◌≤◌}
use mathlib.Core.Path.{◌≡◌, refl, ◌∙◌}
use mathlib.Core.List.{List}
use native.Mathlib.Omega.{arith}
use lib.ListN.{take, drop, get_or, length}
use Rattle.std.proofs.Common.{get_or-take, get_or-drop, length-take, length-drop}
use Rattle.bits.specs.Bits.{bits_at}
use Rattle.bits.proofs.Loads.{one, two, more, small}
use Rattle.bits.proofs.load.Goals as goal

-- the bytes of a part of a slice
module _ (s : List ℕ) (f l : ℕ) (h : f ≤ l) (k : l ≤ length s) where
  long : length (take (l - f) (drop f s)) ≡ l - f
  long = omega (arith, length-take (l - f) (drop f s), length-drop f s)

  byte : (i : ℕ) → i < length (take (l - f) (drop f s)) → get_or (take (l - f) (drop f s)) i 0 ≡ get_or s (f + i) 0
  byte i u = let q : i < l - f = omega (arith, long) in get_or-take (l - f) (drop f s) i 0 q ∙ get_or-drop f s i 0

  fits : l ≤ f + 5 → (i v : ℕ) → i < length (take (l - f) (drop f s)) → v ≡ bits_at s (8 * f) (8 * i) → v < 2 ^ 32
  fits m i v u e = small s f i v e (omega (arith, long))

pub returns-then-n-eq1 : goal.returns-then-n-eq1
returns-then-n-eq1 c = rw c.if-n-eq1.true (one c.args.src.now c.args.first (c.type_inv.src _).fits)

pub returns-then-n-eq2 : goal.returns-then-n-eq2
returns-then-n-eq2 c = rw c.if-n-eq2.true (two c.args.src.now c.args.first (c.type_inv.src _).fits (c.type_inv.src _).fits)

pub loop-b-init : goal.loop-b-init
unfolding bits_at
loop-b-init c = refl

pub overflow_mul-v : goal.overflow_mul-v
overflow_mul-v c = let h = fits _ _ _ c.requires.0 c.requires.2 c.requires.1 _ _ c.loop-b-test.true c.loop-b.invariant in omega arith

pub overflow_add-v : goal.overflow_add-v
overflow_add-v c = let h = fits _ _ _ c.requires.0 c.requires.2 c.requires.1 _ _ c.loop-b-test.true c.loop-b.invariant in omega arith

pub loop-b-preserved : goal.loop-b-preserved
loop-b-preserved c =
    let e = byte _ _ _ c.requires.0 c.requires.2 _ c.loop-b-test.true in
    more _ c.args.first _ _ _ c.loop-b.invariant e (rw e (c.type_inv.src _).fits)
