-- The ends of the mantissas, as a derivation. Assumes nothing.
use Prim.Native.Nat.{ℕ}
use mathlib.Core.Bool.{Bool, true, false, cond}
use mathlib.Core.Path.{◌≡◌, refl, sym, subst}
use native.Mathlib.Omega.{arith}
use mathlib.Core.List.{List}
use Rattle.std.specs.Prelude.{Result, Ok, Err}
use Rattle.refusals.specs.declared.Refusal.{Refusal}
use Rattle.refusals.specs.declared.Refusal.TheVariants.{BandwidthNeverSent}
use Rattle.slots.specs.Held.{Bins}
use Rattle.allocation.specs.State.{number_in}
use Rattle.cells.specs.Cells.{state}
use Rattle.sideinfo.specs.Blocks.{unknown_here, endmants_by}
use Rattle.derivations.specs.Acted.{acted, Numbered}
use Rattle.derivations.specs.Derivations.{endmants_in}

-- the ends, or 23
pub endmants-are : (m y : List ℕ) (b : Bins) (r : Result (Unit {0}) Refusal) → r ≡ cond (unknown_here m) (Err BandwidthNeverSent) (Ok tt) → y ≡ cond (unknown_here m) m (endmants_by m)
    → acted (number_in r) (state y b) ≡ endmants_in (state m b)
unfolding endmants_in
endmants-are m y b r er ey = rw (er, ey) (go (unknown_here m))
  where
    go : (c : Bool) → acted (number_in (cond c (Err BandwidthNeverSent) (Ok tt))) (state (cond c m (endmants_by m)) b) ≡ cond c (acted 23 (state m b)) (acted 0 (state (endmants_by m) b))
    go true = refl
    go false = refl

pub ends-numbered : (c : Bool) (r : Result (Unit {0}) Refusal) → r ≡ cond c (Err BandwidthNeverSent) (Ok tt) → Numbered r
ends-numbered true r e = subst Numbered (sym e) (omega arith)
ends-numbered false r e = subst Numbered (sym e) tt
