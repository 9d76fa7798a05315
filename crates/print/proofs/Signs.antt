-- Laws of casts of signed numbers. Assumes nothing.
use mathlib.Core.Path.{◌≡◌, sym, subst}
use mathlib.Core.Bool.{true, false, true≢false}
use Prim.Native.Nat.{ℕ}
use native.Mathlib.Omega.{arith}
use lib.Dec.{T}
use lib.IntN.{ℤ, pos, negsuc, nat_abs}
use lib.Signed.{lt_z, non_neg}
use mir.Syntax.{w8, w16}
use mir.Val.{Fits, SFits, to_z, of_z}
use mir.Facts.{to_z-of_z, Fits-nat_abs, sfits_widen, ltb_absurd}

-- a number below 0 is no natural one
pub not-below {ℓ} : {X : Type ℓ} (n : ℕ) → lt_z (pos n) (pos 0) ≡ true → X
not-below n e = ltb_absurd {a = n} {b = 0} (omega arith) (subst T (sym e) tt)

natural : (z : ℤ) → lt_z z (pos 0) ≡ false → T (non_neg z)
natural (pos n) e = tt
natural (negsuc n) e = absurd (true≢false e)

-- what is not below 0, cast to a type without a sign
pub unsigned : {z : ℤ} → SFits w16 z → lt_z (to_z w16 (of_z w16 z)) (pos 0) ≡ false → T (non_neg (to_z w16 (of_z w16 z))) × Fits w16 (nat_abs (to_z w16 (of_z w16 z)))
unsigned {z} s e = (natural (to_z w16 (of_z w16 z)) e, subst (λ u. Fits w16 (nat_abs u)) (sym (to_z-of_z s)) (Fits-nat_abs {w = w16} {w' = w16} tt s))

-- a byte with a sign, cast to a wider type
pub widened : {z : ℤ} → SFits w8 z → SFits w16 (to_z w8 (of_z w8 z))
widened s = subst (SFits w16) (sym (to_z-of_z s)) (sfits_widen {w = w8} {w' = w16} tt s)
