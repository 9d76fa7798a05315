-- Seven numbers by slot, and their sum. Assumes nothing.
use mathlib.Core.Path.{◌≡◌, refl}
use mathlib.Core.List.{[], ◌∷◌}
use Prim.Native.Nat.{ℕ, ◌+◌}
use native.Mathlib.Omega.{arith}
use Rattle.sideinfo.specs.Steps.{sum_of, tab_of}
use Rattle.slot_table.specs.SlotTable.{eight_of}

pub eight : (x : ℕ → ℕ) {a b c d e f g : ℕ} → a ≡ x 0 → b ≡ x 1 → c ≡ x 2 → d ≡ x 3 → e ≡ x 4 → f ≡ x 5 → g ≡ x 6
    → a ∷ b ∷ c ∷ d ∷ e ∷ f ∷ g ∷ (a + b + c + d + e + f + g) ∷ [] ≡ eight_of x
unfolding sum_of tab_of
eight x {a} {b} {c} {d} {e} {f} {g} p q r s t u v =
    let h : a + b + c + d + e + f + g ≡ sum_of x 7 = omega arith in
    rw (h, p, q, r, s, t, u, v) refl
