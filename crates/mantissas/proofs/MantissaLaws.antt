-- Laws of conventional mantissas: one bin, and the end. Assumes nothing.
use mathlib.Core.Path.{◌≡◌, ◌∙◌}
use mathlib.Core.Bool.{true, false}
use mathlib.Core.List.{List, []}
use Prim.Native.Nat.{ℕ, suc, ◌+◌, ◌-◌, ◌*◌, ◌≤◌, ◌<◌}
use native.Mathlib.Omega.{arith}
use lib.Dec.{ltb}
use lib.ListN.{get_or}
use Rattle.reading.specs.Tree.{take}
use Rattle.reading.specs.Run.{accepted, refused, out, skim}
use Rattle.mantissas.specs.declared.Groups.{Groups}
use Rattle.slots.specs.Slots.{pointer}
use Rattle.mantissas.specs.Mantissas.{width_of, counted_of, conventional_of}
use Rattle.skim.proofs.SkimLaws.{skim-past, skim-on, skim-stop}

module _ (s : List ℕ) (baps : List ℕ) (slot i end : ℕ) (g : Groups) (p l : ℕ) where
  pub conv-end : end ≤ i → skim (conventional_of baps slot i (end - i) g) s p l ≡ out (accepted g) p []
  unfolding conventional_of
  conv-end h = let e : end - i ≡ 0 = omega arith in rw e (skim-stop s p l g)

  module _ (h : i < end) (bap w : ℕ) (a : bap ≡ get_or baps (256 * slot + i) 0) (e : w ≡ width_of g bap) where
    one : skim (conventional_of baps slot i (end - i) g) s p l ≡ skim (take w (λ _. conventional_of baps slot (i + 1) (end - (i + 1)) (counted_of g bap))) s p l
    unfolding conventional_of pointer
    one =
        let q : end - i ≡ suc (end - (i + 1)) = omega arith in
        let r : i + 1 ≡ suc i = omega arith in
        rw (q, r, e, a)

    pub conv-past : ltb l (p + w) ≡ true → skim (conventional_of baps slot i (end - i) g) s p l ≡ out (refused 8) p []
    conv-past f = one ∙ skim-past s p l w _ f

    pub conv-on : ltb l (p + w) ≡ false → (g' : Groups) → g' ≡ counted_of g bap
        → skim (conventional_of baps slot i (end - i) g) s p l ≡ skim (conventional_of baps slot (i + 1) (end - (i + 1)) g') s (p + w) l
    conv-on f g' c = one ∙ skim-on s p l w _ f ∙ rw c
