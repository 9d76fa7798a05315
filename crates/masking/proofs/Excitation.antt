-- The excitation, from one band to the next.
-- Assumes nothing.
use mathlib.Core.Path.{◌≡◌, refl, ◌∙◌}
use mathlib.Core.Bool.{◌&&◌}
use mathlib.Core.List.{List}
use Prim.Native.Nat.{ℕ, zero, suc, ◌+◌, ◌-◌, ◌<◌, ◌≤◌}
use native.Mathlib.Omega.{arith}
use borrow.Author.Tests.{le-ltb, ne_eqb}
use lib.ListN.{length, get_or, set, replicate}
use lib.Dec.{ltb, eqb}
use Rattle.alloc.specs.declared.Gains.{Gains}
use Rattle.alloc.specs.declared.Leaks.{Leaks}
use Rattle.alloc.specs.declared.Passed.{Passed}
use Rattle.alloc.specs.Allocation.{lfe_last}
use Rattle.alloc.specs.Levels.{next_low_l, begin_l, fast_l, slow_l, low_l, excite_l, excite_of_l, NextL}
use Rattle.alloc.specs.Premises.{Written, Passing, Excites, Leaking}
use Rattle.alloc.proofs.Lists.{picked_low, written_low, written-more, written-join}

-- no band is passed yet
pub passing-none : (bnd : List ℕ) (g : Gains) (l : Leaks) (first last : ℕ) (s : Passed) → s.fast ≡ l.fast → s.slow ≡ l.slow → s.low ≡ 0
    → Passing bnd g l first last first s
unfolding fast_l slow_l low_l
passing-none bnd g l first last s fast slow low =
    let z : first - first ≡ 0 = omega arith in
    record { from = omega arith; fast = rw z fast; slow = rw z slow; low = rw z low }

-- from band 22 on there is no lowcomp, nor in a range that does not start at band 0
pub low-none : (bnd : List ℕ) (first last low b : ℕ) → (first ≡ 0 → 22 ≤ b) → next_low_l bnd first last low b ≡ 0
low-none bnd zero last low b n = simp (le-ltb b 22 (n refl))
low-none bnd (suc first) last low b n = simp (ne_eqb (suc first) 0 (let z : suc first ≡ 0 → ⊥ = omega arith in z))

-- lowcomp is at most 384
pub low-most : (bnd : List ℕ) (first last low b : ℕ) → low ≤ 384 → next_low_l bnd first last low b ≤ 384
low-most bnd first last low b h =
    let r = picked_low (eqb first 0 && ltb b 22) _ 0 385
    (picked_low (lfe_last last b) low _ 385 (omega arith)
    (picked_low (ltb b 20) _ (low - 128) 385
    (picked_low (eqb (get_or bnd b 0 + 256) (get_or bnd (b + 1) 0)) _ _ 385
    (picked_low (ltb b 7) 384 320 385 (omega arith) (omega arith))
    (picked_low (ltb (get_or bnd (b + 1) 0) (get_or bnd b 0)) (low - 64) low 385 (omega arith) (omega arith)))
    (omega arith)))
    (omega arith) in
    omega arith

-- one band on
module _ (bnd : List ℕ) (g : Gains) (l : Leaks) (first last b : ℕ) (s : Passed) (s' : Passed)
    (so_far : Passing bnd g l first last b s)
    (next : NextL bnd g s first last (begin_l bnd first last) b s') where
  fast' : s'.fast ≡ fast_l bnd g l first last (suc (b - first))
  unfolding fast_l
  fast' =
      let e : first + (b - first) ≡ b = omega (arith, so_far.from) in
      rw (e, ← so_far.fast) next.fast

  slow' : s'.slow ≡ slow_l bnd g l first last (suc (b - first))
  unfolding slow_l
  slow' =
      let e : first + (b - first) ≡ b = omega (arith, so_far.from) in
      rw (e, ← so_far.slow) next.slow

  low' : s'.low ≡ low_l bnd g l first last (suc (b - first))
  unfolding low_l
  low' =
      let e : first + (b - first) ≡ b = omega (arith, so_far.from) in
      rw (e, ← so_far.low) next.low

  -- what the band is excited by
  excited-is : excite_of_l s'.fast s'.slow s'.low (begin_l bnd first last) b ≡ excite_l bnd g l first last (b - first)
  unfolding excite_l
  excited-is =
      let e : first + (b - first) ≡ b = omega (arith, so_far.from) in
      rw (e, ← fast', ← slow', ← low')

  passing-more : Passing bnd g l first last (b + 1) s'
  passing-more =
      let e : b + 1 - first ≡ suc (b - first) = omega (arith, so_far.from) in
      record { from = omega (arith, so_far.from); fast = rw e fast'; slow = rw e slow'; low = rw e low' }

module _ (bnd : List ℕ) (g : Gains) (first last : ℕ) where
  pub excites-more : (lo b : ℕ) (s t t' : Passed) (old new : List ℕ) (e : ℕ)
      → Excites bnd g first last lo b s t old new → NextL bnd g t first last (begin_l bnd first last) b t' → b < length new
      → e ≡ excite_of_l t'.fast t'.slow t'.low (begin_l bnd first last) b
      → Excites bnd g first last lo (b + 1) s t' old (set new b e)
  excites-more lo b s t t' old new e x next h is =
      record {
        up = omega (arith, x.up);
        on = λ l p. passing-more bnd g l first last b t t' (x.on l p) next;
        made = λ l p. written-more _ lo b old new e x.up h (x.made l p) (is ∙ excited-is bnd g l first last b t t' (x.on l p) next);
      }

  pub excites-join : (lo mid hi : ℕ) (s t r : Passed) (old new newer : List ℕ)
      → Excites bnd g first last lo mid s t old new → Excites bnd g first last mid hi t r new newer
      → Excites bnd g first last lo hi s r old newer
  excites-join lo mid hi s t r old new newer x y =
      record {
        up = omega (arith, x.up, y.up);
        on = λ l p. y.on l (x.on l p);
        made = λ l p. written-join _ _ lo mid hi old new newer x.up y.up (x.made l p) (y.made l (x.on l p)) (λ k a b. refl);
      }

-- no leak is above the leaks before the first band and the powers
module _ (bnd : List ℕ) (g : Gains) (l : Leaks) (first last : ℕ) (low : (k : ℕ) → get_or bnd k 0 < 32768) (leaking : Leaking l) where
  fast-low : (n : ℕ) → fast_l bnd g l first last n < 32768
  unfolding fast_l
  fast-low zero = leaking.fast
  fast-low (suc n) =
      let h = fast-low n in
      let p = low (first + n) in
      picked_low (ltb (first + n) (begin_l bnd first last)) _ _ 32768 (omega arith) (omega arith)

  slow-low : (n : ℕ) → slow_l bnd g l first last n < 32768
  unfolding slow_l
  slow-low zero = leaking.slow
  slow-low (suc n) =
      let h = slow-low n in
      let p = low (first + n) in
      picked_low (ltb (first + n) (begin_l bnd first last)) _ _ 32768 (omega arith) (omega arith)

  excite-low : (n : ℕ) → excite_l bnd g l first last n < 32768
  unfolding excite_l
  excite-low n =
      let f = fast-low (suc n) in
      let s = slow-low (suc n) in
      picked_low (ltb (first + n) (begin_l bnd first last)) _ _ 32768 (omega arith) (omega arith)

  pub excitation-low : (out : List ℕ) → Written (λ b. excite_l bnd g l first last (b - first)) first last (replicate 50 0) out → (k : ℕ) → get_or out k 0 < 32768
  excitation-low out w = written_low _ first last 50 32768 out w (λ b. excite-low (b - first))
