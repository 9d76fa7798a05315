-- The sync word at a position of a capture. Assumes nothing.
use mathlib.Core.Path.{◌≡◌, sym, ap, ◌∙◌}
use mathlib.Core.Bool.{Bool, true, false}
use mathlib.Core.List.{List}
use Prim.Native.Nat.{ℕ, ◌+◌, ◌*◌, ◌≤◌, ◌<◌}
use native.Mathlib.Omega.{arith}
use native.Mathlib.Nat.{add-zero}
use native.Mathlib.Decide.{ℕ_discrete}
use lib.Dec.{eqb}
use lib.ListN.{get_or, drop}
use lib.Seq.{get_or-drop}
use borrow.Author.Tests.{eqb-true, eqb-false}
use Rattle.bits.specs.Bits.{bits_at}
use Rattle.bits.proofs.Loads.{two}
use Rattle.positions.specs.Passes.{Synced, Passes}

module _ (s : List ℕ) (p : ℕ) (k : (i : ℕ) → get_or s i 0 < 256) where
  abbrev word : ℕ
  word = get_or s p 0 * 256 + get_or s (p + 1) 0

  word_at : word ≡ bits_at (drop p s) 0 16
  word_at =
      let e : get_or (drop p s) 0 0 ≡ get_or s p 0 = get_or-drop p s 0 0 ∙ ap (λ (i : ℕ). get_or s i 0) (add-zero p) in
      let f : get_or (drop p s) 1 0 ≡ get_or s (p + 1) 0 = get_or-drop p s 1 0 in
      rw (← e, ← f) (two (drop p s) 0 (rw e (k p)) (rw f (k (p + 1))))

  pub synced-is : {b : Bool} → b ≡ eqb (get_or s p 0 * 256 + get_or s (p + 1) 0) 0x0B77 → b ≡ true → Synced s p
  synced-is e h = sym word_at ∙ eqb-true word 0x0B77 (sym e ∙ h)

  pub unsynced-is : {b : Bool} → b ≡ eqb (get_or s p 0 * 256 + get_or s (p + 1) 0) 0x0B77 → b ≡ false → ¬ Synced s p
  unsynced-is e h q = eqb-false word 0x0B77 (sym e ∙ h) (word_at ∙ q)

-- the positions from one on and before p have no sync word, and p is not past a last one
pub record Going (s : List ℕ) (from last p : ℕ) : Type 0 where
  pub low : from ≤ p
  pub high : p ≤ last
  pub none : (q : ℕ) → from ≤ q → q < p → ¬ Synced s q

module _ (s : List ℕ) (from last : ℕ) where
  pub going_on : (p : ℕ) → Going s from last p → p < last → ¬ Synced s p → Going s from last (p + 1)
  going_on p g h n = record {
    low = omega (arith, g.low);
    high = omega arith;
    none = λ q l u. go q l u (ℕ_discrete q p);
  }
    where
      go : (q : ℕ) → from ≤ q → q < p + 1 → Dec (q ≡ p) → ¬ Synced s q
      go q l u (yes e) = rw e n
      go q l u (no d) = g.none q l (omega (arith, d))

  pub stopped-at : (p : ℕ) → Going s from last p → Synced s p → Passes s from last p
  stopped-at p g e = record { low = g.low; high = g.high; none = g.none; stops = λ _. e }
