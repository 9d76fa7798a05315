-- Tests of the reference that no input meets, so that the definitions leave them out: one fact for each. Assumes nothing.
use mathlib.Core.Path.{◌≡◌, refl}
use mathlib.Core.Bool.{Bool, true, false, cond}
use Prim.Native.Nat.{ℕ, ◌+◌, ◌-◌, ◌*◌, ◌/◌, ◌%◌, ◌≤◌, ◌<◌}
use native.Mathlib.Omega.{arith}
use mathlib.Core.Logic.{◌⊎◌, inl, inr}
use lib.Dec.{eqb}
use borrow.Author.Tests.{ne_eqb}
use Rattle.slots.specs.Slots.{CPL, LFE}
use Rattle.exponents.specs.Exponents.{size_of, groups_of}

-- 'exponent reuse where new exponents are required': a strategy has two bits, and 0 reads no set
pub strategy-within : (strategy : ℕ) → strategy < 4 → (strategy ≡ 0 → ⊥) → (1 ≤ strategy) × (strategy ≤ 3)
strategy-within strategy h n = (omega arith, omega arith)

-- the ends that the syntax gives: of a coupled channel 37 + 12 cplbegf, of an extended one 25 + 12 spx_begin_subbnd (2 to 11),
-- of another 37 + 3 (chbwcod + 12); the coupling channel has whole sub-bands of 12 bins
pub record Ending (end : ℕ) : Type 0 where
  pub some : 1 ≤ end
  pub within : end ≤ 253
  pub thirds : end % 3 ≡ 1

pub end-coupled : (cplbegf : ℕ) → cplbegf < 16 → Ending (37 + 12 * cplbegf)
end-coupled cplbegf h = omega arith

pub end-extended : (begin : ℕ) → begin < 12 → Ending (25 + 12 * begin)
end-extended begin h = omega arith

pub end-coded : (chbwcod : ℕ) → chbwcod ≤ 60 → Ending (37 + 3 * (chbwcod + 12))
end-coded chbwcod h = omega arith

-- 'exponent range': those of the channels above, of the coupling channel where it has a sub-band, and of the LFE channel, 0 to 7
pub range-coupling : (cplbegf n : ℕ) → 1 ≤ n → cplbegf + n ≤ 18 → (37 + 12 * cplbegf < 37 + 12 * (cplbegf + n)) × (37 + 12 * (cplbegf + n) ≤ 253)
range-coupling cplbegf n h k = (omega arith, omega arith)

-- 'exponent set shorter than its mantissa range': the groups reach the end, for each of the three sizes
thirds-reach : (n size : ℕ) → n % 3 ≡ 0 → (size ≡ 1) ⊎ ((size ≡ 2) ⊎ (size ≡ 4)) → n ≤ 3 * size * ((n + (3 * size - 3)) / (3 * size))
thirds-reach n size h (inl e) = rw e (omega arith)
thirds-reach n size h (inr (inl e)) = rw e (omega arith)
thirds-reach n size h (inr (inr e)) = rw e (omega arith)

twelves-reach : (n size : ℕ) → n % 12 ≡ 0 → (size ≡ 1) ⊎ ((size ≡ 2) ⊎ (size ≡ 4)) → n ≤ 3 * size * (n / (3 * size))
twelves-reach n size h (inl e) = rw e (omega arith)
twelves-reach n size h (inr (inl e)) = rw e (omega arith)
twelves-reach n size h (inr (inr e)) = rw e (omega arith)

sizes : (strategy : ℕ) → (size_of strategy ≡ 1) ⊎ ((size_of strategy ≡ 2) ⊎ (size_of strategy ≡ 4))
unfolding size_of
sizes strategy = go (eqb strategy 3) (eqb strategy 2)
  where
    size : Bool → Bool → ℕ
    size a b = cond a 4 (cond b 2 1)

    go : (a b : Bool) → (size a b ≡ 1) ⊎ ((size a b ≡ 2) ⊎ (size a b ≡ 4))
    go true b = inr (inr refl)
    go false true = inr (inl refl)
    go false false = inl refl

pub set-reaches-channel : (slot strategy start end : ℕ) → slot < 5 → Ending end → end ≤ 1 + 3 * size_of strategy * groups_of slot strategy start end
unfolding groups_of
set-reaches-channel slot strategy start end h k =
    let e : eqb slot CPL ≡ false = ne_eqb slot 5 (omega arith) in
    let f : eqb slot LFE ≡ false = ne_eqb slot 6 (omega arith) in
    let r = thirds-reach (end - 1) (size_of strategy) (omega (arith, k.thirds, k.some)) (sizes strategy) in
    rw (e, f) (omega (arith, k.some))

pub set-reaches-coupling : (strategy start n : ℕ) → start + 12 * n ≤ start + 3 * size_of strategy * groups_of CPL strategy start (start + 12 * n)
unfolding groups_of
set-reaches-coupling strategy start n =
    let e : start + 12 * n - start ≡ 12 * n = omega arith in
    let r = twelves-reach (12 * n) (size_of strategy) (omega arith) (sizes strategy) in
    rw e (omega arith)

pub set-reaches-lfe : 7 ≤ 1 + 3 * size_of 1 * groups_of LFE 1 0 7
unfolding size_of groups_of
set-reaches-lfe = omega arith
