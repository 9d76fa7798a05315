-- Tables of widths, each by the rule that the code computes: one test over the whole table, carried to each entry. Assumes nothing.
use mathlib.Core.Path.{◌≡◌, refl}
use mathlib.Core.Bool.{Bool, cond}
use mathlib.Core.List.{List}
use Prim.Native.Nat.{ℕ, ◌+◌, ◌-◌, ◌≤◌, ◌<◌}
use native.Mathlib.Omega.{arith}
use native.Mathlib.Decide.{dec_lt}
use lib.Dec.{T, eqb, ltb, eqb→eq}
use lib.ListN.{length, get_or, get_or-eq_default}
use borrow.Author.Tests.{lt-ltb, le-ltb}
use Rattle.tables.proofs.Rule.{every, at}
use Rattle.tables.specs.Small.{bap_bits, vq_bits, gaq_bits}

-- every entry is what the rule gives, and 0 past the table
abbrev same : (ℕ → ℕ) → ℕ → ℕ → Bool
same f k x = eqb x (f k)

ruled : (f : ℕ → ℕ) (n : ℕ) (xs : List ℕ) → length xs ≡ n → T (every (same f) 0 xs) → (k : ℕ) → get_or xs k 0 ≡ cond (ltb k n) (f k) 0
ruled f n xs e t k = go (dec_lt k n)
  where
    go : Dec (k < n) → get_or xs k 0 ≡ cond (ltb k n) (f k) 0
    go (yes h) = rw (lt-ltb k n h) (eqb→eq _ _ (at (same f) xs t k (omega (arith, e))))
    go (no h) = let z : n ≤ k = omega arith in rw (le-ltb k n z) (get_or-eq_default xs 0 (omega (arith, e)))

-- Table 6.17
abbrev bap-rule : ℕ → ℕ
bap-rule b = cond (eqb b 3) 3 (cond (ltb b 5) 0 (cond (ltb b 14) (b - 1) (cond (eqb b 14) 14 16)))

pub bap-is : (b : ℕ) → get_or bap_bits b 0 ≡ cond (ltb b 16) (cond (eqb b 3) 3 (cond (ltb b 5) 0 (cond (ltb b 14) (b - 1) (cond (eqb b 14) 14 16)))) 0
unfolding bap_bits
bap-is b = ruled bap-rule 16 bap_bits refl tt b

-- Table E.2.2, vector indexes and pre-mantissas
abbrev vq-rule : ℕ → ℕ
vq-rule h = cond (eqb h 0) 0 (cond (ltb h 5) (h + 1) (h + 2))

pub vq-is : (h : ℕ) → get_or vq_bits h 0 ≡ cond (ltb h 8) (cond (eqb h 0) 0 (cond (ltb h 5) (h + 1) (h + 2))) 0
unfolding vq_bits
vq-is h = ruled vq-rule 8 vq_bits refl tt h

abbrev gaq-rule : ℕ → ℕ
gaq-rule r = cond (ltb r 10) (r + 3) (cond (eqb r 10) 14 16)

pub gaq-is : (r : ℕ) → get_or gaq_bits r 0 ≡ cond (ltb r 12) (cond (ltb r 10) (r + 3) (cond (eqb r 10) 14 16)) 0
unfolding gaq_bits
gaq-is r = ruled gaq-rule 12 gaq_bits refl tt r
