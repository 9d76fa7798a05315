-- Pointers written, and the sum of their shares.
-- Assumes nothing.
use mathlib.Core.Path.{◌≡◌, refl, ap, ap₂, ◌∙◌, sym}
use mathlib.Core.List.{List}
use Prim.Native.Nat.{ℕ, zero, suc, ◌+◌, ◌-◌, ◌*◌, ◌<◌, ◌≤◌}
use native.Mathlib.Nat.{add_assoc, add-suc, add-zero, mul-suc}
use native.Mathlib.Omega.{arith}
use lib.ListN.{length, get_or, set}
use Rattle.alloc.specs.Premises.{Pointed}
use Rattle.alloc.specs.Shares.{total}
use Rattle.alloc.proofs.Lists.{written_none, written-more, written-join}

total-most : (f : ℕ → ℕ) (most : ℕ) → ((k : ℕ) → f k ≤ most) → (i n : ℕ) → total f i n ≤ most * n
total-most f most h i zero = omega arith
total-most f most h i (suc n) = rw (mul-suc most n) (let r = total-most f most h i n in let s = h (i + n) in omega arith)

pub total-same : (f g : ℕ → ℕ) (i n : ℕ) → ((k : ℕ) → i ≤ k → k < i + n → f k ≡ g k) → total f i n ≡ total g i n
total-same f g i zero h = refl
total-same f g i (suc n) h = ap₂ ◌+◌ (total-same f g i n (λ k a b. h k a (omega arith))) (h (i + n) (omega arith) (omega arith))

total-join : (f : ℕ → ℕ) (i m n : ℕ) → total f i (m + n) ≡ total f i m + total f (i + m) n
total-join f i m zero = rw (add-zero m, add-zero (total f i m)) refl
total-join f i m (suc n) =
    ap (total f i) (add-suc m n)
    ∙ ap₂ ◌+◌ (total-join f i m n) (ap f (sym (add_assoc i m n)))
    ∙ add_assoc (total f i m) (total f (i + m) n) (f (i + m + n))

module _ (shares : List ℕ) where
  pub pointed-none : (f : ℕ → ℕ) (lo : ℕ) (old : List ℕ) → Pointed shares f lo lo old old 0
  pointed-none f lo old =
      let z : lo - lo ≡ 0 = omega arith in
      record { written = written_none f lo old; sum = rw z refl }

  -- one pointer more
  pub pointed-more : (f : ℕ → ℕ) (lo j : ℕ) (old new : List ℕ) (b r : ℕ) → lo ≤ j → j < length new → Pointed shares f lo j old new r → b ≡ f j
      → Pointed shares f lo (j + 1) old (set new j b) (r + get_or shares b 0)
  pointed-more f lo j old new b r le h w e =
      let z : j + 1 - lo ≡ suc (j - lo) = omega arith in
      let k : lo + (j - lo) ≡ j = omega arith in
      record {
        written = written-more f lo j old new b le h w.written e;
        sum = rw (z, k) (ap₂ ◌+◌ w.sum (ap (λ x. get_or shares x 0) e));
      }

  -- a range, and the range after it
  pub pointed-join : (f g : ℕ → ℕ) (lo mid hi : ℕ) (old new newer : List ℕ) (r s : ℕ) → lo ≤ mid → mid ≤ hi
      → Pointed shares f lo mid old new r → Pointed shares g mid hi new newer s → ((k : ℕ) → mid ≤ k → k < hi → g k ≡ f k)
      → Pointed shares f lo hi old newer (r + s)
  pointed-join f g lo mid hi old new newer r s le up one two same =
      let z : hi - lo ≡ mid - lo + (hi - mid) = omega arith in
      let k : lo + (mid - lo) ≡ mid = omega arith in
      record {
        written = written-join f g lo mid hi old new newer le up one.written two.written same;
        sum = ap₂ ◌+◌ one.sum (two.sum ∙ total-same _ (λ k. get_or shares (f k) 0) mid (hi - mid) (λ k a b. ap (λ x. get_or shares x 0) (same k a (omega arith))))
            ∙ (rw (z, total-join (λ k. get_or shares (f k) 0) lo (mid - lo) (hi - mid), k) refl);
      }

  pub pointed-most : (f : ℕ → ℕ) (most lo hi : ℕ) (old new : List ℕ) (r : ℕ) → ((k : ℕ) → get_or shares k 0 ≤ most) → Pointed shares f lo hi old new r
      → r ≤ most * (hi - lo)
  pointed-most f most lo hi old new r h w = rw w.sum (total-most (λ k. get_or shares (f k) 0) most (λ k. h (f k)) lo (hi - lo))
