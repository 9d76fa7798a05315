-- Chosen records of a list without gaps: the others keep their bits, and their values. Assumes nothing.
use mathlib.Core.Path.{◌≡◌, refl, ap, ap₂, sym, ◌∙◌}
use mathlib.Core.Bool.{Bool, true, false, cond, true≢false}
use mathlib.Core.List.{List, [], ◌∷◌, map}
use mathlib.Core.Logic.{inl, inr}
use Prim.Native.Nat.{ℕ, zero, suc, ◌≤◌, ◌<◌}
use native.Mathlib.Omega.{arith}
use Rattle.bits.specs.Bits.{bit_at, SameBits}
use Rattle.bits.proofs.BitLaws.{bits_at-cong}
use Rattle.reading.specs.Run.{Entry, end, refused, Outcome, out, cons}
use Rattle.reading.specs.Records.{All, Tiles, Valued}
use Rattle.reading.specs.Room.{cut_at, cut}
use Rattle.reading.proofs.Laws.{tiles-le}
use Rattle.steers.specs.Steering.{with_value, bits_in, reread, Outside, reread_in, renewed}
use Rattle.steers.proofs.Follows.{Spared}

module _ (C : ℕ → Entry → Bool) (x y : List ℕ) where
  -- each record that is not chosen has the same bits in both
  abbrev Kept : ℕ → List Entry → Type 0
  Kept k [] = Unit {0}
  Kept k (e ∷ es) = (C k e ≡ false → SameBits x y e.field.first (end e.field)) × Kept (suc k) es

  -- a bit before all records lies in none
  before : (es : List Entry) (k q m : ℕ) → Tiles q es m → (i : ℕ) → i < q → Outside C k es i
  before [] k q m t i h = tt
  before (e ∷ es) k q m t i h = (λ _. inl (omega (arith, t.0)), before es (suc k) (end e.field) m t.1 i (omega (arith, t.0)))

  pub kept_of : (es : List Entry) (k q m : ℕ) → Tiles q es m → ((i : ℕ) → q ≤ i → i < m → Outside C k es i → bit_at x i ≡ bit_at y i) → Kept k es
  kept_of [] k q m t h = tt
  kept_of (e ∷ es) k q m t h = (
    λ c i a b. h i (omega (arith, t.0)) (omega (arith, tiles-le (end e.field) m es t.1)) (λ d. absurd (true≢false (sym d ∙ c)), before es (suc k) (end e.field) m t.1 i b),
    kept_of es (suc k) (end e.field) m t.1 (λ i a l o. h i (omega (arith, t.0)) l (λ _. inr a, o)),
  )

  pub kept-spared : (N : ℕ → Bool) → ((k : ℕ) (e : Entry) → C k e ≡ true → N e.field.name ≡ true) → (es : List Entry) (k : ℕ) → Kept k es → Spared N x y es
  kept-spared N named [] k h = tt
  kept-spared N named (e ∷ es) k h = (λ n. h.0 (other n (C k e) refl), kept-spared N named es (suc k) h.1)
    where
      other : N e.field.name ≡ false → (r : Bool) → C k e ≡ r → C k e ≡ false
      other n true q = absurd (true≢false (sym (named k e q) ∙ n))
      other n false q = q

  -- a record whose bits are the same, read again, is the same
  reread-same : (e : Entry) → Valued x e → SameBits x y e.field.first (end e.field) → reread y e ≡ e
  reread-same e t s = ap (λ v. with_value v e) (value e.spans refl)
    where
      value : (r : Bool) → e.spans ≡ r → cond r e.field.value (bits_in y e) ≡ e.field.value
      value true q = refl
      value false q = sym (bits_at-cong x y e.field.first e.field.width s) ∙ sym (t q)

  pub reread-kept : (es : List Entry) (k : ℕ) → All (Valued x) es → Kept k es → map (reread y) es ≡ reread_in C k y es
  reread-kept [] k t h = refl
  reread-kept (e ∷ es) k t h = ap₂ ◌∷◌ (one (C k e) refl) (reread-kept es (suc k) t.1 h.1)
    where
      one : (r : Bool) → C k e ≡ r → reread y e ≡ cond r (reread y e) e
      one true q = refl
      one false q = reread-same e t.0 (h.0 q)

-- the room cuts a list that is read again as it cuts the list
pub cut-renewed : {A : Type 0} (C : ℕ → Entry → Bool) (b : List ℕ) (n : ℕ) (o : Outcome A) → cut n (renewed C b o) ≡ renewed C b (cut n o)
unfolding cut
cut-renewed {A} C b n o = go o.records n 0
  where
    same : (e : Entry) (r : Bool) → out {A = A} (refused 33) (cond r (reread b e) e).field.first [] ≡ out (refused 33) e.field.first []
    same e true = refl
    same e false = refl

    go : (es : List Entry) (n k : ℕ)
        → cut_at n o.result o.place (reread_in C k b es)
        ≡ out (cut_at n o.result o.place es).result (cut_at n o.result o.place es).place (reread_in C k b (cut_at n o.result o.place es).records)
    go [] n k = refl
    go (e ∷ es) zero k = same e (C k e)
    go (e ∷ es) (suc n) k = ap (cons (cond (C k e) (reread b e) e)) (go es n (suc k))
