-- Laws of what is added to a text. Assumes nothing.
use Rattle.std.proofs.Common.{◌≡◌, ℕ, zero, suc, ◌+◌, ◌-◌, ◌≤◌, List, [], ◌∷◌, ◌++◌, length, take, min, refl, sym, ap, ◌∙◌, subst, arith, append_assoc, append-nil, length-take, length-take-le}
use Rattle.std.proofs.lemmas.Slice.{take-put_mid}
use borrow.Rule.Slice.PartMut.{put_mid}
use native.Mathlib.Decide.{dec_le}
use lib.Seq.{take_all, take-append-add}
use Rattle.print.specs.Text.{Adds}

-- no more than there are
take-least : (k : ℕ) (l : List ℕ) → take (min k (length l)) l ≡ take k l
take-least k l = go (dec_le k (length l))
  where
    go : Dec (k ≤ length l) → take (min k (length l)) l ≡ take k l
    go (yes h) = let e : min k (length l) ≡ k = omega arith in rw e refl
    go (no h) =
        let e : min k (length l) ≡ length l = omega arith in
        rw e (take_all (length l) l (omega arith) ∙ sym (take_all k l (omega arith)))

-- the part of the bytes that finds room
fits : (n : ℕ) (old bytes : List ℕ) → length old ≤ n → old ++ take (min (length bytes) (n - length old)) bytes ≡ take n (old ++ bytes)
fits n old bytes h =
    let e : min (length bytes) (n - length old) ≡ min (n - length old) (length bytes) = omega arith in
    let room : n ≡ length old + (n - length old) = omega arith in
    ap (λ k. old ++ take k bytes) e
    ∙ ap (λ l. old ++ l) (take-least (n - length old) bytes)
    ∙ sym (ap (λ k. take k (old ++ bytes)) room ∙ take-append-add old bytes (n - length old))

-- written behind the first `len` bytes of a buffer, it is added to them
pub behind : (n len k part : ℕ) (buffer put bytes : List ℕ) → length buffer ≡ n → len ≤ n → k ≡ min (length bytes) (n - len)
    → put ≡ take k bytes → Adds n (take len buffer) bytes (take (len + k) (put_mid len part buffer put))
behind n len k part buffer put bytes size within m e =
    let old : length (take len buffer) ≡ len = length-take-le len buffer (omega arith) in
    let room : length put ≡ k = ap length e ∙ length-take-le k bytes (omega arith) in
    let q : k ≡ min (length bytes) (n - length (take len buffer)) = omega arith in
    record {
      is =
          take-put_mid len part buffer put (len + k) (omega arith) (omega arith)
          ∙ ap (λ l. take len buffer ++ l) (e ∙ ap (λ i. take i bytes) q)
          ∙ fits n (take len buffer) bytes (omega arith);
    }

-- what is cut twice
cut : (room : ℕ) (a b : List ℕ) → take room (take room a ++ b) ≡ take room (a ++ b)
cut zero a b = refl
cut (suc room) [] b = refl
cut (suc room) (x ∷ a) b = ap (λ l. x ∷ l) (cut room a b)

-- two additions are one
infixl 40 ◌then◌
pub ◌then◌ : {n : ℕ} {old mid new a b : List ℕ} → Adds n old a mid → Adds n mid b new → Adds n old (a ++ b) new
◌then◌ {n} {old} {mid} {new} {a} {b} p q = record {
  is = q.is ∙ ap (λ l. take n (l ++ b)) p.is ∙ cut n (old ++ a) b ∙ ap (take n) (append_assoc old a b);
}

-- what is added is what is meant
pub meant : {n : ℕ} {old new a b : List ℕ} → a ≡ b → Adds n old a new → Adds n old b new
meant {n} {old} {new} e p = subst (λ t. Adds n old t new) e p

-- nothing more
pub nothing : (n : ℕ) (old : List ℕ) → length old ≤ n → Adds n old [] old
nothing n old h = record { is = sym (ap (take n) (append-nil old) ∙ take_all n old h) }

-- a text has no more bytes than there is room for
pub room : {n : ℕ} {old bytes new : List ℕ} → Adds n old bytes new → length new ≤ n
room {n} {old} {bytes} p = rw (p.is, length-take) (omega arith)

-- what has room is there whole, in a text that was empty
pub whole : {n : ℕ} {old bytes new : List ℕ} → old ≡ [] → Adds n old bytes new → length bytes ≤ n → new ≡ bytes
whole {n} {old} {bytes} e p h = p.is ∙ ap (λ l. take n (l ++ bytes)) e ∙ take_all n bytes h
