-- Laws of skims: one read, and one skim after another. Assumes nothing.
use mathlib.Core.Path.{◌≡◌, refl, sym, ◌∙◌}
use mathlib.Core.Bool.{Bool, true, false, cond}
use mathlib.Core.List.{List, []}
use Prim.Native.Nat.{ℕ, ◌+◌, ◌-◌}
use lib.Dec.{leb, ltb}
use borrow.Author.Tests.{ltb-true, ltb-false, le-leb, lt-leb}
use Rattle.std.specs.Prelude.{Result as Ended, Ok, Err, IfOk}
use Rattle.std.specs.Result.{IsErrAnd}
use Rattle.std.proofs.lemmas.Result.{err_from_is_err_and}
use Rattle.bits.specs.Bits.{bits_at}
use Rattle.refusals.specs.declared.Refused.{Refused}
use Rattle.refusals.specs.declared.Refusal.TheVariants.{Truncated}
use Rattle.reading.specs.Tree.{Skim, stop, fail, at, take, ◌>>-◌}
use Rattle.reading.specs.Run.{Result, accepted, refused, Outcome, out, skim}
use Rattle.skim.specs.Counted.{counted, counting}
use Rattle.skim.specs.Outcomes.{refused_at, outcome, look_of}
use Rattle.skim.specs.declared.Seen.{Seen}

module _ {A : Type 0} (s : List ℕ) (p l : ℕ) where
  -- bits that pass the end, and bits that do not
  pub skim-past : (w : ℕ) (k : ℕ → Skim A) → ltb l (p + w) ≡ true → skim (take w k) s p l ≡ out (refused 8) p []
  unfolding skim
  skim-past w k h = rw (lt-leb (p + w) l (ltb-true l (p + w) h))

  pub skim-on : (w : ℕ) (k : ℕ → Skim A) → ltb l (p + w) ≡ false → skim (take w k) s p l ≡ skim (k (bits_at s p w)) s (p + w) l
  unfolding skim
  skim-on w k h = rw (le-leb (p + w) l (ltb-false l (p + w) h))

  pub skim-stop : (a : A) → skim (stop a) s p l ≡ out (accepted a) p []
  unfolding skim
  skim-stop a = refl

  pub skim-fail : (n : ℕ) → skim {A = A} (fail n) s p l ≡ out (refused n) p []
  unfolding skim
  skim-fail n = refl

-- what a look at bits tells
module _ {A : Type 0} (s : List ℕ) (p w l : ℕ) (k : ℕ → Skim A) where
  abbrev short : Refused
  short = record { refusal = Truncated; place = record { 0 = p } }

  abbrev seen : Seen
  seen = record { value = bits_at s p w; next = record { 0 = p + w } }

  pub look-past : (e : Refused) → Err e ≡ look_of s p w l → refused_at e ≡ skim (take w k) s p l
  unfolding look_of
  look-past e q = go (ltb l (p + w)) refl q
    where
      go : (t : Bool) → ltb l (p + w) ≡ t → Err e ≡ cond t (Err short) (Ok seen) → refused_at e ≡ skim (take w k) s p l
      go true h q = let z : e ≡ short = cc in rw z (sym (skim-past s p l w k h))
      go false h q = cc

  pub look-on : (x : Seen) → Ok x ≡ look_of s p w l → skim (take w k) s p l ≡ skim (k x.value) s x.next.0 l
  unfolding look_of
  look-on x q = go (ltb l (p + w)) refl q
    where
      go : (t : Bool) → ltb l (p + w) ≡ t → Ok x ≡ cond t (Err short) (Ok seen) → skim (take w k) s p l ≡ skim (k x.value) s x.next.0 l
      go true h q = cc
      go false h q = let z : x ≡ seen = cc in rw z (skim-on s p l w k h)

-- one skim after another: on where the first accepts, and refused where it refuses
module _ {A B : Type 0} (f : A → Skim B) (s : List ℕ) (l : ℕ) where
  ok : Result A → ℕ → Outcome B
  ok (accepted a) q = skim (f a) s q l
  ok (refused n) q = out (refused n) q []

  bound : (x : Skim A) (p : ℕ) → skim (x >>- f) s p l ≡ ok (skim x s p l).result (skim x s p l).place
  unfolding skim ◌>>-◌ ok
  bound (stop a) p = refl
  bound (fail n) p = refl
  bound (at k) p = bound (k p) p
  bound (take w k) p = go (bound (k (bits_at s p w)) (p + w)) (leb (p + w) l)
    where
      go : skim (k (bits_at s p w) >>- f) s (p + w) l ≡ ok (skim (k (bits_at s p w)) s (p + w) l).result (skim (k (bits_at s p w)) s (p + w) l).place
          → (t : Bool) → cond t (skim (k (bits_at s p w) >>- f) s (p + w) l) (out (refused 8) p [])
          ≡ ok (cond t (skim (k (bits_at s p w)) s (p + w) l) (out (refused 8) p [])).result (cond t (skim (k (bits_at s p w)) s (p + w) l) (out (refused 8) p [])).place
      go h true = h
      go h false = refl

  module _ (x : Skim A) (p q : ℕ) where
    pub bind-on : (a : A) → out (accepted a) q [] ≡ skim x s p l → skim (x >>- f) s p l ≡ skim (f a) s q l
    unfolding ok
    bind-on a e = bound x p ∙ rw (← e)

    pub bind-off : (n : ℕ) → out (refused n) q [] ≡ skim x s p l → skim (x >>- f) s p l ≡ out (refused n) q []
    unfolding ok
    bind-off n e = bound x p ∙ rw (← e)

-- a walk with the bits that it took
module _ {A : Type 0} (x : Skim A) (s : List ℕ) (p l q : ℕ) where
  pub counted-on : (a : A) → out (accepted a) q [] ≡ skim x s p l → out (accepted (counted a (q - p))) q [] ≡ skim (counting x) s p l
  unfolding counting skim
  counted-on a e = sym (bind-on (λ a. at (λ q. stop (counted a (q - p)))) s l x p q a e)

  pub counted-off : (n : ℕ) → out (refused n) q [] ≡ skim x s p l → out (refused n) q [] ≡ skim (counting x) s p l
  unfolding counting skim
  counted-off n e = sym (bind-off (λ a. at (λ q. stop (counted a (q - p)))) s l x p q n e)

-- a refusal that `?` hands on
pub handed_on : {A B : Type 0} (told : A → Outcome B) (P : A → Type 0) (r : Ended A Refused) (e : Refused) (o : Outcome B)
    → IsErrAnd r (λ x. x ≡ e) → refused_at e ≡ o → (outcome told r ≡ o) × IfOk r P
handed_on told P r e o i f = let p = err_from_is_err_and r i in rw (p.1, p.2) (f, tt)
