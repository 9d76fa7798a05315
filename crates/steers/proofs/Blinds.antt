-- Laws of trees that look at no value of a set of names. Assumes nothing.
use mathlib.Core.Path.{◌≡◌, refl, ap, sym, ◌∙◌}
use mathlib.Core.Bool.{Bool, true, false, cond, true≢false}
use Prim.Native.Nat.{ℕ, ◌+◌, ◌-◌}
use lib.Dec.{leb, eqb}
use Rattle.reading.specs.Tree.{Tree, done, refuse, ahead, here, read, span, scan, ◌>>=◌}
use Rattle.reading.specs.Frame.{Format, behind, refuse_at, header_by, TailNames, ending, tail}
use Rattle.steers.specs.Blind.{Blind}

module _ (N : ℕ → Bool) where
  pub blind-bind : {A B : Type 0} (t : Tree A) (f : A → Tree B) → Blind N t → ((a : A) → Blind N (f a)) → Blind N (t >>= f)
  unfolding ◌>>=◌
  blind-bind (done a) f h k = k a
  blind-bind (refuse n) f h k = tt
  blind-bind (ahead n w) f h k = tt
  blind-bind (here g) f h k = λ p. blind-bind (g p) f (h p) k
  blind-bind (read q w g) f h k = (λ e u v. ap (λ t. t >>= f) (h.0 e u v), λ v. blind-bind (g v) f (h.1 v) k)
  blind-bind (span q w t) f h k = (h.0, blind-bind t f h.1 k)
  blind-bind (scan q s g) f h k = (h.0, λ v. blind-bind (g v) f (h.1 v) k)

  pub blind-choice : {A : Type 0} (c : Bool) (t u : Tree A) → Blind N t → Blind N u → Blind N (cond c t u)
  blind-choice true t u h k = h
  blind-choice false t u h k = k

  pub blind-header : {H A : Type 0} (F : Format H A) → Blind N F.opening → ((h : H) → Blind N (F.rest h)) → (v : ℕ) → Blind N (header_by F v)
  unfolding header_by
  blind-header F o k v =
      blind-bind F.opening _ o (λ h. blind-choice (F.look.good v) (F.rest h) (refuse_at F.look.number (behind F.look)) (k h) (λ p. tt))

  module _ (names : TailNames) (auxbits : N names.auxbits ≡ false) (auxdatal : N names.auxdatal ≡ false) where
    blind-ending : {A : Type 0} (a : A) → Blind N (ending names a)
    unfolding ending
    blind-ending a = (λ e u v. refl, λ v. (λ e u v. refl, λ v. (λ e u v. refl, λ v. tt)))

    pub blind-tail : {A : Type 0} (v l : ℕ) (a : A) → Blind N (tail names v l a)
    unfolding tail
    blind-tail v l a p =
        blind-choice (leb (p + 18) l) _ _
        (blind-choice (eqb v 1) _ _
        (blind-choice (leb (p + 32) l) _ _
        (auxbits, (λ e. absurd (true≢false (sym e ∙ auxdatal)), λ n. blind-choice (leb n (l - 32 - p)) _ _ (blind-ending a) tt))
        tt)
        (auxbits, blind-ending a))
        tt
