-- A name that a list of roles does not have is plain. Assumes nothing.
use Prim.Native.Nat.{ℕ}
use mathlib.Core.Path.{◌≡◌, refl, ◌∙◌}
use mathlib.Core.Bool.{Bool, true, false, ◌&&◌, ◌||◌}
use mathlib.Core.List.{List, [], ◌∷◌}
use mathlib.Core.Logic.{⊎_elim}
use lib.Dec.{T, eqb, eqb→eq}
use borrow.Author.Tests.{ne_eqb}
use Rattle.names.specs.Roles.{Roled, roled, role_in}
use Rattle.names.proofs.Bools.{and_left, and_right, or_cases}
use Rattle.names.specs.declared.Role.TheVariants.{Plain}

-- what is left of a number after the arms of a `match`, the last arm first
abbrev pub away : List ℕ → ℕ → Type 0
away [] n = Unit {0}
away (k ∷ ks) n = away ks n × (n ≡ k → ⊥)

unfoldable pub among : ℕ → List ℕ → Bool
among k [] = false
among k (x ∷ xs) = eqb k x || among k xs

abbrev pub named : List Roled → List ℕ → Bool
named [] ks = true
named (x ∷ xs) ks = among x.name ks && named xs ks

differs : (ks : List ℕ) (n k : ℕ) → away ks n → T (among k ks) → n ≡ k → ⊥
unfolding among
differs [] n k a t e = t
differs (x ∷ xs) n k a t e = ⊎_elim (λ s. a.1 (e ∙ eqb→eq k x s)) (λ s. differs xs n k a.0 s e) (or_cases (eqb k x) (among k xs) t)

pub plain : (xs : List Roled) (ks : List ℕ) (n : ℕ) → away ks n → T (named xs ks) → Plain ≡ role_in xs n
unfolding role_in
plain [] ks n a t = refl
plain (x ∷ xs) ks n a t =
    let d : n ≡ x.name → ⊥ = differs ks n x.name a (and_left (among x.name ks) (named xs ks) t) in
    rw (ne_eqb n x.name d) (plain xs ks n a (and_right (among x.name ks) (named xs ks) t))

-- the names of the list, the last first
abbrev backwards : List Roled → List ℕ → List ℕ
backwards [] ks = ks
backwards (x ∷ xs) ks = backwards xs (x.name ∷ ks)

unfoldable pub arm_names : List ℕ
arm_names = backwards roled []
