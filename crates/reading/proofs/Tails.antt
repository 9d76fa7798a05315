-- Laws of the tail. Assumes nothing.
use mathlib.Core.Path.{◌≡◌, refl, subst}
use mathlib.Core.List.{List, []}
use mathlib.Core.Logic.{◌⊎◌, inl, inr}
use Prim.Native.Nat.{ℕ, ◌+◌, ◌-◌, ◌≤◌, ◌<◌}
use native.Mathlib.Omega.{arith}
use lib.Dec.{leb, eqb, leb→le, nleb→lt}
use Rattle.bits.specs.Bits.{bits_at}
use Rattle.reading.specs.Tree.{Tree, read, done}
use Rattle.reading.specs.Run.{Entry, end, Result, accepted, refused, Outcome, run}
use Rattle.reading.specs.Frame.{TailNames, plain, ending, auxdatae_at, tail, finish}
use Rattle.reading.proofs.Laws.{test, choice}
use Rattle.reading.proofs.Lockstep.{Side, side-stop, side-new, side-map, beyond}

ruleset tests = (arith, leb→le, nleb→lt)

module _ (names : TailNames) where
  -- auxbits and auxdatal
  abbrev pub Aux : Entry → Type 0
  Aux e = (e.field.name ≡ names.auxbits) ⊎ (e.field.name ≡ names.auxdatal)

  abbrev pub LateOrAux : ℕ → Entry → Type 0
  LateOrAux d e = (d < end e.field) ⊎ Aux e

  step : {A : Type 0} (t : Tree A) (b : List ℕ) (d p l : ℕ) → d < p → Side (LateOrAux d) d [] (run t b p l)
  step t b d p l h = side-map (λ e k. inl k) (beyond t b d p l h)

  ending-late : {A : Type 0} (b : List ℕ) (a : A) (q l d : ℕ) → q + 18 ≤ l → d ≤ q → Side (LateOrAux d) d [] (run (ending names a) b q l)
  unfolding run ending
  ending-late b a q l d h k =
      test (Side (LateOrAux d) d []) (leb (q + 1) l)
      (λ _. side-new _ (inl (omega arith)) (step (read (plain names.reserved) 1 (λ _. read (plain names.crc2) 16 (λ _. done a))) b d (q + 1) l (omega arith)))
      (λ f. side-stop 8 q (omega tests))

  -- what the tail records, but for auxbits and auxdatal, ends after the bit auxdatae, and it does not stop before that
  pub tail-late : {A : Type 0} (b : List ℕ) (v : ℕ) (a : A) (p l d : ℕ) → p + 18 ≤ l → d + 18 ≤ l → Side (LateOrAux d) d [] (run (tail names v l a) b p l)
  unfolding tail run
  tail-late {A} b v a p l d h k =
      choice G (leb (p + 18) l)
      (λ _. choice G (eqb v 1)
      (λ _. choice G (leb (p + 32) l)
      (λ f. test S (leb (p + (l - 32 - p)) l)
      (λ _. side-new _ (inr (inl refl))
      (test S (leb (p + (l - 32 - p) + 14) l)
      (λ _. side-new _ (inr (inr refl))
      (choice (λ t. S (run t b (p + (l - 32 - p) + 14) l)) (leb (bits_at b (p + (l - 32 - p)) 14) (l - 32 - p))
      (λ _. ending-late b a (p + (l - 32 - p) + 14) l d (omega tests) (omega tests))
      (λ _. side-stop 32 (p + (l - 32 - p) + 14 + 1) (omega tests))))
      (λ g. side-stop 8 (p + (l - 32 - p)) (omega tests))))
      (λ g. side-stop 8 p (omega tests)))
      (λ f. side-stop 31 (p + (auxdatae_at l - p + 1)) (omega tests)))
      (λ _. test S (leb (p + (auxdatae_at l - p)) l)
      (λ _. side-new _ (inr (inl refl)) (ending-late b a (p + (auxdatae_at l - p)) l d (omega arith) (omega arith)))
      (λ g. side-stop 8 p (omega tests))))
      (λ f. side-stop 30 p (omega tests))
    where
      S : Outcome A → Type 0
      S = Side (LateOrAux d) d []

      G : Tree A → Type 0
      G t = S (run t b p l)

  -- what an acceptance from the place p tells: the tail fitted, and it ends at the frame's end
  abbrev Ended : {A : Type 0} → ℕ → ℕ → Result A → ℕ → Type 0
  Ended p l (accepted a) e = (e ≡ l) × (p + 18 ≤ l)
  Ended p l (refused n) e = Unit {0}

  ending-ends : {A : Type 0} (b : List ℕ) (a : A) (p q l : ℕ) → q + 18 ≡ l → p + 18 ≤ l
      → let o : Outcome A = run (ending names a) b q l in Ended p l o.result o.place
  unfolding run ending
  ending-ends {A} b a p q l h k =
      test S (leb (q + 1) l) (λ _. test S (leb (q + 1 + 1) l) (λ _. test S (leb (q + 1 + 1 + 16) l) (λ _. (omega arith, k)) (λ _. tt)) (λ _. tt)) (λ _. tt)
    where
      S : Outcome A → Type 0
      S o = Ended p l o.result o.place

  tail-ends : {A : Type 0} (b : List ℕ) (v : ℕ) (a : A) (p l : ℕ) → let o : Outcome A = run (tail names v l a) b p l in Ended p l o.result o.place
  unfolding tail run
  tail-ends {A} b v a p l =
      choice G (leb (p + 18) l)
      (λ h. choice G (eqb v 1)
      (λ _. choice G (leb (p + 32) l)
      (λ f. test S (leb (p + (l - 32 - p)) l)
      (λ _. test S (leb (p + (l - 32 - p) + 14) l)
      (λ _. choice (λ t. S (run t b (p + (l - 32 - p) + 14) l)) (leb (bits_at b (p + (l - 32 - p)) 14) (l - 32 - p))
      (λ _. ending-ends b a p (p + (l - 32 - p) + 14) l (omega tests) (omega tests))
      (λ _. tt))
      (λ _. tt))
      (λ _. tt))
      (λ f. tt))
      (λ _. test S (leb (p + (auxdatae_at l - p)) l) (λ _. ending-ends b a p (p + (auxdatae_at l - p)) l (omega tests) (omega tests)) (λ _. tt)))
      (λ _. tt)
    where
      S : Outcome A → Type 0
      S o = Ended p l o.result o.place

      G : Tree A → Type 0
      G t = S (run t b p l)

  pub finish-ends : {A : Type 0} (b : List ℕ) (l : ℕ) (a c : A) (p : ℕ) → (finish names b l a p).result ≡ accepted c → ((finish names b l a p).place ≡ l) × (p + 18 ≤ l)
  unfolding finish
  finish-ends b l a c p e = subst (λ r. Ended p l r (finish names b l a p).place) e (tail-ends b (bits_at b (auxdatae_at l) 1) a p l)
