-- Where a run is accepted it does not pass its limit, and stays where it begins past it; inside a span it never does. Assumes nothing.
use mathlib.Core.Path.{◌≡◌, refl}
use mathlib.Core.List.{List, []}
use Prim.Native.Nat.{ℕ, ◌+◌, max, ◌≤◌}
use native.Mathlib.Omega.{arith}
use lib.Dec.{leb, leb→le}
use Rattle.bits.specs.Bits.{bits_at}
use Rattle.reading.specs.Tree.{Skim, stop, fail, at, take, Tree, done, refuse, ahead, here, read, span as spanned, scan}
use Rattle.reading.specs.Run.{Entry, Result, accepted, refused, Outcome, out, cons, and_then, after, skim, run}
use Rattle.reading.proofs.Laws.{test}

pub skim-reaches : {A : Type 0} (s : Skim A) (b : List ℕ) (p l : ℕ) → (skim s b p l).place ≤ max p l
unfolding skim
skim-reaches (stop a) b p l = omega arith
skim-reaches (fail n) b p l = omega arith
skim-reaches (at k) b p l = skim-reaches (k p) b p l
skim-reaches (take w k) b p l =
    test (λ o. o.place ≤ max p l) (leb (p + w) l)
    (λ c. let h : p + w ≤ l = leb→le (p + w) l c in omega (arith, skim-reaches (k (bits_at b p w)) b (p + w) l))
    (λ _. omega arith)

pub record Reaches {A : Type 0} (m : ℕ) (o : Outcome A) : Type 0 where
  pub reaches : (a : A) → o.result ≡ accepted a → o.place ≤ m

reaches-refused : {A : Type 0} (n m q : ℕ) → Reaches {A = A} m (out (refused n) q [])
reaches-refused n m q = record { reaches = λ a e. absurd (let z : ◌≡◌ {A = ℕ} 0 1 = cc in omega arith) }

reaches-cons : {A : Type 0} (m n : ℕ) (e : Entry) (o : Outcome A) → n ≤ m → Reaches n o → Reaches m (cons e o)
reaches-cons m n e o h r = record { reaches = λ a d. omega (arith, r.reaches a d) }

pub reaches-after : {A B : Type 0} (o : Outcome A) (f : A → ℕ → Outcome B) (m : ℕ) → ((a : A) → o.result ≡ accepted a → Reaches m (f a o.place)) → Reaches m (after o f)
unfolding after
reaches-after {A} o f m k = go o.result refl
  where
    go : (r : Result A) → o.result ≡ r → Reaches m (and_then r o.place o.records f)
    go (accepted a) e = record { reaches = (k a e).reaches }
    go (refused n) e = record { reaches = λ a d. absurd (let z : ◌≡◌ {A = ℕ} 0 1 = cc in omega arith) }

pub run-reaches : {A : Type 0} (t : Tree A) (b : List ℕ) (p l : ℕ) → Reaches (max p l) (run t b p l)
unfolding run
run-reaches (done a) b p l = record { reaches = λ x e. omega arith }
run-reaches (refuse n) b p l = reaches-refused n _ p
run-reaches (ahead n w) b p l = reaches-refused n _ (p + w)
run-reaches (here k) b p l = run-reaches (k p) b p l
run-reaches (read q w k) b p l =
    test (Reaches (max p l)) (leb (p + w) l)
    (λ c. let h : p + w ≤ l = leb→le (p + w) l c in reaches-cons (max p l) (max (p + w) l) _ _ (omega arith) (run-reaches (k (bits_at b p w)) b (p + w) l))
    (λ _. reaches-refused 8 _ p)
run-reaches (spanned q w t) b p l =
    test (Reaches (max p l)) (leb (p + w) l)
    (λ c. let h : p + w ≤ l = leb→le (p + w) l c in reaches-cons (max p l) (max (p + w) l) _ _ (omega arith) (run-reaches t b (p + w) l))
    (λ _. reaches-refused 8 _ p)
run-reaches (scan q s k) b p l =
    reaches-after (skim s b p l) _ (max p l)
    (λ v e. let h = skim-reaches s b p l in
    reaches-cons (max p l) (max (skim s b p l).place l) _ _ (omega arith) (run-reaches (k v) b (skim s b p l).place l))
