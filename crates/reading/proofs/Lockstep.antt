-- Two buffers that agree below bit d are read alike up to d, by every tree. Assumes nothing.
use mathlib.Core.Path.{◌≡◌, refl, ap, sym, ◌∙◌}
use mathlib.Core.Bool.{Bool, true, false, cond}
use mathlib.Core.List.{List, [], ◌∷◌, ◌++◌, append_assoc}
use mathlib.Core.Logic.{by_cases}
use Prim.Native.Nat.{ℕ, ◌+◌, ◌≤◌, ◌<◌}
use native.Mathlib.Omega.{arith}
use native.Mathlib.Decide.{dec_le}
use lib.Dec.{leb}
use Rattle.bits.specs.Bits.{bits_at, SameBits}
use Rattle.bits.proofs.BitLaws.{bits_at-cong}
use Rattle.reading.specs.Tree.{Skim, stop, fail, at, take, Tree, done, refuse, ahead, here, read, span, scan}
use Rattle.reading.specs.Run.{Entry, end, Result, accepted, refused, Outcome, out, cons, prefix, and_then, after, skim, run}
use Rattle.reading.specs.Records.{All}
use Rattle.reading.proofs.Laws.{all_map, all_append, test, skimmed, after-skim}

abbrev pub Past : ℕ → Entry → Type 0
Past d e = d < end e.field

-- an outcome's records are c and then others, which all have Q, and its place is after d
pub record Side {A : Type 0} (Q : Entry → Type 0) (d : ℕ) (c : List Entry) (o : Outcome A) : Type 0 where
  pub rest : List Entry
  pub is : o.records ≡ c ++ rest
  pub late : All Q rest
  pub stands : d < o.place

abbrev pub Split : {A : Type 0} → (Entry → Type 0) → ℕ → Outcome A → Outcome A → Type 0
Split Q d o u = (c : List Entry) × Side Q d c o × Side Q d c u

pub data Common {A : Type 0} (d : ℕ) (o u : Outcome A) : Type 0 where
  same : o ≡ u → o.place ≤ d → Common d o u
  split : Split (Past d) d o u → Common d o u

pub side-stop : {A : Type 0} {Q : Entry → Type 0} {d : ℕ} (n p : ℕ) → d < p → Side {A = A} Q d [] (out (refused n) p [])
side-stop n p h = record { rest = []; is = refl; late = tt; stands = h }

pub side-new : {A : Type 0} {Q : Entry → Type 0} {d : ℕ} {o : Outcome A} (e : Entry) → Q e → Side Q d [] o → Side Q d [] (cons e o)
side-new e h r = record { rest = e ∷ r.rest; is = ap (e ∷◌) r.is; late = (h, r.late); stands = r.stands }

pub side-cons : {A : Type 0} {Q : Entry → Type 0} {d : ℕ} {c : List Entry} {o : Outcome A} (e : Entry) → Side Q d c o → Side Q d (e ∷ c) (cons e o)
side-cons e r = record { rest = r.rest; is = ap (e ∷◌) r.is; late = r.late; stands = r.stands }

pub side-prefix : {A : Type 0} {Q : Entry → Type 0} {d : ℕ} {c : List Entry} {o : Outcome A} (es : List Entry)
    → Side Q d c o → Side Q d (es ++ c) (prefix es o)
side-prefix {c} es r =
    record { rest = r.rest; is = ap (es ++◌) r.is ∙ sym (append_assoc es c r.rest); late = r.late; stands = r.stands }

pub side-map : {A : Type 0} {P Q : Entry → Type 0} {d : ℕ} {c : List Entry} {o : Outcome A} → ((e : Entry) → P e → Q e) → Side P d c o → Side Q d c o
side-map f r = record { rest = r.rest; is = r.is; late = all_map r.rest f r.late; stands = r.stands }

-- a side goes on to be a side
pub side_after : {A B : Type 0} {Q : Entry → Type 0} {d : ℕ} {c : List Entry} (o : Outcome A) (f : A → ℕ → Outcome B)
    → ((a : A) (p : ℕ) → d < p → Side Q d [] (f a p)) → Side Q d c o → Side Q d c (after o f)
unfolding after
side_after {A} {B} {Q} {d} {c} o f k s = go o.result
  where
    go : (r : Result A) → Side Q d c (and_then r o.place o.records f)
    go (accepted a) =
        let n : Side Q d [] (f a o.place) = k a o.place s.stands in
        record {
          rest = s.rest ++ n.rest;
          is = rw (s.is, n.is) (append_assoc c s.rest n.rest);
          late = all_append Q s.rest n.rest s.late n.late;
          stands = n.stands;
        }
    go (refused n) = record { rest = s.rest; is = s.is; late = s.late; stands = s.stands }

-- what is read from a place after d lies after d
pub beyond : {A : Type 0} (t : Tree A) (b : List ℕ) (d p l : ℕ) → d < p → Side (Past d) d [] (run t b p l)
unfolding run
beyond (done a) b d p l h = record { rest = []; is = refl; late = tt; stands = h }
beyond (refuse n) b d p l h = side-stop n p h
beyond (ahead n w) b d p l h = side-stop n (p + w) (omega arith)
beyond (here k) b d p l h = beyond (k p) b d p l h
beyond (read q w k) b d p l h =
    test (Side (Past d) d []) (leb (p + w) l)
    (λ _. side-new _ (omega arith) (beyond (k (bits_at b p w)) b d (p + w) l (omega arith)))
    (λ _. side-stop 8 p h)
beyond (span q w t) b d p l h =
    test (Side (Past d) d []) (leb (p + w) l)
    (λ _. side-new _ (omega arith) (beyond t b d (p + w) l (omega arith)))
    (λ _. side-stop 8 p h)
beyond (scan q s k) b d p l h =
    after-skim (Side (Past d) d []) (skim s b p l) _ (skimmed s b p l)
    (λ v e i. side-new _ (omega arith) (beyond (k v) b d e l (omega arith)))
    (λ n e i. side-stop n e (omega arith))

common-cons : {A : Type 0} {d : ℕ} {o u : Outcome A} (e : Entry) → Common d o u → Common d (cons e o) (cons e u)
common-cons e (same q h) = same (ap (cons e) q) h
common-cons e (split s) = split (e ∷ s.0, side-cons e s.1, side-cons e s.2)

common-test : {A : Type 0} {d : ℕ} {o u : Outcome A} (c : Bool) (n p : ℕ) → p ≤ d → Common d o u
    → Common d (cond c o (out (refused n) p [])) (cond c u (out (refused n) p []))
common-test true n p h r = r
common-test false n p h r = same refl h

apart : {A : Type 0} {d : ℕ} {o u : Outcome A} → Side (Past d) d [] o → Side (Past d) d [] u → Common d o u
apart r s = split ([], r, s)

common-prefix : {A : Type 0} {d : ℕ} {o u : Outcome A} (es : List Entry) → Common d o u → Common d (prefix es o) (prefix es u)
common-prefix es (same q h) = same (ap (prefix es) q) h
common-prefix es (split s) = split (es ++ s.0, side-prefix es s.1, side-prefix es s.2)

pub common-after : {A B : Type 0} {d : ℕ} (o u : Outcome A) (f g : A → ℕ → Outcome B) → Common d o u
    → ((a : A) (p : ℕ) → p ≤ d → Common d (f a p) (g a p))
    → ((a : A) (p : ℕ) → d < p → Side (Past d) d [] (f a p))
    → ((a : A) (p : ℕ) → d < p → Side (Past d) d [] (g a p))
    → Common d (after o f) (after u g)
unfolding after
common-after {A} {B} {d} o u f g (same q h) k i j = rw (← q) (go o.result)
  where
    go : (r : Result A) → Common d (and_then r o.place o.records f) (and_then r o.place o.records g)
    go (accepted a) = common-prefix o.records (k a o.place h)
    go (refused n) = same refl h
common-after o u f g (split s) k i j = split (s.0, side_after o f i s.1, side_after u g j s.2)

beyond-skim : {A : Type 0} (s : Skim A) (b : List ℕ) (d p l : ℕ) → d < p → Side (Past d) d [] (skim s b p l)
beyond-skim s b d p l h =
    let r = skimmed s b p l in
    record { rest = []; is = r.bare; late = tt; stands = omega (arith, r.ahead) }

module _ (x y : List ℕ) (d : ℕ) (agree : SameBits x y 0 d) where
  pub agree-bits : (p w : ℕ) → p + w ≤ d → bits_at y p w ≡ bits_at x p w
  agree-bits p w h = sym (bits_at-cong x y p w (λ i a c. agree i (omega arith) (omega arith)))

  pub skimming : {A : Type 0} (s : Skim A) (p l : ℕ) → p ≤ d → Common d (skim s x p l) (skim s y p l)
  unfolding skim
  skimming (stop a) p l h = same refl h
  skimming (fail n) p l h = same refl h
  skimming (at k) p l h = skimming (k p) p l h
  skimming (take w k) p l h =
      common-test (leb (p + w) l) 8 p h
      (by_cases (dec_le (p + w) d)
      (λ i. rw (agree-bits p w i) (skimming (k (bits_at x p w)) (p + w) l i))
      (λ i. apart
      (beyond-skim (k (bits_at x p w)) x d (p + w) l (omega arith))
      (beyond-skim (k (bits_at y p w)) y d (p + w) l (omega arith))))

  pub reading : {A : Type 0} (t : Tree A) (p l : ℕ) → p ≤ d → Common d (run t x p l) (run t y p l)
  unfolding run
  reading (done a) p l h = same refl h
  reading (refuse n) p l h = same refl h
  reading (ahead n w) p l h =
      by_cases (dec_le (p + w) d) (λ i. same refl i) (λ i. apart (side-stop n (p + w) (omega arith)) (side-stop n (p + w) (omega arith)))
  reading (here k) p l h = reading (k p) p l h
  reading (read q w k) p l h =
      common-test (leb (p + w) l) 8 p h
      (by_cases (dec_le (p + w) d)
      (λ i. rw (agree-bits p w i) (common-cons _ (reading (k (bits_at x p w)) (p + w) l i)))
      (λ i. apart
      (side-new _ (omega arith) (beyond (k (bits_at x p w)) x d (p + w) l (omega arith)))
      (side-new _ (omega arith) (beyond (k (bits_at y p w)) y d (p + w) l (omega arith)))))
  reading (span q w t) p l h =
      common-test (leb (p + w) l) 8 p h
      (by_cases (dec_le (p + w) d)
      (λ i. common-cons _ (reading t (p + w) l i))
      (λ i. apart
      (side-new _ (omega arith) (beyond t x d (p + w) l (omega arith)))
      (side-new _ (omega arith) (beyond t y d (p + w) l (omega arith)))))
  reading (scan q s k) p l h =
      common-after (skim s x p l) (skim s y p l) _ _ (skimming s p l h)
      (λ v e i. common-cons _ (reading (k v) e l i))
      (λ v e i. side-new _ (omega arith) (beyond (k v) x d e l i))
      (λ v e i. side-new _ (omega arith) (beyond (k v) y d e l i))
