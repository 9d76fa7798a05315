-- Two accepted readings with equal lists and equal span bits are the same: step by step the values are equal, so the same tree goes on, and a
-- record of the one is of the same kind in the other. Assumes nothing.
use mathlib.Core.Path.{◌≡◌, refl, ap, sym, ◌∙◌}
use mathlib.Core.Bool.{Bool, true, false, not, cond}
use mathlib.Core.List.{List, [], ◌∷◌, append-nil}
use mathlib.Core.Logic.{by_cases, ◌⊎◌, inl, inr}
use Prim.Native.Nat.{ℕ, ◌+◌, ◌*◌, ◌-◌, ◌<◌}
use native.Mathlib.Omega.{arith}
use native.Mathlib.Decide.{dec_lt}
use lib.Dec.{leb, eqb, T, leb→le, nleb→lt, eqb→eq, eqb_refl}
use Rattle.bits.specs.Bits.{bits_at, SameBits}
use Rattle.bits.proofs.BitLaws.{bits_at-inj, bits_at-lt}
use Rattle.reading.specs.Tree.{Part, Skim, Tree, done, refuse, ahead, here, read, span, scan, ◌>>=◌}
use Rattle.reading.specs.Run.{Field, Entry, element, region, Result, accepted, refused, Outcome, out, cons, and_then, after, skim, run}
use Rattle.reading.specs.Frame.{TailNames, Format, seen, auxdatae_at, tail, finish, framed}
use Rattle.reading.specs.CommonReading.{list, SameSpans}
use Rattle.reading.proofs.Laws.{Ok, test, choice, skimmed}
use Rattle.reading.proofs.Runs.{after-cons, after-after}
use Rattle.reading.proofs.Lockstep.{Common, same, split, skimming}
use Rattle.reading.proofs.Heads.{clear, good_of, ok-first}
use Rattle.reading.proofs.Frames.{whole}

ruleset tests = (arith, leb→le, nleb→lt)

-- of the first record of a list
abbrev first_value : List Field → ℕ
first_value [] = 0
first_value (f ∷ fs) = f.value

abbrev first_width : List Field → ℕ
first_width [] = 0
first_width (f ∷ fs) = f.width

abbrev others : List Field → List Field
others [] = []
others (f ∷ fs) = fs

module _ (x y : List ℕ) where
  pub record Twin {A : Type 0} (o u : Outcome A) : Type 0 where
    pub equal : o ≡ u
    pub bits : SameBits x y 0 o.place

  -- two accepted outcomes with equal lists and equal span bits are the same
  abbrev pub Twins : {A : Type 0} → Outcome A → Outcome A → Type 0
  Twins o u = list o ≡ list u → Ok o.result → Ok u.result → SameSpans x y o → Twin o u

  joined : (p q : ℕ) → SameBits x y 0 p → SameBits x y p q → SameBits x y 0 q
  joined p q h k i a b = by_cases (dec_lt i p) (λ l. h i a l) (λ l. k i (omega arith) b)

  twin-element : {A : Type 0} (q : Part) (p w v z : ℕ) (o u : Outcome A) → (v ≡ z → Twins o u) → Twins (cons (element q p w v) o) (cons (element q p w z) u)
  twin-element q p w v z o u h e k j s =
      let g : v ≡ z = ap first_value e in
      let t = h g (ap others e) k j s.1 in
      record { equal = rw (g, t.equal) refl; bits = t.bits }

  twin-region : {A : Type 0} (q : Part) (p w : ℕ) (o u : Outcome A) → (SameBits x y p (p + w) → Twins o u) → Twins (cons (region q p w) o) (cons (region q p w) u)
  twin-region q p w o u h e k j s =
      let t = h (s.0 refl) (ap others e) k j s.1 in
      record { equal = rw t.equal refl; bits = t.bits }

  twin-test : {A B : Type 0} (c : Bool) (p : ℕ) (e i : Entry) (o u : Outcome A) (f g : A → ℕ → Outcome B) → Twins (cons e (after o f)) (cons i (after u g))
      → Twins (after (cond c (cons e o) (out (refused 8) p [])) f) (after (cond c (cons i u) (out (refused 8) p [])) g)
  unfolding after
  twin-test true p e i o u f g h = rw (← after-cons e o f (after o f) refl, ← after-cons i u g (after u g) refl) h
  twin-test false p e i o u f g h = λ l k. absurd k

  twin-skim : {B : Type 0} (s : Skim (List ℕ)) (q : Part) (p l : ℕ) (f g : List ℕ → ℕ → Outcome B) → SameBits x y 0 p
      → ((v : List ℕ) (e : ℕ) → SameBits x y 0 e → Twins (f v e) (g v e))
      → Twins (after (skim s x p l) (λ v e. cons (region q p (e - p)) (f v e))) (after (skim s y p l) (λ v e. cons (region q p (e - p)) (g v e)))
  unfolding after
  twin-skim {B} s q p l f g h k = rw ((skimmed s x p l).bare, (skimmed s y p l).bare) (go O.result U.result refl refl)
    where
      O : Outcome (List ℕ)
      O = skim s x p l

      U : Outcome (List ℕ)
      U = skim s y p l

      go : (r t : Result (List ℕ)) → O.result ≡ r → U.result ≡ t
          → Twins (and_then r O.place [] (λ v e. cons (region q p (e - p)) (f v e))) (and_then t U.place [] (λ v e. cons (region q p (e - p)) (g v e)))
      go (refused m) t eo eu e i j n = absurd i
      go (accepted v) (refused m) eo eu e i j n = absurd j
      go (accepted v) (accepted z) eo eu e i j n = meet (skimming x y O.place all s p l (skimmed s x p l).ahead)
        where
          ends : O.place ≡ U.place
          ends = omega (arith, (skimmed s x p l).ahead, (skimmed s y p l).ahead, ap first_width e)

          all : SameBits x y 0 O.place
          all = joined p O.place h (λ a b c. n.0 refl a b (omega (arith, (skimmed s x p l).ahead)))

          meet : Common O.place O U → Twin (cons (region q p (O.place - p)) (f v O.place)) (cons (region q p (U.place - p)) (g z U.place))
          meet (same d m) =
              let w : v ≡ z = cc in
              let b : Twins (f v O.place) (g z U.place) = rw (← w, ← ends) (k v O.place all) in
              let t = b (ap others e) i j n.1 in
              record {
                equal = ap (cons (region q p (O.place - p))) t.equal ∙ ap (λ m. cons (region q p (m - p)) (g z U.place)) ends;
                bits = t.bits;
              }
          meet (split t) = absurd (let z : ⊥ = omega (arith, t.1.stands) in z)

  pub same_after : {A B : Type 0} (t : Tree A) (p l : ℕ) (f g : A → ℕ → Outcome B) → SameBits x y 0 p
      → ((a : A) (q : ℕ) → SameBits x y 0 q → Twins (f a q) (g a q)) → Twins (after (run t x p l) f) (after (run t y p l) g)
  unfolding run after
  same_after (done a) p l f g s k = k a p s
  same_after (refuse n) p l f g s k = λ e i. absurd i
  same_after (ahead n w) p l f g s k = λ e i. absurd i
  same_after (here h) p l f g s k = same_after (h p) p l f g s k
  same_after (read q w h) p l f g s k =
      twin-test (leb (p + w) l) p _ _ _ _ f g
      (twin-element q p w (bits_at x p w) (bits_at y p w) _ _
      (λ v. rw (← v) (same_after (h (bits_at x p w)) (p + w) l f g (joined p (p + w) s (bits_at-inj x y p w v)) k)))
  same_after (span q w t) p l f g s k =
      twin-test (leb (p + w) l) p _ _ _ _ f g (twin-region q p w _ _ (λ b. same_after t (p + w) l f g (joined p (p + w) s b) k))
  same_after {A} {B} (scan q n h) p l f g s k =
      rw (← via x f, ← via y g) (twin-skim n q p l _ _ s (λ v e b. same_after (h v) e l f g b k))
    where
      via : (b : List ℕ) (f : A → ℕ → Outcome B)
          → after (skim n b p l) (λ v e. cons (region q p (e - p)) (after (run (h v) b e l) f))
          ≡ after (after (skim n b p l) (λ v e. cons (region q p (e - p)) (run (h v) b e l))) f
      via b f = after-after (skim n b p l) _ f _ (λ v e. after-cons _ (run (h v) b e l) f _ refl)

after-done : {A : Type 0} (o : Outcome A) → after o (λ a p. out (accepted a) p []) ≡ o
unfolding after
after-done {A} o = go o.result
  where
    go : (r : Result A) → and_then r o.place o.records (λ a p. out (accepted a) p []) ≡ out r o.place o.records
    go (accepted a) = ap (out (accepted a) o.place) (append-nil o.records)
    go (refused n) = refl

-- an accepted tail tells the bit that it looked at by the width of auxbits
abbrev Seen : {A : Type 0} → ℕ → ℕ → ℕ → Outcome A → Type 0
Seen v p l o =
    Ok o.result → (T (eqb v 1) × (p + first_width (list o) + 32 ≡ l)) ⊎ (T (not (eqb v 1)) × (p + first_width (list o) + 18 ≡ l))

tail-seen : {A : Type 0} (names : TailNames) (b : List ℕ) (v : ℕ) (a : A) (p l : ℕ) → Seen v p l (run (tail names v l a) b p l)
unfolding tail run
tail-seen {A} names b v a p l =
    choice G (leb (p + 18) l)
    (λ h. choice G (eqb v 1)
    (λ i. choice G (leb (p + 32) l)
    (λ j. test S (leb (p + (l - 32 - p)) l) (λ _ k. inl (i, omega tests)) (λ _. absurd))
    (λ j. absurd))
    (λ i. test S (leb (p + (auxdatae_at l - p)) l) (λ _ k. inr (i, omega tests)) (λ _. absurd)))
    (λ h. absurd)
  where
    S : Outcome A → Type 0
    S = Seen v p l

    G : Tree A → Type 0
    G t = S (run t b p l)

T_not : (c : Bool) → T c → T (not c) → ⊥
T_not true a b = b
T_not false a b = a

-- two bits that were seen alike are equal
seen_same : (u v p l w : ℕ) → u < 2 → v < 2
    → (T (eqb u 1) × (p + w + 32 ≡ l)) ⊎ (T (not (eqb u 1)) × (p + w + 18 ≡ l))
    → (T (eqb v 1) × (p + w + 32 ≡ l)) ⊎ (T (not (eqb v 1)) × (p + w + 18 ≡ l)) → u ≡ v
seen_same u v p l w h k (inl a) (inl b) = eqb→eq u 1 a.0 ∙ sym (eqb→eq v 1 b.0)
seen_same u v p l w h k (inl a) (inr b) = absurd (let z : ⊥ = omega arith in z)
seen_same u v p l w h k (inr a) (inl b) = absurd (let z : ⊥ = omega arith in z)
seen_same u v p l w h k (inr a) (inr b) =
    let i : ¬ (u ≡ 1) = λ e. T_not (eqb u 1) (rw e (eqb_refl 1)) a.0 in
    let j : ¬ (v ≡ 1) = λ e. T_not (eqb v 1) (rw e (eqb_refl 1)) b.0 in
    omega arith

module _ (x y : List ℕ) where
  finish-twin : {A : Type 0} (names : TailNames) (l : ℕ) (a : A) (p : ℕ) → SameBits x y 0 p → Twins x y (finish names x l a p) (finish names y l a p)
  unfolding finish
  finish-twin {A} names l a p s e i j =
      go (seen_same _ _ p l _ (bits_at-lt x (auxdatae_at l) 1) (bits_at-lt y (auxdatae_at l) 1) (tail-seen names x _ a p l i) (rw (← ap first_width e) at (tail-seen names y _ a p l j))) e i j
    where
      tree : ℕ → Tree A
      tree v = tail names v l a

      alike : (v : ℕ) → Twins x y (run (tree v) x p l) (run (tree v) y p l)
      alike v =
          rw (← after-done (run (tree v) x p l), ← after-done (run (tree v) y p l))
          (same_after x y (tree v) p l _ _ s (λ a q b e i j n. record { equal = refl; bits = b }))

      go : {u v : ℕ} → u ≡ v → Twins x y (run (tree u) x p l) (run (tree v) y p l)
      go {u} e = rw (← e) (alike u)

  -- two accepted readings have the same header: what both have seen ahead is good
  pub whole-twin : {H A : Type 0} (F : Format H A) → Twins x y (whole F x) (whole F y)
  unfolding framed
  whole-twin F e i j s =
      go (clear F (seen F x) (good_of F x (seen F x) (ok-first _ _ i))) (clear F (seen F y) (good_of F y (seen F y) (ok-first _ _ j)))
      (same_after x y (F.opening >>= F.rest) 0 48 _ _ (λ i a b. absurd (let z : ⊥ = omega arith in z))
      (λ h p s. same_after x y (F.body h) p (8 * F.bytes h) _ _ s (finish-twin F.names (8 * F.bytes h)))) e i j s
    where
      go : {t r q : Tree _} → t ≡ q → r ≡ q → Twins x y (after (run q x 0 48) (framed F x)) (after (run q y 0 48) (framed F y))
          → Twins x y (after (run t x 0 48) (framed F x)) (after (run r y 0 48) (framed F y))
      go e f h = rw (e, f) h
