-- A run that is accepted, and the run of the same tree on a buffer that differs only in records with names that the tree does not look at: the same, with each
-- value read again. Assumes nothing.
use mathlib.Core.Path.{◌≡◌, refl, ap, ap₂, sym, ◌∙◌, subst}
use mathlib.Core.Bool.{Bool, true, false, cond}
use mathlib.Core.List.{List, [], ◌∷◌, ◌++◌, map, map-append}
use Prim.Native.Nat.{ℕ, ◌+◌, ◌-◌}
use native.Mathlib.Omega.{arith}
use lib.Dec.{leb}
use Rattle.bits.specs.Bits.{bits_at, SameBits}
use Rattle.bits.proofs.BitLaws.{bits_at-cong}
use Rattle.reading.specs.Tree.{Part, Skim, stop, fail, at, take, Tree, done, refuse, ahead, here, read, span, scan}
use Rattle.reading.specs.Run.{Entry, end, element, region, Result, accepted, refused, Outcome, out, cons, prefix, and_then, after, skim, run}
use Rattle.reading.specs.Records.{All}
use Rattle.reading.proofs.Laws.{Ok, skimmed}
use Rattle.steers.specs.Blind.{Blind}
use Rattle.steers.specs.Steering.{reread}

all-parts : (P : Entry → Type 0) (es fs : List Entry) → All P (es ++ fs) → All P es × All P fs
all-parts P [] fs h = (tt, h)
all-parts P (e ∷ es) fs h = let k = all-parts P es fs h.1 in ((h.0, k.0), k.1)

module _ (N : ℕ → Bool) (x y : List ℕ) where
  -- each record with another name has the same bits in both
  abbrev pub Spared : List Entry → Type 0
  Spared es = All (λ e. N e.field.name ≡ false → SameBits x y e.field.first (end e.field)) es

  -- each value is read again
  abbrev pub reread-all : {A : Type 0} → Outcome A → Outcome A
  reread-all o = out o.result o.place (map (reread y) o.records)

  -- where the one is accepted and spared, the other is the same, read again
  pub record Follows {A : Type 0} (o u : Outcome A) : Type 0 where
    pub follows : Ok o.result → Spared o.records → u ≡ reread-all o

  pub follows_test : {A : Type 0} {o u : Outcome A} (c : Bool) (n p : ℕ) → Follows o u → Follows (cond c o (out (refused n) p [])) (cond c u (out (refused n) p []))
  follows_test true n p h = h
  follows_test false n p h = record { follows = λ k. absurd k }

  follows-cons : {A : Type 0} {o u : Outcome A} (e i : Entry) → i ≡ reread y e → Follows o u → Follows (cons e o) (cons i u)
  follows-cons e i q h = record { follows = λ k s. ap₂ cons q (h.follows k s.1) }

  pub follows-after : {A B : Type 0} (o u : Outcome A) (f g : A → ℕ → Outcome B) → Follows o u → ((a : A) (p : ℕ) → Follows (f a p) (g a p)) → Follows (after o f) (after u g)
  unfolding after
  follows-after {A} {B} o u f g h k = record { follows = go o.result refl }
    where
      go : (r : Result A) → o.result ≡ r → Ok (and_then r o.place o.records f).result → Spared (and_then r o.place o.records f).records
          → and_then u.result u.place u.records g ≡ reread-all (and_then r o.place o.records f)
      go (refused n) e i s = absurd i
      go (accepted a) e i s =
          let parts = all-parts _ o.records (f a o.place).records s in
          let same : u ≡ reread-all o = h.follows (subst Ok (sym e) tt) parts.0 in
          let more : g a o.place ≡ reread-all (f a o.place) = (k a o.place).follows i parts.1 in
          ap (λ (v : Outcome A). and_then v.result v.place v.records g) same
          ∙ ap (λ r. and_then r o.place (map (reread y) o.records) g) e
          ∙ ap (prefix (map (reread y) o.records)) more
          ∙ ap (out (f a o.place).result (f a o.place).place) (sym (map-append (reread y) o.records (f a o.place).records))

  -- inside a span: the same bits, the same walk
  skim-same : {A : Type 0} (n : Skim A) (p l : ℕ) → SameBits x y p (skim n x p l).place → skim n y p l ≡ skim n x p l
  unfolding skim
  skim-same (stop a) p l b = refl
  skim-same (fail n) p l b = refl
  skim-same (at k) p l b = skim-same (k p) p l b
  skim-same {A} (take w k) p l b = go (leb (p + w) l) b (skim-same (k (bits_at x p w)) (p + w) l)
    where
      go : (c : Bool) → SameBits x y p (cond c (skim (k (bits_at x p w)) x (p + w) l) (out (refused 8) p [])).place
          → (SameBits x y (p + w) (skim (k (bits_at x p w)) x (p + w) l).place → skim (k (bits_at x p w)) y (p + w) l ≡ skim (k (bits_at x p w)) x (p + w) l)
          → cond c (skim (k (bits_at y p w)) y (p + w) l) (out (refused 8) p []) ≡ cond c (skim (k (bits_at x p w)) x (p + w) l) (out (refused 8) p [])
      go true b ih =
          let far = (skimmed (k (bits_at x p w)) x (p + w) l).ahead in
          let v : bits_at y p w ≡ bits_at x p w = sym (bits_at-cong x y p w (λ i a c. b i a (omega arith))) in
          ap (λ v. skim (k v) y (p + w) l) v ∙ ih (λ i a c. b i (omega arith) c)
      go false b ih = refl

  -- a span that is walked inside
  follows-scan : {B : Type 0} (n : Skim (List ℕ)) (q : Part) (p l : ℕ) (f g : List ℕ → ℕ → Outcome B) → N q.name ≡ false
      → ((v : List ℕ) (e : ℕ) → Follows (f v e) (g v e))
      → Follows (after (skim n x p l) (λ v e. cons (region q p (e - p)) (f v e))) (after (skim n y p l) (λ v e. cons (region q p (e - p)) (g v e)))
  unfolding after
  follows-scan {B} n q p l f g b h = record { follows = λ i s. ap (λ u. after u G) (skim-same n p l (inside O.result refl i s)) ∙ walked.follows i s }
    where
      O : Outcome (List ℕ)
      O = skim n x p l

      F : List ℕ → ℕ → Outcome B
      F v e = cons (region q p (e - p)) (f v e)

      G : List ℕ → ℕ → Outcome B
      G v e = cons (region q p (e - p)) (g v e)

      alone : Follows O O
      alone = record { follows = λ i s. let e = (skimmed n x p l).bare in ap (out O.result O.place) (e ∙ sym (ap (map (reread y)) e)) }

      walked : Follows (after O F) (after O G)
      walked = follows-after O O F G alone (λ v e. follows-cons _ _ refl (h v e))

      inside : (r : Result (List ℕ)) → O.result ≡ r → Ok (and_then r O.place O.records F).result → Spared (and_then r O.place O.records F).records
          → SameBits x y p O.place
      inside (refused m) e i s = absurd i
      inside (accepted v) e i s =
          let far = (skimmed n x p l).ahead in
          λ j a c. (all-parts _ O.records (F v O.place).records s).1.0 b j a (omega arith)

  follows-read : {A : Type 0} (q : Part) (w : ℕ) (k : ℕ → Tree A) (p l : ℕ) → (N q.name ≡ true → (u v : ℕ) → k u ≡ k v)
      → Follows (run (k (bits_at x p w)) x (p + w) l) (run (k (bits_at x p w)) y (p + w) l)
      → Follows (cons (element q p w (bits_at x p w)) (run (k (bits_at x p w)) x (p + w) l)) (cons (element q p w (bits_at y p w)) (run (k (bits_at y p w)) y (p + w) l))
  follows-read {A} q w k p l b h = record {
    follows = λ i s.
        ap (λ t. cons (element q p w (bits_at y p w)) (run t y (p + w) l)) (same (N q.name) refl s.0)
        ∙ ap (cons (element q p w (bits_at y p w))) (h.follows i s.1);
  }
    where
      same : (r : Bool) → N q.name ≡ r → (N q.name ≡ false → SameBits x y p (p + w)) → k (bits_at y p w) ≡ k (bits_at x p w)
      same true e s = b e (bits_at y p w) (bits_at x p w)
      same false e s = ap k (sym (bits_at-cong x y p w (s e)))

  pub run-follows : {A : Type 0} (t : Tree A) → Blind N t → (p l : ℕ) → Follows (run t x p l) (run t y p l)
  unfolding run
  run-follows (done a) b p l = record { follows = λ k s. refl }
  run-follows (refuse n) b p l = record { follows = λ k. absurd k }
  run-follows (ahead n w) b p l = record { follows = λ k. absurd k }
  run-follows (here h) b p l = run-follows (h p) (b p) p l
  run-follows (read q w h) b p l = follows_test (leb (p + w) l) 8 p (follows-read q w h p l b.0 (run-follows (h (bits_at x p w)) (b.1 (bits_at x p w)) (p + w) l))
  run-follows (span q w t) b p l = follows_test (leb (p + w) l) 8 p (follows-cons _ _ refl (run-follows t b.1 (p + w) l))
  run-follows (scan q n h) b p l = follows-scan n q p l _ _ b.0 (λ v e. run-follows (h v) (b.1 v) e l)
