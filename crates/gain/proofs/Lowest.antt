-- What the range holds: `pick lower` is one of the factors, and no factor is below it; `pick higher` is one, and none is above it; and both are exact as f64. Assumes nothing.
use Rattle.std.proofs.Common.{◌≡◌, ℕ, zero, suc, ◌^◌, ◌<◌, ◌≤◌, Bool, true, false, cond, not, T, ◌⊎◌, List, [], ◌∷◌, map, length, get_or, refl, ◌∙◌, subst, inl, inr, ⊎_elim, suc-le-suc, zero-le, lt_trans, le_refl, le_of_suc-le-suc, not-suc-le-zero, lt_irrefl, arith}
use native.Mathlib.Decide.{dec_lt}
use lib.Dec.{nleb→lt}
use lib.Ieee.{binary64, prec, round}
use Rattle.gain.specs.declared.Extent.{Extent}
use Rattle.gain.specs.declared.Kind.{Kind}
use Rattle.gain.specs.Factor.{Ratio, Is, to_f64, factor_of}
use Rattle.gain.specs.Parts.{turn, none, add_to, extent_from}
use Rattle.gain.specs.Range.{leq, lower, higher, best, pick, range_of, Found, Holds}
use Rattle.gain.proofs.Exact.{exact}
use Rattle.gain.proofs.Named.{Bytes}
use Rattle.gain.proofs.Words.{Rule, rule, wide, places, parts, dyadic, bound, rising}
use Rattle.gain.proofs.Ordered.{Stands, steep, word, lowest, highest}

-- ---- one of them
-- f answers one of its two arguments
abbrev Picks : (Ratio → Ratio → Ratio) → Type 0
Picks f = (p s : Ratio) → (f p s ≡ p) ⊎ (f p s ≡ s)

among : (f : Ratio → Ratio → Ratio) → Picks f → (q : ℕ → Ratio) (p : Ratio) (ws : List ℕ) → (best f p (map q ws) ≡ p) ⊎ Found q ws (best f p (map q ws))
unfolding best
among f c q p [] = inl refl
among f c q p (w ∷ ws) = go (among f c q (f p (q w)) ws) (c p (q w))
  where
    r : Ratio
    r = best f (f p (q w)) (map q ws)

    go : (r ≡ f p (q w)) ⊎ Found q ws r → (f p (q w) ≡ p) ⊎ (f p (q w) ≡ q w) → (r ≡ p) ⊎ Found q (w ∷ ws) r
    go (inl e) (inl a) = inl (e ∙ a)
    go (inl e) (inr a) = inr (record { place = 0; inside = suc-le-suc zero-le; is = e ∙ a })
    go (inr g) a = inr (record { place = suc g.place; inside = suc-le-suc g.inside; is = g.is })

pub found : (f : Ratio → Ratio → Ratio) → Picks f → (q : ℕ → Ratio) (ws : List ℕ) → 0 < length ws → Found q ws (pick f (map q ws))
unfolding pick
found f c q [] h = absurd (not-suc-le-zero h)
found f c q (w ∷ ws) h =
    ⊎_elim (λ e. record { place = 0; inside = h; is = e }) (λ g. record { place = suc g.place; inside = suc-le-suc g.inside; is = g.is }) (among f c q (q w) ws)

pub lower-picks : Picks lower
lower-picks p s = go (leq p s)
  where
    go : (t : Bool) → (cond t p s ≡ p) ⊎ (cond t p s ≡ s)
    go true = inl refl
    go false = inr refl

pub higher-picks : Picks higher
higher-picks p s = go (leq p s)
  where
    go : (t : Bool) → (cond t s p ≡ p) ⊎ (cond t s p ≡ s)
    go true = inr refl
    go false = inl refl

-- ---- no other is lower or higher
low-falls : (e : Extent) (ws : List ℕ) → (extent_from e ws).low ≤ e.low
unfolding extent_from
low-falls e [] = le_refl e.low
low-falls e (w ∷ ws) = omega (arith, low-falls (add_to e w) ws)

low_below : (e : Extent) (ws : List ℕ) (i : ℕ) → i < length ws → (extent_from e ws).low ≤ turn (get_or ws i 0)
unfolding extent_from
low_below e [] i h = absurd (not-suc-le-zero h)
low_below e (w ∷ ws) zero h = omega (arith, low-falls (add_to e w) ws)
low_below e (w ∷ ws) (suc i) h = low_below (add_to e w) ws i (le_of_suc-le-suc h)

high-rises : (e : Extent) (ws : List ℕ) → e.high ≤ (extent_from e ws).high
unfolding extent_from
high-rises e [] = le_refl e.high
high-rises e (w ∷ ws) = omega (arith, high-rises (add_to e w) ws)

high-above : (e : Extent) (ws : List ℕ) (i : ℕ) → i < length ws → turn (get_or ws i 0) ≤ (extent_from e ws).high
unfolding extent_from
high-above e [] i h = absurd (not-suc-le-zero h)
high-above e (w ∷ ws) zero h = omega (arith, high-rises (add_to e w) ws)
high-above e (w ∷ ws) (suc i) h = high-above (add_to e w) ws i (le_of_suc-le-suc h)

byte_at : (ws : List ℕ) → Bytes ws → (i : ℕ) → i < length ws → get_or ws i 0 < 256
byte_at [] B i h = absurd (not-suc-le-zero h)
byte_at (w ∷ ws) B zero h = B.0
byte_at (w ∷ ws) B (suc i) h = byte_at ws B.1 i (le_of_suc-le-suc h)

module _ (q : ℕ → Ratio) (h k : ℕ) (r : Rule q h k) where
  -- the order of the turned words is that of the factors
  pub in_order : (p s : Ratio) (b c : ℕ) → Stands h k p b → Stands h k s c → b ≤ c → T (leq p s)
  in_order p s b c P S l = go (leq p s) (λ (t : T (not (leq p s))). steep _ _ _ _ _ _ k P.is S.is (nleb→lt _ _ t))
    where
      go : (t : Bool) → (T (not t) → parts h c < parts h b) → T t
      go true x = tt
      go false x = clash (dec_lt b c) (x tt)
        where
          clash : Dec (b < c) → parts h c < parts h b → ⊥
          clash (yes z) g = lt_irrefl (parts h b) (lt_trans (rising q h k r b c z S.byte) g)
          clash (no z) g = let e : b ≡ c = omega arith in lt_irrefl (parts h c) (subst (λ (x : ℕ). parts h c < parts h x) e g)

  pub none-lower : (ws : List ℕ) → Bytes ws → (i : ℕ) → i < length ws → T (leq (pick lower (map q ws)) (q (get_or ws i 0)))
  unfolding pick extent_from
  none-lower [] B i l = absurd (not-suc-le-zero l)
  none-lower (w ∷ ws) B i l =
      let e = add_to none w in
      let a : turn w ≡ e.low = omega arith in
      in_order _ _ _ _
      (lowest q h k r e (q w) ws B.1 (subst (Stands h k (q w)) a (word q h k r w B.0)))
      (word q h k r (get_or (w ∷ ws) i 0) (byte_at (w ∷ ws) B i l))
      (low_below none (w ∷ ws) i l)

  pub none-higher : (ws : List ℕ) → Bytes ws → (i : ℕ) → i < length ws → T (leq (q (get_or ws i 0)) (pick higher (map q ws)))
  unfolding pick extent_from
  none-higher [] B i l = absurd (not-suc-le-zero l)
  none-higher (w ∷ ws) B i l =
      let e = add_to none w in
      let a : turn w ≡ e.high = omega arith in
      in_order _ _ _ _
      (word q h k r (get_or (w ∷ ws) i 0) (byte_at (w ∷ ws) B i l))
      (highest q h k r e (q w) ws B.1 (subst (Stands h k (q w)) a (word q h k r w B.0)))
      (high-above none (w ∷ ws) i l)

  -- ---- and both f64 of the range record are exact
  word-exact : (w : ℕ) → w < 256 → Is (to_f64 (q w)) (q w)
  unfolding to_f64
  word-exact w l =
      let m : parts h (turn w) < 2 ^ prec binary64 = omega (arith, bound q h k r (turn w) (omega arith)) in
      exact binary64 _ _ (parts h (turn w)) k (dyadic q h k r w l) m r.fine

  pick-exact : (f : Ratio → Ratio → Ratio) → Picks f → (ws : List ℕ) → Bytes ws → Is (to_f64 (pick f (map q ws))) (pick f (map q ws))
  unfolding pick to_f64 round
  pick-exact f c [] B = (refl, refl)
  pick-exact f c (w ∷ ws) B =
      let g = found f c q (w ∷ ws) (suc-le-suc zero-le) in
      rw g.is (word-exact (get_or (w ∷ ws) g.place 0) (byte_at (w ∷ ws) B g.place g.inside))

  pub holds : (ws : List ℕ) → Bytes ws → 0 < length ws → Holds q ws
  unfolding range_of
  holds ws B l = record {
    low = found lower lower-picks q ws l;
    none_below = none-lower ws B;
    low_exact = pick-exact lower lower-picks ws B;
    high = found higher higher-picks q ws l;
    none_above = none-higher ws B;
    high_exact = pick-exact higher higher-picks ws B;
  }

-- of the words of either kind
pub kind-holds : (kind : Kind) (ws : List ℕ) → Bytes ws → 0 < length ws → Holds (factor_of kind) ws
kind-holds kind = holds (factor_of kind) (wide kind) (places kind) (rule kind)
