-- The lowest and the highest factor of some words are those of the lowest and the highest word, as signed bytes. Once for both kinds of word.
-- Assumes nothing.
use Rattle.std.proofs.Common.{◌≡◌, ℕ, suc, ◌+◌, ◌*◌, ◌^◌, ◌<◌, ◌≤◌, min, max, Bool, true, false, cond, not, T, eqb, List, [], ◌∷◌, map, length, sym, refl, ap, ◌∙◌, subst, lt_of_lt_of_le, le_of_lt, lt_irrefl, mul-le-mul_right, mul_assoc, mul_comm, lt_of_mul-lt-mul_right, mul-lt-mul_of_pos_right, mul-pos, mul_right_comm, le_of_mul-le-mul_right, arith, leb→le, pow_pos}
use native.Mathlib.Decide.{dec_lt}
use lib.Dec.{nleb→lt, eqb-suc-zero}
use lib.ListN.{length-map}
use lib.Ieee.{binary64, prec}
use Rattle.gain.specs.declared.Extent.{Extent}
use Rattle.gain.specs.declared.Extents.{Extents}
use Rattle.gain.specs.declared.Gain.{Gain}
use Rattle.gain.specs.declared.Gains.{Gains}
use Rattle.gain.specs.declared.Kind.{Kind}
use Rattle.gain.specs.declared.Kind.TheVariants.{Dynrng, Compr}
use Rattle.gain.specs.declared.Range.{Range}
use Rattle.gain.specs.declared.Ranged.{Ranged}
use Rattle.names.specs.Names.{dynrng, compr, dynrng2, compr2}
use Rattle.gain.specs.Factor.{Ratio, to_f64, factor_of}
use Rattle.gain.specs.Parts.{named, turn, none, add_to, extent_from, extents_of, spread_of, answer_of}
use Rattle.gain.specs.Gains.{ranged_of, gains_of}
use Rattle.gain.specs.Range.{leq, lower, higher, best, pick, range_of, gain_of}
use Rattle.gain.proofs.Exact.{Dyadic, rounds}
use Rattle.gain.proofs.Named.{Bytes, bytes}
use Rattle.gain.proofs.Words.{Rule, rule, wide, places, parts, dyadic, bound, rising}

-- ---- two fractions are in the order of their parts
module _ (a b n c d m k : ℕ) (p : Dyadic a b n k) (q : Dyadic c d m k) where
  left : a * d * 2 ^ k ≡ n * (b * d)
  left = mul_right_comm a d (2 ^ k) ∙ ap (λ (z : ℕ). z * d) p.cross ∙ mul_assoc n b d

  right : c * b * 2 ^ k ≡ m * (b * d)
  right = mul_right_comm c b (2 ^ k) ∙ ap (λ (z : ℕ). z * b) q.cross ∙ mul_assoc m d b ∙ ap (λ (z : ℕ). m * z) (mul_comm d b)

  pub level : a * d ≤ c * b → n ≤ m
  level h =
      let g : n * (b * d) ≤ m * (b * d) = rw (← left, ← right) (mul-le-mul_right (2 ^ k) h) in
      le_of_mul-le-mul_right g (mul-pos p.above q.above)

  pub steep : c * b < a * d → m < n
  steep h =
      let g : m * (b * d) < n * (b * d) = rw (← left, ← right) (mul-lt-mul_of_pos_right h (pow_pos k)) in
      lt_of_mul-lt-mul_right (b * d) g

-- p is the factor of the turned word b
pub record Stands (h k : ℕ) (p : Ratio) (b : ℕ) : Type 0 where
  pub is : Dyadic p.over p.under (parts h b) k
  pub byte : b < 256

pub count : (e : Extent) (ws : List ℕ) → (extent_from e ws).words ≡ e.words + length ws
unfolding extent_from
count e [] = omega arith
count e (w ∷ ws) = count (add_to e w) ws ∙ omega arith

module _ (q : ℕ → Ratio) (h k : ℕ) (r : Rule q h k) where
  -- the law that lets the range be found on words: the order of the factors is that of the signed bytes
  pub ordered : (b c : ℕ) → b < 256 → parts h b ≤ parts h c → b ≤ c
  ordered b c l g = go (dec_lt c b)
    where
      go : Dec (c < b) → b ≤ c
      go (yes z) = absurd (lt_irrefl (parts h c) (lt_of_lt_of_le (rising q h k r c b z l) g))
      go (no z) = omega arith

  pub word : (w : ℕ) → w < 256 → Stands h k (q w) (turn w)
  word w l = record { is = dyadic q h k r w l; byte = omega arith }

  -- the factor grows with the word as a signed byte, that is, with the turned word
  pub grows : (v w : ℕ) → v < 256 → w < 256 → turn v < turn w → (q v).over * (q w).under < (q w).over * (q v).under
  grows v w a b l = go (dec_lt ((q v).over * (q w).under) ((q w).over * (q v).under))
    where
      go : Dec ((q v).over * (q w).under < (q w).over * (q v).under) → (q v).over * (q w).under < (q w).over * (q v).under
      go (yes z) = z
      go (no z) =
          let g = level _ _ _ _ _ _ k (word w b).is (word v a).is (omega arith) in
          absurd (lt_irrefl _ (lt_of_lt_of_le (rising q h k r (turn v) (turn w) l (omega arith)) g))

  module _ (p s : Ratio) (b c : ℕ) (P : Stands h k p b) (S : Stands h k s c) where
    if-true : T (leq p s) → b ≤ c
    if-true t = ordered b c P.byte (level _ _ _ _ _ _ k P.is S.is (leb→le _ _ t))

    if-false : T (not (leq p s)) → c ≤ b
    if-false t = ordered c b S.byte (le_of_lt (steep _ _ _ _ _ _ k P.is S.is (nleb→lt _ _ t)))

    pub lower-stands : Stands h k (lower p s) (min b c)
    lower-stands = go (leq p s) if-true if-false
      where
        go : (t : Bool) → (T t → b ≤ c) → (T (not t) → c ≤ b) → Stands h k (cond t p s) (min b c)
        go true x y = let e : b ≡ min b c = omega (arith, x tt) in subst (Stands h k p) e P
        go false x y = let e : c ≡ min b c = omega (arith, y tt) in subst (Stands h k s) e S

    pub higher-stands : Stands h k (higher p s) (max b c)
    higher-stands = go (leq p s) if-true if-false
      where
        go : (t : Bool) → (T t → b ≤ c) → (T (not t) → c ≤ b) → Stands h k (cond t s p) (max b c)
        go true x y = let e : c ≡ max b c = omega (arith, x tt) in subst (Stands h k s) e S
        go false x y = let e : b ≡ max b c = omega (arith, y tt) in subst (Stands h k p) e P

  -- word by word: the extent's ends are the words of the two factors so far
  pub lowest : (e : Extent) (p : Ratio) (ws : List ℕ) → Bytes ws → Stands h k p e.low → Stands h k (best lower p (map q ws)) (extent_from e ws).low
  unfolding best extent_from
  lowest e p [] B P = P
  lowest e p (w ∷ ws) B P = lowest (add_to e w) (lower p (q w)) ws B.1 (lower-stands p (q w) e.low (turn w) P (word w B.0))

  pub highest : (e : Extent) (p : Ratio) (ws : List ℕ) → Bytes ws → Stands h k p e.high → Stands h k (best higher p (map q ws)) (extent_from e ws).high
  unfolding best extent_from
  highest e p [] B P = P
  highest e p (w ∷ ws) B P = highest (add_to e w) (higher p (q w)) ws B.1 (higher-stands p (q w) e.high (turn w) P (word w B.0))

  -- the f64 of a factor is that of its word
  pub of_word : (p : Ratio) (b : ℕ) → Stands h k p b → to_f64 p ≡ to_f64 (q (turn b))
  unfolding to_f64
  of_word p b P =
      let e : turn (turn b) ≡ b = omega (arith, P.byte) in
      let D : Dyadic (q (turn b)).over (q (turn b)).under (parts h b) k =
      subst (λ (z : ℕ). Dyadic (q (turn b)).over (q (turn b)).under (parts h z) k) e (dyadic q h k r (turn b) (omega arith)) in
      let m : parts h b < 2 ^ prec binary64 = omega (arith, bound q h k r b P.byte) in
      sym (rounds binary64 _ _ (parts h b) k P.is m r.fine) ∙ rounds binary64 _ _ (parts h b) k D m r.fine

  -- with a word: the factors of the ends of the extent, and the count
  pub range : (w : ℕ) (ws : List ℕ) → Bytes (w ∷ ws) → let e = extent_from none (w ∷ ws) in
      range_of (map q (w ∷ ws)) ≡ record { low = to_f64 (q (turn e.low)); high = to_f64 (q (turn e.high)); words = e.words }
  unfolding range_of pick extent_from
  range w ws B =
      let e = add_to none w in
      let a : turn w ≡ e.low = omega arith in
      let z : turn w ≡ e.high = omega arith in
      let W = word w B.0 in
      let lo = of_word _ _ (lowest e (q w) ws B.1 (subst (Stands h k (q w)) a W)) in
      let hi = of_word _ _ (highest e (q w) ws B.1 (subst (Stands h k (q w)) z W)) in
      let n : length (map q (w ∷ ws)) ≡ (extent_from e ws).words = omega (arith, length-map ws q, count e ws) in
      cc (lo, hi, n)

-- the range record is found on the words
pub spread-is : (kind : Kind) (ws : List ℕ) → Bytes ws → spread_of kind (extent_from none ws) ≡ range_of (map (factor_of kind) ws)
unfolding range_of pick extent_from
spread-is kind [] B = refl
spread-is kind (w ∷ ws) B =
    let n : (extent_from none (w ∷ ws)).words ≡ suc (length ws) = count none (w ∷ ws) ∙ omega arith in
    let f : eqb (extent_from none (w ∷ ws)).words 0 ≡ false = rw n (eqb-suc-zero (length ws)) in
    rw f (sym (range (factor_of kind) (wide kind) (places kind) (rule kind) w ws B))

-- the answer of a range record is that of its factors
pub answered : (qs : List Ratio) → answer_of (range_of qs) ≡ gain_of qs
unfolding range_of gain_of pick
answered [] = refl
answered (q ∷ qs) = rw (eqb-suc-zero (length qs))

-- an answer and its range record, of the extent of some words
pub told_is : (kind : Kind) (ws : List ℕ) → Bytes ws → {e : Extent} {r : Ranged} → e ≡ extent_from none ws
    → r ≡ record { gain = answer_of (spread_of kind e); range = spread_of kind e } → r ≡ ranged_of kind ws
told_is kind ws B q p =
    p
    ∙ ap (λ (e : Extent). record { gain = answer_of (spread_of kind e); range = spread_of kind e }) q
    ∙ ap (λ (x : Range). record { gain = answer_of x; range = x }) (spread-is kind ws B)
    ∙ ap (λ (g : Gain). record { gain = g; range = range_of (map (factor_of kind) ws) }) (answered (map (factor_of kind) ws))

-- the four of a frame
pub gains-are : (ns vs : List ℕ) (n : ℕ) {e : Extents} {p q r s : Ranged} → e ≡ extents_of (λ k. named k ns vs 0 n)
    → p ≡ record { gain = answer_of (spread_of Dynrng e.dynrng); range = spread_of Dynrng e.dynrng }
    → q ≡ record { gain = answer_of (spread_of Compr e.compr); range = spread_of Compr e.compr }
    → r ≡ record { gain = answer_of (spread_of Dynrng e.dynrng2); range = spread_of Dynrng e.dynrng2 }
    → s ≡ record { gain = answer_of (spread_of Compr e.compr2); range = spread_of Compr e.compr2 }
    → ◌≡◌ {A = Gains} (record { dynrng = p; compr = q; dynrng2 = r; compr2 = s }) (gains_of (λ k. named k ns vs 0 n))
unfolding gains_of
gains-are ns vs n x a b c d =
    four
    (told_is Dynrng _ (bytes dynrng ns vs 0 n) (ap (λ (e : Extents). e.dynrng) x) a)
    (told_is Compr _ (bytes compr ns vs 0 n) (ap (λ (e : Extents). e.compr) x) b)
    (told_is Dynrng _ (bytes dynrng2 ns vs 0 n) (ap (λ (e : Extents). e.dynrng2) x) c)
    (told_is Compr _ (bytes compr2 ns vs 0 n) (ap (λ (e : Extents). e.compr2) x) d)
  where
    four : {p q r s p' q' r' s' : Ranged} → p ≡ p' → q ≡ q' → r ≡ r' → s ≡ s' → ◌≡◌ {A = Gains} (record { dynrng = p; compr = q; dynrng2 = r; compr2 = s }) (record { dynrng = p'; compr = q'; dynrng2 = r'; compr2 = s' })
    four a b c d = rw (a, b, c, d)
