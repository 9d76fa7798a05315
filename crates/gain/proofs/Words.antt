-- The rules of the two kinds of word, each one computed test over all 256 words, and what follows from them once for both.
-- Assumes nothing.
use Rattle.std.proofs.Common.{◌≡◌, ℕ, zero, suc, ◌+◌, ◌*◌, ◌/◌, ◌%◌, ◌^◌, ◌<◌, ◌≤◌, Bool, false, T, eqb, ltb, ℤ, pos, negsuc, sym, ap, ◌∙◌, subst, lt_trans, not-suc-le-zero, mod-eq_of_lt, add-one, arith, eqb→eq, ltb→lt, leb→le}
use native.Mathlib.Decide.{dec_lt}
use lib.Ieee.{Float, fin, binary64, minus, prec, low, div, of_int}
use lib.Ieee.Exact.{HasValue}
use Rattle.gain.specs.declared.Kind.{Kind}
use Rattle.gain.specs.declared.Kind.TheVariants.{Dynrng, Compr}
use Rattle.gain.specs.Factor.{Ratio, signed, dynrng_factor, compr_factor, factor_of, to_f64, Exactly}
use Rattle.gain.specs.Parts.{turn}
use Rattle.gain.proofs.Exact.{Dyadic, quotient, rounds, exact}
use Rattle.gain.proofs.Below.{every, at}

-- ---- the turned word is the signed byte plus 128
alike : ℤ → ℤ → Bool
alike (pos m) (pos n) = eqb m n
alike (pos m) (negsuc n) = false
alike (negsuc m) (pos n) = false
alike (negsuc m) (negsuc n) = eqb m n

alike→eq : (x y : ℤ) → T (alike x y) → x ≡ y
unfolding alike
alike→eq (pos m) (pos n) t = ap pos (eqb→eq m n t)
alike→eq (pos m) (negsuc n) t = absurd t
alike→eq (negsuc m) (pos n) t = absurd t
alike→eq (negsuc m) (negsuc n) t = ap negsuc (eqb→eq m n t)

pub signed-byte : (w : ℕ) → w < 256 → signed 8 w ≡ minus (turn w) 128
unfolding alike
signed-byte w l = alike→eq _ _ (at (λ w. alike (signed 8 w) (minus (turn w) 128)) 256 tt w l)

-- ---- the rules
-- the factor of the turned word b, in parts of 2 ^ k, where Y is below h
abbrev pub parts : ℕ → ℕ → ℕ
parts h b = (h + b % h) * 2 ^ (b / h)

-- q is right at h and k: each a computed test over all words, or over all turned words
abbrev agrees : (ℕ → Ratio) → ℕ → ℕ → ℕ → Bool
agrees q h k w = eqb ((q w).over * 2 ^ k) (parts h (turn w) * (q w).under)

abbrev sound : (ℕ → Ratio) → ℕ → Bool
sound q w = ltb 0 (q w).under

abbrev grows : ℕ → ℕ → Bool
grows h b = ltb (parts h b) (parts h (b + 1))

abbrev short : ℕ → ℕ → Bool
short h b = ltb (parts h b) (2 ^ 32)

pub record Rule (q : ℕ → Ratio) (h k : ℕ) : Type 0 where
  pub same : T (every (agrees q h k) 256)
  pub above : T (every (sound q) 256)
  pub rises : T (every (grows h) 255)
  pub small : T (every (short h) 256)
  pub fine : k ≤ low binary64

pub dynrng-rule : Rule dynrng_factor 32 9
unfolding dynrng_factor
dynrng-rule = record { same = tt; above = tt; rises = tt; small = tt; fine = leb→le 9 (low binary64) tt }

pub compr-rule : Rule compr_factor 16 12
unfolding compr_factor
compr-rule = record { same = tt; above = tt; rises = tt; small = tt; fine = leb→le 12 (low binary64) tt }

-- h and k of a kind
abbrev pub wide : Kind → ℕ
wide Dynrng = 32
wide Compr = 16

abbrev pub places : Kind → ℕ
places Dynrng = 9
places Compr = 12

pub rule : (kind : Kind) → Rule (factor_of kind) (wide kind) (places kind)
unfolding factor_of
rule Dynrng = dynrng-rule
rule Compr = compr-rule

module _ (q : ℕ → Ratio) (h k : ℕ) (r : Rule q h k) where
  pub dyadic : (w : ℕ) → w < 256 → Dyadic (q w).over (q w).under (parts h (turn w)) k
  dyadic w l =
      record { cross = eqb→eq _ _ (at (agrees q h k) 256 r.same w l); above = ltb→lt 0 _ (at (sound q) 256 r.above w l) }

  pub bound : (b : ℕ) → b < 256 → parts h b < 2 ^ 32
  bound b l = ltb→lt _ _ (at (short h) 256 r.small b l)

  -- of two turned words the higher has the higher factor
  pub rising : (b c : ℕ) → b < c → c < 256 → parts h b < parts h c
  rising b zero l m = absurd (not-suc-le-zero l)
  rising b (suc c) l m = go (dec_lt b c) (λ (z : b < c). rising b c z (omega arith))
    where
      step : parts h c < parts h (suc c)
      step =
          let g : parts h c < parts h (c + 1) = ltb→lt _ _ (at (grows h) 255 r.rises c (omega arith)) in
          rw add-one at g

      go : Dec (b < c) → (b < c → parts h b < parts h c) → parts h b < parts h (suc c)
      go (yes z) below = lt_trans (below z) step
      go (no z) below = let e : c ≡ b = omega arith in subst (λ (x : ℕ). parts h x < parts h (suc c)) e step

  -- what the code computes of the turned word is the word's factor, exactly
  pub factor : (w b : ℕ) → w < 256 → b ≡ turn w → Exactly (div binary64 (of_int binary64 (pos (parts h b % 2 ^ 32))) (fin false 1 (pos k))) (q w)
  unfolding to_f64
  factor w b l e =
      let n = parts h (turn w) in
      let i = dyadic w l in
      let s : n < 2 ^ 32 = bound (turn w) (omega arith) in
      let m : n < 2 ^ prec binary64 = omega arith in
      let o : div binary64 (of_int binary64 (pos (parts h b % 2 ^ 32))) (fin false 1 (pos k)) ≡ to_f64 (q w) =
      ap (λ (x : ℕ). div binary64 (of_int binary64 (pos (parts h x % 2 ^ 32))) (fin false 1 (pos k))) e
      ∙ ap (λ (x : ℕ). div binary64 (of_int binary64 (pos x)) (fin false 1 (pos k))) (mod-eq_of_lt s)
      ∙ quotient binary64 n k m
      ∙ rounds binary64 _ _ n k i m r.fine in
      record { nearest = o; value = subst (λ (x : Float). HasValue x false (q w).over (q w).under) (sym o) (exact binary64 _ _ n k i m r.fine) }
