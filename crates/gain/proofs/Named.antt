-- The words of a name, record by record, and what they span. Assumes nothing.
use Rattle.std.proofs.Common.{◌≡◌, ℕ, zero, suc, ◌+◌, ◌-◌, ◌%◌, ◌<◌, ◌≤◌, Bool, true, false, cond, ◌||◌, eqb, List, [], ◌∷◌, get_or, sym, refl, ap, ◌∙◌, subst, arith}
use Rattle.names.specs.Names.{dynrng, compr, dynrng2, compr2}
use Rattle.gain.specs.declared.Extent.{Extent}
use Rattle.gain.specs.declared.Extents.{Extents}
use Rattle.gain.specs.Parts.{named, none, add_to, extent_from, nothing_yet, gain_name, noted, extents_of}

-- every word of the list is a byte
abbrev pub Bytes : List ℕ → Type 0
Bytes [] = Unit
Bytes (w ∷ ws) = (w < 256) × Bytes ws

module _ (name : ℕ) (ns vs : List ℕ) where
  -- a record of another name has no word, and does not count
  pub no_word : (i n : ℕ) → eqb (get_or ns i 0) name ≡ false → named name ns vs i (suc n) ≡ named name ns vs (i + 1) n
  unfolding named
  no_word i n h = rw h refl

  pub bytes : (i n : ℕ) → Bytes (named name ns vs i n)
  unfolding named
  bytes i zero = tt
  bytes i (suc n) = go (eqb (get_or ns i 0) name) (bytes (i + 1) n)
    where
      go : (b : Bool) → Bytes (named name ns vs (i + 1) n) → Bytes (cond b (get_or vs i 0 % 256 ∷ named name ns vs (i + 1) n) (named name ns vs (i + 1) n))
      go true B = (omega arith, B)
      go false B = B

  through : (e : Extent) (i n : ℕ)
      → extent_from e (named name ns vs i (suc n)) ≡ extent_from (cond (eqb (get_or ns i 0) name) (add_to e (get_or vs i 0 % 256)) e) (named name ns vs (i + 1) n)
  unfolding named extent_from
  through e i n = go (eqb (get_or ns i 0) name)
    where
      go : (b : Bool) → extent_from e (cond b (get_or vs i 0 % 256 ∷ named name ns vs (i + 1) n) (named name ns vs (i + 1) n)) ≡ extent_from (cond b (add_to e (get_or vs i 0 % 256)) e) (named name ns vs (i + 1) n)
      go true = refl
      go false = refl

  -- after i of n records: the extent so far, taken through those that are left, is that of all
  pub record Going (i n : ℕ) (e : Extent) : Type 0 where
    pub few : e.words ≤ i
    pub rest : extent_from e (named name ns vs i (n - i)) ≡ extent_from none (named name ns vs 0 n)

  pub begins : (n : ℕ) → Going 0 n none
  begins n = record { few = omega arith; rest = (let k : n - 0 ≡ n = omega arith in ap (λ (z : ℕ). extent_from none (named name ns vs 0 z)) k) }

  pub goes : (i n : ℕ) (e : Extent) → i < n → Going i n e → Going (i + 1) n (cond (eqb (get_or ns i 0) name) (add_to e (get_or vs i 0 % 256)) e)
  goes i n e l G = record {
    few = fewer (eqb (get_or ns i 0) name);
    rest = (let k : n - i ≡ suc (n - (i + 1)) = omega arith in sym (through e i (n - (i + 1))) ∙ ap (λ (z : ℕ). extent_from e (named name ns vs i z)) (sym k) ∙ G.rest);
  }
    where
      fewer : (b : Bool) → (cond b (add_to e (get_or vs i 0 % 256)) e).words ≤ i + 1
      fewer true = omega (arith, G.few)
      fewer false = omega (arith, G.few)

  pub ended : (i n : ℕ) (e : Extent) → n ≤ i → Going i n e → e ≡ extent_from none (named name ns vs 0 n)
  unfolding named extent_from
  ended i n e l G =
      let k : 0 ≡ n - i = omega arith in
      ap (λ (z : ℕ). extent_from e (named name ns vs i z)) k ∙ G.rest

-- the same of the four names
pub record AllGoing (ns vs : List ℕ) (i n : ℕ) (e : Extents) : Type 0 where
  pub first_dynrng : Going dynrng ns vs i n e.dynrng
  pub first_compr : Going compr ns vs i n e.compr
  pub second_dynrng : Going dynrng2 ns vs i n e.dynrng2
  pub second_compr : Going compr2 ns vs i n e.compr2

pub all-begin : (ns vs : List ℕ) (n : ℕ) → AllGoing ns vs 0 n nothing_yet
all-begin ns vs n = record { first_dynrng = begins dynrng ns vs n; first_compr = begins compr ns vs n; second_dynrng = begins dynrng2 ns vs n; second_compr = begins compr2 ns vs n }

pub all_go : (ns vs : List ℕ) (i n : ℕ) (e : Extents) → i < n → AllGoing ns vs i n e → AllGoing ns vs (i + 1) n (noted e (get_or ns i 0) (get_or vs i 0 % 256))
all_go ns vs i n e l G = record {
  first_dynrng = goes dynrng ns vs i n e.dynrng l G.first_dynrng;
  first_compr = goes compr ns vs i n e.compr l G.first_compr;
  second_dynrng = goes dynrng2 ns vs i n e.dynrng2 l G.second_dynrng;
  second_compr = goes compr2 ns vs i n e.compr2 l G.second_compr;
}

four : {e : Extents} {p q r s : Extent} → e.dynrng ≡ p → e.compr ≡ q → e.dynrng2 ≡ r → e.compr2 ≡ s → e ≡ record { dynrng = p; compr = q; dynrng2 = r; compr2 = s }
four a b c d = rw (← a, ← b, ← c, ← d)

pub all-ended : (ns vs : List ℕ) (i n : ℕ) (e : Extents) → n ≤ i → AllGoing ns vs i n e → e ≡ extents_of (λ k. named k ns vs 0 n)
all-ended ns vs i n e l G =
    four (ended dynrng ns vs i n e.dynrng l G.first_dynrng) (ended compr ns vs i n e.compr l G.first_compr)
    (ended dynrng2 ns vs i n e.dynrng2 l G.second_dynrng) (ended compr2 ns vs i n e.compr2 l G.second_compr)

-- a record that is no gain word changes nothing
pub none-noted : (e : Extents) (name w : ℕ) → gain_name name ≡ false → e ≡ noted e name w
none-noted e name w h = go (eqb name dynrng) (eqb name compr) (eqb name dynrng2) (eqb name compr2) h
  where
    go : (p q r s : Bool) → (p || (q || (r || s))) ≡ false
        → e ≡ record { dynrng = cond p (add_to e.dynrng w) e.dynrng; compr = cond q (add_to e.compr w) e.compr; dynrng2 = cond r (add_to e.dynrng2 w) e.dynrng2; compr2 = cond s (add_to e.compr2 w) e.compr2 }
    go true q r s h = absurd (let z : ◌≡◌ {A = ℕ} 0 1 = cc in omega arith)
    go false true r s h = absurd (let z : ◌≡◌ {A = ℕ} 0 1 = cc in omega arith)
    go false false true s h = absurd (let z : ◌≡◌ {A = ℕ} 0 1 = cc in omega arith)
    go false false false true h = absurd (let z : ◌≡◌ {A = ℕ} 0 1 = cc in omega arith)
    go false false false false h = refl

-- a record that is no gain word is passed over
pub all_pass : (ns vs : List ℕ) (i n : ℕ) (e : Extents) → i < n → gain_name (get_or ns i 0) ≡ false → AllGoing ns vs i n e → AllGoing ns vs (i + 1) n e
all_pass ns vs i n e l h G = subst (AllGoing ns vs (i + 1) n) (sym (none-noted e (get_or ns i 0) (get_or vs i 0 % 256) h)) (all_go ns vs i n e l G)
