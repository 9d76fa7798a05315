-- Laws of the adaptive hybrid transform, step by step as the code goes. Assumes nothing.
use mathlib.Core.Path.{◌≡◌, refl, sym, ◌∙◌}
use mathlib.Core.Bool.{Bool, true, false, cond}
use mathlib.Core.List.{List, [], ◌∷◌, ◌++◌, append_assoc}
use Prim.Native.Nat.{ℕ, suc, ◌+◌, ◌-◌, ◌*◌, ◌/◌, ◌%◌, ◌^◌, ◌≤◌, ◌<◌}
use native.Mathlib.Omega.{arith}
use native.Mathlib.Decide.{ℕ_discrete, dec_lt}
use native.Mathlib.Nat.{one-mul}
use mir.Val.{bool_byte}
use lib.Dec.{eqb, ltb}
use lib.ListN.{length, get_or, set, replicate, length-set, length-append, get_or-replicate, get_or-append, get_or-eq_default}
use lib.Pow.{shl_exact}
use lib.Seq.{get_or-set_same, get_or-set_other, get_or_at}
use borrow.Author.Tests.{eq-eqb, ne_eqb, lt-ltb, le-ltb}
use Rattle.std.specs.Prelude.{Result, Ok, Err}
use Rattle.reading.specs.Tree.{Skim, stop, fail, take, ◌>>-◌}
use Rattle.reading.specs.Run.{accepted, refused, Outcome, out, skim}
use Rattle.bits.specs.declared.BitPlace.{BitPlace}
use Rattle.refusals.specs.declared.Refused.{Refused}
use Rattle.skim.specs.declared.Seen.{Seen}
use Rattle.hybrid.specs.declared.Tags.{Tags}
use Rattle.tables.specs.Small.{vq_bits, gaq_bits}
use Rattle.slots.specs.Slots.{pointer}
use Rattle.hybrid.specs.Hybrid.{active_of, active_in, singles_of, triples_of, gains_of, small_of, large_of, premantissa_of, premantissas_of, bin_of, gain_of, next_active, bins_of, aht_of}
use Rattle.skim.specs.Outcomes.{refused_at, look_of}
use Rattle.hybrid.specs.Outcomes.{tags_outcome, Gained, Held, GainsOutcome}
use Rattle.skim.proofs.SkimLaws.{skim-stop, skim-fail, look-past, look-on, bind-on, bind-off}

-- a read that ends the skim: what stands after it
last_on : (s : List ℕ) (p w l : ℕ) (k : ℕ → Skim ℕ) (x : Seen) (a : ℕ) → Ok x ≡ look_of s p w l → k x.value ≡ stop a → out (accepted a) x.next.0 [] ≡ skim (take w k) s p l
last_on s p w l k x a f g = sym (look-on s p w l k x f ∙ rw g (skim-stop s x.next.0 l a))

-- a pre-mantissa
next : ℕ → ℕ → ℕ → ℕ → Skim ℕ
next m gain b v = cond (eqb v (2 ^ (b - 1))) (take (large_of m gain) (λ _. stop 1)) (stop 0)

module _ (s : List ℕ) (p l m gain : ℕ) where
  module _ (h : gain ≡ 1) where
    pub plain-past : (e : Refused) → Err e ≡ look_of s p m l → refused_at e ≡ skim (premantissa_of m gain) s p l
    unfolding premantissa_of
    plain-past e f = rw (eq-eqb gain 1 h) (look-past s p m l _ e f)

    pub plain-on : (x : Seen) → Ok x ≡ look_of s p m l → out (accepted 0) x.next.0 [] ≡ skim (premantissa_of m gain) s p l
    unfolding premantissa_of
    plain-on x f = rw (eq-eqb gain 1 h) (last_on s p m l _ x 0 f refl)

  module _ (h : gain ≡ 1 → ⊥) (b : ℕ) (c : b ≡ small_of m gain) where
    opened : skim (premantissa_of m gain) s p l ≡ skim (take b (next m gain b)) s p l
    unfolding premantissa_of next
    opened = rw (ne_eqb gain 1 h, c)

    pub small-past : (e : Refused) → Err e ≡ look_of s p b l → refused_at e ≡ skim (premantissa_of m gain) s p l
    small-past e f = look-past s p b l (next m gain b) e f ∙ sym opened

    module _ (x : Seen) (f : Ok x ≡ look_of s p b l) (t : ℕ) (i : t ≡ 2 ^ (b - 1)) where
      pub small-on : (x.value ≡ t → ⊥) → out (accepted 0) x.next.0 [] ≡ skim (premantissa_of m gain) s p l
      unfolding next
      small-on n = last_on s p b l (next m gain b) x 0 f (rw (← i, ne_eqb x.value t n)) ∙ sym opened

      module _ (n : x.value ≡ t) (g : ℕ) (d : g ≡ large_of m gain) where
        tagged : skim (premantissa_of m gain) s p l ≡ skim (take g (λ _. stop 1)) s x.next.0 l
        unfolding next
        tagged = opened ∙ look-on s p b l (next m gain b) x f ∙ rw (← i, eq-eqb x.value t n, d)

        pub large-past : (e : Refused) → Err e ≡ look_of s x.next.0 g l → refused_at e ≡ skim (premantissa_of m gain) s p l
        large-past e k = look-past s x.next.0 g l _ e k ∙ sym tagged

        pub large-on : (y : Seen) → Ok y ≡ look_of s x.next.0 g l → out (accepted 1) y.next.0 [] ≡ skim (premantissa_of m gain) s p l
        large-on y k = last_on s x.next.0 g l _ y 1 k refl ∙ sym tagged

-- six of them, i of them read
module _ (s : List ℕ) (l m gain n i tags p : ℕ) where
  pub pres-end : n ≤ i → out (accepted tags) p [] ≡ skim (premantissas_of m gain (n - i) tags) s p l
  unfolding premantissas_of
  pres-end h = let e : n - i ≡ 0 = omega arith in rw e (sym (skim-stop s p l tags))

  module _ (h : i < n) where
    again : skim (premantissas_of m gain (n - i) tags) s p l ≡ skim (premantissa_of m gain >>- (λ t. premantissas_of m gain (n - (i + 1)) (tags + t))) s p l
    unfolding premantissas_of
    again = let e : n - i ≡ suc (n - (i + 1)) = omega arith in rw e

    pub pres-off : (e : Refused) → refused_at e ≡ skim (premantissa_of m gain) s p l → refused_at e ≡ skim (premantissas_of m gain (n - i) tags) s p l
    pres-off e f = sym (again ∙ bind-off _ s l (premantissa_of m gain) p _ _ f)

    pub pres-on : (t : Tags) → tags_outcome (Ok t) ≡ skim (premantissa_of m gain) s p l
        → skim (premantissas_of m gain (n - i) tags) s p l ≡ skim (premantissas_of m gain (n - (i + 1)) (tags + t.tags)) s t.place.0 l
    pres-on t f = again ∙ bind-on _ s l (premantissa_of m gain) p _ _ f

-- a bin
module _ (s : List ℕ) (p l hebap gain : ℕ) where
  module _ (h : hebap < 8) (w : ℕ) (c : w ≡ get_or vq_bits hebap 0) where
    pub vector-past : (e : Refused) → Err e ≡ look_of s p w l → refused_at e ≡ skim (bin_of hebap gain) s p l
    unfolding bin_of
    vector-past e f = look-past s p w l (λ _. stop 0) e f ∙ rw (lt-ltb hebap 8 h, c)

    pub vector_on : (x : Seen) → Ok x ≡ look_of s p w l → out (accepted 0) x.next.0 [] ≡ skim (bin_of hebap gain) s p l
    unfolding bin_of
    vector_on x f = last_on s p w l (λ _. stop 0) x 0 f refl ∙ rw (lt-ltb hebap 8 h, c)

  pub scalar : 8 ≤ hebap → (m : ℕ) → m ≡ get_or gaq_bits (hebap - 8) 0 → (o : Outcome ℕ) → o ≡ skim (premantissas_of m gain 6 0) s p l → o ≡ skim (bin_of hebap gain) s p l
  unfolding bin_of
  scalar h m c o e = e ∙ rw (le-ltb hebap 8 h, c)

-- the gains that are stored: none yet, and one more
pub gained-none : Gained (replicate 258 1) []
gained-none k h = get_or-replicate 258 k 1 0 h

get_d_push : (gains : List ℕ) (g i k : ℕ) → length gains ≡ i → (k ≡ i → ⊥) → get_or gains k 1 ≡ get_or (gains ++ (g ∷ [])) k 1
get_d_push gains g i k b q = go (dec_lt k i)
  where
    go : Dec (k < i) → get_or gains k 1 ≡ get_or (gains ++ (g ∷ [])) k 1
    go (yes h) = sym (get_or-append gains (g ∷ []) 1 k (omega (arith, b)))
    go (no h) =
        get_or-eq_default gains 1 (omega (arith, b))
        ∙ sym (get_or-eq_default (gains ++ (g ∷ [])) 1 (let e = length-append gains (g ∷ []) in omega (arith, b)))

module _ (stored gains : List ℕ) (i g : ℕ) (a : length stored ≡ 258) (b : length gains ≡ i) (h : i < 258) (w : Gained stored gains) where
  more : (k : ℕ) → k < 258 → Dec (k ≡ i) → get_or (set stored i g) k 0 ≡ get_or (gains ++ (g ∷ [])) k 1
  more k l (yes q) = rw (q, get_or-set_same stored i g 0 (let z : i < length stored = omega arith in z)) (sym (get_or_at gains g [] 1 i b))
  more k l (no q) = rw (get_or-set_other stored i k g 0 q) (w k l ∙ get_d_push gains g i k b q)

  pub gained-more : Gained (set stored i g) (gains ++ (g ∷ []))
  gained-more k l = more k l (ℕ_discrete k i)

  pushed : length (gains ++ (g ∷ [])) ≡ i + 1
  pushed = length-append gains (g ∷ []) ∙ rw b

-- words of one bit, i of them read
pub record Singled (s : List ℕ) (at l large n : ℕ) (stored : List ℕ) (p i : ℕ) : Type 0 where
  pub gains : List ℕ
  pub count : length gains ≡ i
  pub size : length stored ≡ 258
  pub held : Gained stored gains
  pub goes : skim (singles_of large n []) s at l ≡ skim (singles_of large (n - i) gains) s p l

module _ (s : List ℕ) (at l : ℕ) (stored : List ℕ) (size : length stored ≡ 258) (held : Gained stored []) (n : ℕ) where
  pub singled-none : (large : ℕ) → Singled s at l large n stored at 0
  singled-none large = record { gains = []; count = refl; size = size; held = held; goes = let e : n - 0 ≡ n = omega arith in rw e }

  pub gains-none : (mode : ℕ) → mode ≡ 0 → Held stored at (skim (gains_of mode n) s at l)
  unfolding gains_of
  gains-none mode h = record { gains = []; tells = rw (eq-eqb mode 0 h) (sym (skim-stop s at l [])); held = held }

module _ (s : List ℕ) (at l large n : ℕ) (stored : List ℕ) (p i : ℕ) (so : Singled s at l large n stored p i) where
  pub singled-end : n ≤ i → Held stored p (skim (singles_of large n []) s at l)
  unfolding singles_of
  singled-end h = record {
    gains = so.gains;
    tells = let e : n - i ≡ 0 = omega arith in sym (so.goes ∙ rw e (skim-stop s p l so.gains));
    held = so.held;
  }

  module _ (h : i < n) where
    word : skim (singles_of large (n - i) so.gains) s p l ≡ skim (take 1 (λ v. singles_of large (n - (i + 1)) (so.gains ++ (cond (eqb v 1) large 1 ∷ [])))) s p l
    unfolding singles_of
    word = let e : n - i ≡ suc (n - (i + 1)) = omega arith in rw e

    pub singled-past : (e : Refused) → Err e ≡ look_of s p 1 l → refused_at e ≡ skim (singles_of large n []) s at l
    singled-past e f = look-past s p 1 l _ e f ∙ sym (so.goes ∙ word)

    pub singled-on : (x : Seen) → Ok x ≡ look_of s p 1 l → n ≤ 256 → (g : ℕ) → g ≡ cond (eqb x.value 1) large 1 → Singled s at l large n (set stored i g) x.next.0 (i + 1)
    singled-on x f w g c =
        record {
          gains = so.gains ++ (g ∷ []);
          count = pushed stored so.gains i g so.size so.count (omega arith) so.held;
          size = length-set stored i g ∙ so.size;
          held = gained-more stored so.gains i g so.size so.count (omega arith) so.held;
          goes = so.goes ∙ word ∙ look-on s p 1 l _ x f ∙ rw c;
        }

-- one gain of a composite word
pub third-is : (k : ℕ) → k < 3 → 1 * 2 ^ k % 256 ≡ 2 ^ k
third-is k h = shl_exact {a = 1} 1 k 8 (omega arith) (omega arith) ∙ one-mul (2 ^ k)

-- composite words, i of them read
pub record Tripled (s : List ℕ) (at l n : ℕ) (stored : List ℕ) (p i : ℕ) : Type 0 where
  pub gains : List ℕ
  pub count : length gains ≡ 3 * i
  pub size : length stored ≡ 258
  pub held : Gained stored gains
  pub goes : skim (triples_of n []) s at l ≡ skim (triples_of (n - i) gains) s p l

pub tripled-none : (s : List ℕ) (at l n : ℕ) (stored : List ℕ) → length stored ≡ 258 → Gained stored [] → Tripled s at l n stored at 0
tripled-none s at l n stored size held = record { gains = []; count = refl; size = size; held = held; goes = let e : n - 0 ≡ n = omega arith in rw e }

module _ (s : List ℕ) (at l n : ℕ) (stored : List ℕ) (p i : ℕ) (so : Tripled s at l n stored p i) where
  pub tripled-end : n ≤ i → Held stored p (skim (triples_of n []) s at l)
  unfolding triples_of
  tripled-end h = record {
    gains = so.gains;
    tells = let e : n - i ≡ 0 = omega arith in sym (so.goes ∙ rw e (skim-stop s p l so.gains));
    held = so.held;
  }

  module _ (h : i < n) where
    composite : skim (triples_of (n - i) so.gains) s p l
        ≡ skim (take 5 (λ v. cond (ltb 26 v) (fail 13) (triples_of (n - (i + 1)) (so.gains ++ (2 ^ (v / 9) ∷ 2 ^ (v % 9 / 3) ∷ 2 ^ (v % 3) ∷ []))))) s p l
    unfolding triples_of
    composite = let e : n - i ≡ suc (n - (i + 1)) = omega arith in rw e

    pub tripled-past : (e : Refused) → Err e ≡ look_of s p 5 l → refused_at e ≡ skim (triples_of n []) s at l
    tripled-past e f = look-past s p 5 l _ e f ∙ sym (so.goes ∙ composite)

    module _ (x : Seen) (f : Ok x ≡ look_of s p 5 l) where
      pub tripled-high : 26 < x.value → out (refused 13) x.next.0 [] ≡ skim (triples_of n []) s at l
      tripled-high k = sym (so.goes ∙ composite ∙ look-on s p 5 l _ x f ∙ rw (lt-ltb 26 x.value k) (skim-fail s x.next.0 l 13))

      pub tripled-on : x.value ≤ 26 → n ≤ 86 → (a b c : ℕ) → a ≡ 2 ^ (x.value / 9) → b ≡ 2 ^ (x.value % 9 / 3) → c ≡ 2 ^ (x.value % 3)
          → Tripled s at l n (set (set (set stored (3 * i) a) (3 * i + 1) b) (3 * i + 2) c) x.next.0 (i + 1)
      tripled-on k w a b c ea eb ec =
          let g₁ = so.gains ++ (a ∷ []) in
          let g₂ = g₁ ++ (b ∷ []) in
          let k₁ = set stored (3 * i) a in
          let k₂ = set k₁ (3 * i + 1) b in
          let n₁ : length g₁ ≡ 3 * i + 1 = pushed stored so.gains (3 * i) a so.size so.count (omega arith) so.held in
          let s₁ : length k₁ ≡ 258 = length-set stored (3 * i) a ∙ so.size in
          let h₁ : Gained k₁ g₁ = gained-more stored so.gains (3 * i) a so.size so.count (omega arith) so.held in
          let n₂ : length g₂ ≡ 3 * i + 2 = pushed k₁ g₁ (3 * i + 1) b s₁ n₁ (omega arith) h₁ ∙ (let z : 3 * i + 1 + 1 ≡ 3 * i + 2 = omega arith in z) in
          let s₂ : length k₂ ≡ 258 = length-set k₁ (3 * i + 1) b ∙ s₁ in
          let h₂ : Gained k₂ g₂ = gained-more k₁ g₁ (3 * i + 1) b s₁ n₁ (omega arith) h₁ in
          let n₃ : length (g₂ ++ (c ∷ [])) ≡ 3 * i + 2 + 1 = pushed k₂ g₂ (3 * i + 2) c s₂ n₂ (omega arith) h₂ in
          record {
            gains = g₂ ++ (c ∷ []);
            count = n₃ ∙ (let z : 3 * i + 2 + 1 ≡ 3 * (i + 1) = omega arith in z);
            size = length-set k₂ (3 * i + 2) c ∙ s₂;
            held = gained-more k₂ g₂ (3 * i + 2) c s₂ n₂ (omega arith) h₂;
            goes = so.goes ∙ composite ∙ look-on s p 5 l _ x f ∙ rw (le-ltb 26 x.value k, ← ea, ← eb, ← ec, append_assoc (so.gains ++ (a ∷ [])) (b ∷ []) (c ∷ []), append_assoc so.gains (a ∷ []) (b ∷ c ∷ []));
          }

-- the gains, by gaqmod
module _ (s : List ℕ) (p l n mode : ℕ) where
  pub gains-one : mode ≡ 1 → skim (singles_of 2 n []) s p l ≡ skim (gains_of mode n) s p l
  unfolding gains_of
  gains-one h = rw h

  pub gains-two : mode ≡ 2 → skim (singles_of 4 n []) s p l ≡ skim (gains_of mode n) s p l
  unfolding gains_of
  gains-two h = rw h

  pub gains-three : (mode ≡ 0 → ⊥) → (mode ≡ 1 → ⊥) → (mode ≡ 2 → ⊥) → skim (triples_of ((n + 2) / 3) []) s p l ≡ skim (gains_of mode n) s p l
  unfolding gains_of
  gains-three a b c = rw (ne_eqb mode 0 a, ne_eqb mode 1 b, ne_eqb mode 2 c)

-- what is outcome of one outcome is outcome of an equal one
pub gains-same : (r : Result BitPlace Refused) (stored : List ℕ) (o u : Outcome (List ℕ)) → o ≡ u → GainsOutcome r stored o → GainsOutcome r stored u
gains-same (Ok place) stored o u e g = record { gains = g.gains; tells = g.tells ∙ e; held = g.held }
gains-same (Err f) stored o u e g = g ∙ e

-- the active bins, i of them passed
module _ (mode : ℕ) (baps : List ℕ) (slot start end : ℕ) where
  pub active-none : active_in mode baps slot start (end - start) ≡ 0 + active_in mode baps slot start (end - start)
  active-none = omega arith

  module _ (i n whole : ℕ) (so : whole ≡ n + active_in mode baps slot i (end - i)) where
    pub active-end : end ≤ i → n ≡ whole
    unfolding active_in
    active-end h = let e : end - i ≡ 0 = omega arith in sym (so ∙ rw e (omega arith))

    pub active_on : i < end → (a : Bool) → a ≡ active_of mode (get_or baps (256 * slot + i) 0)
        → whole ≡ n + bool_byte a + active_in mode baps slot (i + 1) (end - (i + 1))
    unfolding active_in pointer
    active_on h a c =
        let e : end - i ≡ suc (end - (i + 1)) = omega arith in
        let f : i + 1 ≡ suc i = omega arith in
        so ∙ rw (e, ← f, ← c) (go a (active_in mode baps slot (i + 1) (end - (i + 1))))
      where
        go : (a : Bool) (m : ℕ) → n + (cond a 1 0 + m) ≡ n + bool_byte a + m
        go true m = omega arith
        go false m = omega arith

-- the gain of a bin
pub gain-is : (stored gains : List ℕ) → Gained stored gains → (k : ℕ) → k < 258 → (mode hebap : ℕ) (a : Bool) → a ≡ active_of mode hebap → (g : ℕ) → g ≡ cond a (get_or stored k 0) 1 → g ≡ gain_of mode gains k hebap
gain-is stored gains w k h mode hebap a e g f = f ∙ rw (w k h, e)

pub next-is : (k mode hebap : ℕ) (a : Bool) → a ≡ active_of mode hebap → k + bool_byte a ≡ next_active mode k hebap
next-is k mode hebap a e = go a ∙ rw e
  where
    go : (a : Bool) → k + bool_byte a ≡ cond a (k + 1) k
    go true = refl
    go false = omega arith

pub one-more : (a : Bool) → bool_byte a ≤ 1
one-more true = omega arith
one-more false = omega arith

-- the bins, i of them read
module _ (s : List ℕ) (l mode : ℕ) (gains baps : List ℕ) (slot end i k tags p : ℕ) where
  pub bins-end : end ≤ i → out (accepted tags) p [] ≡ skim (bins_of mode gains baps slot i (end - i) k tags) s p l
  unfolding bins_of
  bins-end h = let e : end - i ≡ 0 = omega arith in rw e (sym (skim-stop s p l tags))

  module _ (h : i < end) (hebap : ℕ) (c : hebap ≡ get_or baps (256 * slot + i) 0) (gain : ℕ) (d : gain ≡ gain_of mode gains k hebap) where
    one-bin : skim (bins_of mode gains baps slot i (end - i) k tags) s p l
        ≡ skim (bin_of hebap gain >>- (λ t. bins_of mode gains baps slot (i + 1) (end - (i + 1)) (next_active mode k hebap) (tags + t))) s p l
    unfolding bins_of pointer
    one-bin =
        let e : end - i ≡ suc (end - (i + 1)) = omega arith in
        let f : i + 1 ≡ suc i = omega arith in
        rw (e, f, d, c)

    pub bins-off : (e : Refused) → refused_at e ≡ skim (bin_of hebap gain) s p l → refused_at e ≡ skim (bins_of mode gains baps slot i (end - i) k tags) s p l
    bins-off e f = sym (one-bin ∙ bind-off _ s l (bin_of hebap gain) p _ _ f)

    pub bins-on : (t : Tags) → tags_outcome (Ok t) ≡ skim (bin_of hebap gain) s p l → (k' : ℕ) → k' ≡ next_active mode k hebap
        → skim (bins_of mode gains baps slot i (end - i) k tags) s p l ≡ skim (bins_of mode gains baps slot (i + 1) (end - (i + 1)) k' (tags + t.tags)) s t.place.0 l
    bins-on t f k' g = one-bin ∙ bind-on _ s l (bin_of hebap gain) p _ _ f ∙ rw g

-- the whole
module _ (s : List ℕ) (l : ℕ) (baps : List ℕ) (slot start n p : ℕ) where
  pub aht-past : (e : Refused) → Err e ≡ look_of s p 2 l → refused_at e ≡ skim (aht_of baps slot start n) s p l
  unfolding aht_of
  aht-past e f = look-past s p 2 l _ e f

  module _ (x : Seen) (f : Ok x ≡ look_of s p 2 l) (m : ℕ) (c : m ≡ active_in x.value baps slot start n) where
    after-mode : skim (aht_of baps slot start n) s p l ≡ skim (gains_of x.value m >>- (λ gains. bins_of x.value gains baps slot start n 0 0)) s x.next.0 l
    unfolding aht_of
    after-mode = look-on s p 2 l _ x f ∙ rw c

    pub aht-gains : (e : Refused) → refused_at e ≡ skim (gains_of x.value m) s x.next.0 l → refused_at e ≡ skim (aht_of baps slot start n) s p l
    aht-gains e d = sym (after-mode ∙ bind-off _ s l (gains_of x.value m) x.next.0 _ _ d)

    pub aht-bins : (stored : List ℕ) (place : ℕ) (d : Held stored place (skim (gains_of x.value m) s x.next.0 l)) (o : Outcome ℕ)
        → o ≡ skim (bins_of x.value d.gains baps slot start n 0 0) s place l → o ≡ skim (aht_of baps slot start n) s p l
    aht-bins stored place d o b = b ∙ sym (after-mode ∙ bind-on _ s l (gains_of x.value m) x.next.0 _ _ d.tells)
