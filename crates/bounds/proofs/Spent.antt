-- What a walk inside a span tells at the place where it ends: the bits that each slot took are no more than the frame has. Assumes nothing.
use mathlib.Core.Path.{◌≡◌, refl, ap, subst, ◌∙◌}
use mathlib.Core.Bool.{Bool, true, false, true≢false, cond, not, ◌&&◌, ◌||◌}
use mathlib.Core.List.{List, [], ◌∷◌}
use Prim.Native.Nat.{ℕ, zero, suc, ◌+◌, ◌-◌, ◌≤◌, ◌<◌}
use native.Mathlib.Omega.{arith}
use lib.Dec.{leb}
use lib.ListN.{length, get_or, set, drop, replicate, length-set, get_or-replicate}
use lib.Seq.{get_or-set_other}
use borrow.Author.Tests.{leb-true}
use Rattle.bits.specs.Bits.{bits_at}
use Rattle.reading.specs.Tree.{Skim, stop, fail, at, take, ◌>>-◌}
use Rattle.reading.specs.Run.{accepted, refused, out, skim}
use Rattle.slots.specs.Slots.{CPL, LFE, read_of}
use Rattle.slots.specs.declared.Shape.{Shape}
use Rattle.skim.specs.Counted.{Counted, counted, counting}
use Rattle.mantissas.specs.Mantissas.{conventional_of}
use Rattle.hybrid.specs.Hybrid.{aht_of}
use Rattle.plan.specs.Plan.{Along, visit_of, visit_if, slots_of, mantissas_of}
use Rattle.cells.specs.Cells.{State}
use Rattle.derivations.specs.Mantissas.{mantissas_in}

-- what is told, and where, of a walk that begins at the place p in a frame that ends at l
abbrev Told : {A : Type 0} → (A → ℕ → Type 0) → Skim A → ℕ → ℕ → Type 0
Told P (stop a) p l = P a p
Told P (fail n) p l = Unit {0}
Told P (at k) p l = Told P (k p) p l
Told P (take w k) p l = p + w ≤ l → (v : ℕ) → Told P (k v) (p + w) l

told-skim : {A : Type 0} (P : A → ℕ → Type 0) (s : Skim A) (b : List ℕ) (p l : ℕ) → Told P s p l → (a : A) → (skim s b p l).result ≡ accepted a → P a (skim s b p l).place
unfolding skim
told-skim P (stop x) b p l h a e = let z : x ≡ a = cc in subst (λ y. P y p) z h
told-skim P (fail n) b p l h a e = absurd (let z : ◌≡◌ {A = ℕ} 0 1 = cc in let y : ⊥ = omega arith in y)
told-skim P (at k) b p l h a e = told-skim P (k p) b p l h a e
told-skim {A} P (take w k) b p l h a e = go (leb (p + w) l) refl (λ i d. told-skim P (k (bits_at b p w)) b (p + w) l (h i (bits_at b p w)) a d) e
  where
    go : (c : Bool) → leb (p + w) l ≡ c → (p + w ≤ l → (skim (k (bits_at b p w)) b (p + w) l).result ≡ accepted a → P a (skim (k (bits_at b p w)) b (p + w) l).place)
        → (cond c (skim (k (bits_at b p w)) b (p + w) l) (out (refused 8) p [])).result ≡ accepted a → P a (cond c (skim (k (bits_at b p w)) b (p + w) l) (out (refused 8) p [])).place
    go true c f e = f (leb-true (p + w) l c) e
    go false c f e = absurd (let z : ◌≡◌ {A = ℕ} 0 1 = cc in let y : ⊥ = omega arith in y)

told-bind : {A B : Type 0} (P : A → ℕ → Type 0) (Q : B → ℕ → Type 0) (s : Skim A) (f : A → Skim B) (p l : ℕ) → Told P s p l → ((a : A) (q : ℕ) → P a q → Told Q (f a) q l) → Told Q (s >>- f) p l
unfolding ◌>>-◌
told-bind P Q (stop a) f p l h k = k a p h
told-bind P Q (fail n) f p l h k = tt
told-bind P Q (at j) f p l h k = told-bind P Q (j p) f p l h k
told-bind P Q (take w j) f p l h k = λ i v. told-bind P Q (j v) f (p + w) l (h i v) k

told-if : {A : Type 0} (P : A → ℕ → Type 0) (c : Bool) (s t : Skim A) (p l : ℕ) → Told P s p l → Told P t p l → Told P (cond c s t) p l
told-if P true s t p l h k = h
told-if P false s t p l h k = k

-- no walk ends past a place behind which neither it nor the frame begins to end
told_below : {A : Type 0} (s : Skim A) (p l m : ℕ) → p ≤ m → l ≤ m → Told (λ _ q. q ≤ m) s p l
told_below (stop a) p l m h k = h
told_below (fail n) p l m h k = tt
told_below (at j) p l m h k = told_below (j p) p l m h k
told_below (take w j) p l m h k = λ i v. told_below (j v) (p + w) l m (omega arith) k

told-counting : {A : Type 0} (s : Skim A) (p l m : ℕ) → p ≤ m → l ≤ m → Told (λ (c : Counted A) q. (c.bits ≤ m) × (q ≤ m)) (counting s) p l
unfolding counting
told-counting s p l m h k =
    told-bind (λ _ q. q ≤ m) (λ c q. (c.bits ≤ m) × (q ≤ m)) s (λ a. at (λ q. stop (counted a (q - p)))) p l (told_below s p l m h k) (λ a q i. (omega arith, i))

set-most : (xs : List ℕ) (k v m i : ℕ) → ((i : ℕ) → get_or xs i 0 ≤ m) → v ≤ m → get_or (set xs k v) i 0 ≤ m
set-most [] k v m i h b = h i
set-most (x ∷ xs) zero v m zero h b = b
set-most (x ∷ xs) zero v m (suc i) h b = h (suc i)
set-most (x ∷ xs) (suc k) v m zero h b = h 0
set-most (x ∷ xs) (suc k) v m (suc i) h b = set-most xs k v m i (λ n. h (suc n)) b

module _ (baps : List ℕ) (shape : Shape) (l m : ℕ) (lm : l ≤ m) where
  abbrev Few : Along → ℕ → Type 0
  Few a q = ((i : ℕ) → get_or a.bits i 0 ≤ m) × (q ≤ m)

  few-visit : (slot : ℕ) (a : Along) (p : ℕ) → Few a p → Told Few (visit_of baps shape slot a) p l
  unfolding visit_of
  few-visit slot a p h =
      told-if Few (read_of shape slot) _ _ p l h
      (told-if Few (get_or shape.ahtinu slot false) _ _ p l
      (told-bind (λ c q. (c.bits ≤ m) × (q ≤ m)) Few (counting (aht_of baps slot _ _)) _ p l (told-counting (aht_of baps slot _ _) p l m h.1 lm) (λ c q k. ((λ i. set-most a.bits slot c.bits m i h.0 k.0), k.1)))
      (told-bind (λ c q. (c.bits ≤ m) × (q ≤ m)) Few (counting (conventional_of baps slot _ _ a.groups)) _ p l (told-counting (conventional_of baps slot _ _ a.groups) p l m h.1 lm) (λ c q k. ((λ i. set-most a.bits slot c.bits m i h.0 k.0), k.1))))

  few-if : (c : Bool) (slot : ℕ) (a : Along) (p : ℕ) → Few a p → Told Few (visit_if baps shape c slot a) p l
  unfolding visit_if
  few-if true slot a p h = few-visit slot a p h
  few-if false slot a p h = h

  -- the tags come first
  abbrev FewBits : List ℕ → ℕ → Type 0
  FewBits v q = (i : ℕ) → get_or v (suc i) 0 ≤ m

  few-slots : (ch n : ℕ) (got : Bool) (a : Along) (p : ℕ) → Few a p → Told FewBits (slots_of baps shape ch n got a) p l
  unfolding slots_of
  few-slots ch zero got a p h = told-bind Few FewBits (visit_if baps shape shape.lfeon LFE a) _ p l (few-if shape.lfeon LFE a p h) (λ b q k. k.0)
  few-slots ch (suc n) got a p h =
      told-bind Few FewBits (visit_if baps shape true ch a) _ p l (few-if true ch a p h)
      (λ b q k. told-bind Few FewBits (visit_if baps shape _ CPL b) _ q l (few-if _ CPL b q k) (λ c r i. few-slots (suc ch) n _ c r i))

-- the bits of the slots that a reading tells of a block
none-most : (n m i : ℕ) → get_or (replicate n 0) i 0 ≤ m
none-most zero m i = omega arith
none-most (suc n) m zero = omega arith
none-most (suc n) m (suc i) = none-most n m i

pub bits_most : (st : State) (b : List ℕ) (p l m : ℕ) → p ≤ m → l ≤ m → (v : List ℕ) → (skim (mantissas_in st) b p l).result ≡ accepted v → (i : ℕ) → get_or v (suc i) 0 ≤ m
unfolding mantissas_in mantissas_of
bits_most st b p l m h k v e =
    told-skim (λ v q. (i : ℕ) → get_or v (suc i) 0 ≤ m) (mantissas_in st) b p l (few-slots st.bins.baps _ l m k 0 _ false _ p ((λ i. none-most 7 m i), h)) v e

-- the bits of the slots add up to what the walk of a block takes
unfoldable pub total : List ℕ → ℕ
total [] = 0
total (x ∷ xs) = x + total xs

total-set : (xs : List ℕ) (k v : ℕ) → k < length xs → get_or xs k 0 ≡ 0 → total (set xs k v) ≡ total xs + v
unfolding total
total-set [] k v h e = absurd (let z : ⊥ = omega arith in z)
total-set (x ∷ xs) zero v h e = omega arith
total-set (x ∷ xs) (suc k) v h e = let r = total-set xs k v (omega arith) e in omega arith

-- a walk goes forward
told-ahead : {A : Type 0} (s : Skim A) (p l m : ℕ) → m ≤ p → Told (λ _ q. m ≤ q) s p l
told-ahead (stop a) p l m h = h
told-ahead (fail n) p l m h = tt
told-ahead (at j) p l m h = told-ahead (j p) p l m h
told-ahead (take w j) p l m h = λ i v. told-ahead (j v) (p + w) l m (omega arith)

told-taken : {A : Type 0} (s : Skim A) (p l : ℕ) → Told (λ (c : Counted A) q. p + c.bits ≡ q) (counting s) p l
unfolding counting
told-taken s p l = told-bind (λ _ q. p ≤ q) (λ c q. p + c.bits ≡ q) s (λ a. at (λ q. stop (counted a (q - p)))) p l (told-ahead s p l p (omega arith)) (λ a q i. omega arith)

module _ (baps : List ℕ) (shape : Shape) (l start : ℕ) where
  -- where the walk stands: the channels from ch on, coupling where it is still to come, and LFE have taken nothing
  record Adds (ch : ℕ) (got : Bool) (a : Along) (q : ℕ) : Type 0 where
    seven : length a.bits ≡ 7
    adds : start + total a.bits ≡ q
    channels : (i : ℕ) → ch ≤ i → i < 5 → get_or a.bits i 0 ≡ 0
    coupling : got ≡ false → get_or a.bits CPL 0 ≡ 0
    lfe : get_or a.bits LFE 0 ≡ 0

  -- one slot that has taken nothing takes v bits
  module _ (ch : ℕ) (got : Bool) (a : Along) (q : ℕ) (h : Adds ch got a q) (slot v r : ℕ) (k : slot < 7) (none : get_or a.bits slot 0 ≡ 0) (e : q + v ≡ r) where
    taken-seven : length (set a.bits slot v) ≡ 7
    taken-seven = length-set a.bits slot v ∙ h.seven

    taken-adds : start + total (set a.bits slot v) ≡ r
    taken-adds = let z = total-set a.bits slot v (omega (arith, h.seven)) none in omega (arith, h.adds)

    taken-other : (i : ℕ) → ¬ (i ≡ slot) → get_or (set a.bits slot v) i 0 ≡ get_or a.bits i 0
    taken-other i n = get_or-set_other a.bits slot i v 0 n

  -- a slot: nothing changes, or it takes some bits
  adds-visit : (Q : Along → ℕ → Type 0) (a : Along) (q slot : ℕ) → Q a q → ((b : Along) (v r : ℕ) → b.bits ≡ set a.bits slot v → q + v ≡ r → Q b r) → Told Q (visit_of baps shape slot a) q l
  unfolding visit_of
  adds-visit Q a q slot same next =
      told-if Q (read_of shape slot) _ _ q l same
      (told-if Q (get_or shape.ahtinu slot false) _ _ q l
      (told-bind (λ c r. q + c.bits ≡ r) Q (counting (aht_of baps slot _ _)) _ q l (told-taken (aht_of baps slot _ _) q l) (λ c r e. next _ c.bits r refl e))
      (told-bind (λ c r. q + c.bits ≡ r) Q (counting (conventional_of baps slot _ _ a.groups)) _ q l (told-taken (conventional_of baps slot _ _ a.groups) q l) (λ c r e. next _ c.bits r refl e)))

  adds-channel : (ch : ℕ) (got : Bool) (a : Along) (q : ℕ) → ch < 5 → Adds ch got a q → Told (Adds (suc ch) got) (visit_if baps shape true ch a) q l
  unfolding visit_if
  adds-channel ch got a q k h =
      let none = h.channels ch (omega arith) k in
      adds-visit (Adds (suc ch) got) a q ch
      (record { seven = h.seven; adds = h.adds; channels = λ i j m. h.channels i (omega arith) m; coupling = h.coupling; lfe = h.lfe })
      (λ b v r eb er. record {
        seven = ap length eb ∙ taken-seven ch got a q h ch v r (omega arith) none er;
        adds = ap (λ x. start + total x) eb ∙ taken-adds ch got a q h ch v r (omega arith) none er;
        channels = λ i j m. ap (λ x. get_or x i 0) eb ∙ taken-other ch got a q h ch v r (omega arith) none er i (λ z. omega arith) ∙ h.channels i (omega arith) m;
        coupling = λ g. ap (λ x. get_or x CPL 0) eb ∙ taken-other ch got a q h ch v r (omega arith) none er CPL (λ z. omega arith) ∙ h.coupling g;
        lfe = ap (λ x. get_or x LFE 0) eb ∙ taken-other ch got a q h ch v r (omega arith) none er LFE (λ z. omega arith) ∙ h.lfe;
      })

  adds-coupling : (c got : Bool) (ch : ℕ) (a : Along) (q : ℕ) → ch ≤ 5 → Adds ch got a q → Told (Adds ch (got || c)) (visit_if baps shape (c && not got) CPL a) q l
  unfolding visit_if
  adds-coupling false true ch a q k h = h
  adds-coupling false false ch a q k h = h
  adds-coupling true true ch a q k h = h
  adds-coupling true false ch a q k h =
      let none = h.coupling refl in
      adds-visit (Adds ch true) a q CPL
      (record { seven = h.seven; adds = h.adds; channels = h.channels; coupling = λ e. absurd (true≢false e); lfe = h.lfe })
      (λ b v r eb er. record {
        seven = ap length eb ∙ taken-seven ch false a q h CPL v r (omega arith) none er;
        adds = ap (λ x. start + total x) eb ∙ taken-adds ch false a q h CPL v r (omega arith) none er;
        channels = λ i j m. ap (λ x. get_or x i 0) eb ∙ taken-other ch false a q h CPL v r (omega arith) none er i (λ z. omega arith) ∙ h.channels i j m;
        coupling = λ e. absurd (true≢false e);
        lfe = ap (λ x. get_or x LFE 0) eb ∙ taken-other ch false a q h CPL v r (omega arith) none er LFE (λ z. omega arith) ∙ h.lfe;
      })

  abbrev Whole : List ℕ → ℕ → Type 0
  Whole v r = start + total (drop 1 v) ≡ r

  adds-lfe : (c : Bool) (ch : ℕ) (got : Bool) (a : Along) (q : ℕ) → Adds ch got a q → Told (λ b r. start + total b.bits ≡ r) (visit_if baps shape c LFE a) q l
  unfolding visit_if
  adds-lfe true ch got a q h =
      adds-visit (λ b r. start + total b.bits ≡ r) a q LFE h.adds
      (λ b v r eb er. ap (λ x. start + total x) eb ∙ taken-adds ch got a q h LFE v r (omega arith) h.lfe er)
  adds-lfe false ch got a q h = h.adds

  adds-slots : (ch n : ℕ) (got : Bool) (a : Along) (q : ℕ) → ch + n ≤ 5 → Adds ch got a q → Told Whole (slots_of baps shape ch n got a) q l
  unfolding slots_of
  adds-slots ch zero got a q k h = told-bind (λ b r. start + total b.bits ≡ r) Whole (visit_if baps shape shape.lfeon LFE a) _ q l (adds-lfe shape.lfeon ch got a q h) (λ b r e. e)
  adds-slots ch (suc n) got a q k h =
      told-bind (Adds (suc ch) got) Whole (visit_if baps shape true ch a) _ q l (adds-channel ch got a q (omega arith) h)
      (λ b r i. told-bind (Adds (suc ch) (got || coupled)) Whole (visit_if baps shape (coupled && not got) CPL b) _ r l (adds-coupling coupled got (suc ch) b r (omega arith) i)
      (λ c u j. adds-slots (suc ch) n (got || coupled) c u (omega arith) j))
    where
      coupled : Bool
      coupled = shape.cplinu && get_or shape.chincpl ch false

-- so of the numbers that a reading tells of a block
pub bits-add-up : (st : State) (b : List ℕ) (p l : ℕ) (v : List ℕ) → (skim (mantissas_in st) b p l).result ≡ accepted v → p + total (drop 1 v) ≡ (skim (mantissas_in st) b p l).place
unfolding mantissas_in mantissas_of total
bits-add-up st b p l v e =
    told-skim (λ v r. p + total (drop 1 v) ≡ r) (mantissas_in st) b p l
    (adds-slots st.bins.baps _ l p 0 _ false _ p (omega arith) (record {
      seven = refl;
      adds = omega arith;
      channels = λ i j m. get_or-replicate {A = ℕ} 7 i 0 0 (omega arith);
      coupling = λ _. refl;
      lfe = refl;
    }))
    v e
