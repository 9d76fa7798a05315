-- What the mantissas of a block tell: how many tags they can have, six in each of 253 bins of seven slots; and eight numbers. Assumes nothing.
use mathlib.Core.Path.{◌≡◌, ap, subst, ◌∙◌}
use mathlib.Core.Bool.{Bool, true, false, cond, not, ◌&&◌, ◌||◌}
use mathlib.Core.List.{List, []}
use Prim.Native.Nat.{ℕ, zero, suc, ◌+◌, ◌-◌, ◌*◌, ◌^◌, min, ◌≤◌}
use native.Mathlib.Omega.{arith}
use lib.Dec.{leb, ltb, eqb}
use lib.ListN.{length, get_or, length-set, length-replicate}
use Rattle.bits.specs.Bits.{bits_at}
use Rattle.reading.specs.Tree.{Skim, stop, fail, at, take, ◌>>-◌}
use Rattle.reading.specs.Run.{accepted, refused, out, skim}
use Rattle.tables.specs.Small.{gaq_bits}
use Rattle.slots.specs.Slots.{CPL, LFE, range_of, read_of}
use Rattle.slots.specs.declared.Shape.{Shape}
use Rattle.slots.specs.declared.Range.{Range}
use Rattle.skim.specs.Counted.{Counted, counted, counting}
use Rattle.mantissas.specs.Mantissas.{conventional_of}
use Rattle.hybrid.specs.Hybrid.{active_in, gains_of, small_of, large_of, premantissa_of, premantissas_of, bin_of, bins_of, aht_of}
use Rattle.plan.specs.Plan.{Along, visit_of, visit_if, slots_of, mantissas_of}
use Rattle.cells.specs.Cells.{State}
use Rattle.derivations.specs.Mantissas.{mantissas_in}
use Rattle.bounds.specs.Bounds.{tags_most}

-- what a walk inside a span tells, whatever the bits
abbrev pub Tells : {A : Type 0} → (A → Type 0) → Skim A → Type 0
Tells P (stop a) = P a
Tells P (fail n) = Unit {0}
Tells P (at k) = (p : ℕ) → Tells P (k p)
Tells P (take w k) = (v : ℕ) → Tells P (k v)

pub tells-skim : {A : Type 0} (P : A → Type 0) (s : Skim A) → Tells P s → (b : List ℕ) (p l : ℕ) (a : A) → (skim s b p l).result ≡ accepted a → P a
unfolding skim
tells-skim P (stop x) h b p l a e = let z : x ≡ a = cc in subst P z h
tells-skim P (fail n) h b p l a e = absurd (let z : ◌≡◌ {A = ℕ} 0 1 = cc in let y : ⊥ = omega arith in y)
tells-skim P (at k) h b p l a e = tells-skim P (k p) (h p) b p l a e
tells-skim {A} P (take w k) h b p l a e = go (leb (p + w) l) (λ q. tells-skim P (k (bits_at b p w)) (h (bits_at b p w)) b (p + w) l a q) e
  where
    go : (c : Bool) → ((skim (k (bits_at b p w)) b (p + w) l).result ≡ accepted a → P a) → (cond c (skim (k (bits_at b p w)) b (p + w) l) (out (refused 8) p [])).result ≡ accepted a → P a
    go true f e = f e
    go false f e = absurd (let z : ◌≡◌ {A = ℕ} 0 1 = cc in let y : ⊥ = omega arith in y)

pub tells-bind : {A B : Type 0} (P : A → Type 0) (Q : B → Type 0) (s : Skim A) (f : A → Skim B) → Tells P s → ((a : A) → P a → Tells Q (f a)) → Tells Q (s >>- f)
unfolding ◌>>-◌
tells-bind P Q (stop a) f h k = k a h
tells-bind P Q (fail n) f h k = tt
tells-bind P Q (at j) f h k = λ p. tells-bind P Q (j p) f (h p) k
tells-bind P Q (take w j) f h k = λ v. tells-bind P Q (j v) f (h v) k

pub tells-if : {A : Type 0} (P : A → Type 0) (c : Bool) (s t : Skim A) → Tells P s → Tells P t → Tells P (cond c s t)
tells-if P true s t h k = h
tells-if P false s t h k = k

-- something is told, of which nothing is asked
pub tells-any : {A : Type 0} (s : Skim A) → Tells (λ _. Unit {0}) s
tells-any (stop a) = tt
tells-any (fail n) = tt
tells-any (at k) = λ p. tells-any (k p)
tells-any (take w k) = λ v. tells-any (k v)

tells_more : {A : Type 0} (P Q : A → Type 0) (s : Skim A) → ((a : A) → P a → Q a) → Tells P s → Tells Q s
tells_more P Q (stop a) f h = f a h
tells_more P Q (fail n) f h = tt
tells_more P Q (at k) f h = λ p. tells_more P Q (k p) f (h p)
tells_more P Q (take w k) f h = λ v. tells_more P Q (k v) f (h v)

tells-counting : {A : Type 0} (P : A → Type 0) (Q : Counted A → Type 0) (s : Skim A) → Tells P s → ((a : A) (n : ℕ) → P a → Q (counted a n)) → Tells Q (counting s)
unfolding counting
tells-counting P Q s h f = λ p. tells-bind P Q s (λ a. at (λ q. stop (counted a (q - p)))) h (λ a k q. f a (q - p) k)

tags-one : (m gain : ℕ) → Tells (λ t. t ≤ 1) (premantissa_of m gain)
unfolding premantissa_of
tags-one m gain =
    tells-if (λ t. t ≤ 1) (eqb gain 1) _ _ (λ _. let z : 0 ≤ 1 = omega arith in z)
    (λ v. tells-if (λ t. t ≤ 1) (eqb v (2 ^ (small_of m gain - 1))) (take (large_of m gain) (λ _. stop 1)) (stop 0) (λ _. let z : 1 ≤ 1 = omega arith in z) (let z : 0 ≤ 1 = omega arith in z))

tags-some : (m gain n tags : ℕ) → Tells (λ t. t ≤ tags + n) (premantissas_of m gain n tags)
unfolding premantissas_of
tags-some m gain zero tags = omega arith
tags-some m gain (suc n) tags =
    tells-bind (λ t. t ≤ 1) (λ t. t ≤ tags + suc n) (premantissa_of m gain) _ (tags-one m gain)
    (λ t h. tells_more (λ x. x ≤ tags + t + n) (λ x. x ≤ tags + suc n) (premantissas_of m gain n (tags + t)) (λ x k. omega arith) (tags-some m gain n (tags + t)))

-- a bin, n bins, the adaptive hybrid transform of n bins
tags-bin : (hebap gain : ℕ) → Tells (λ t. t ≤ 6) (bin_of hebap gain)
unfolding bin_of
tags-bin hebap gain = tells-if (λ t. t ≤ 6) (ltb hebap 8) _ _ (λ _. let z : 0 ≤ 6 = omega arith in z) (tags-some (get_or gaq_bits (hebap - 8) 0) gain 6 0)

tags-bins : (mode : ℕ) (gains baps : List ℕ) (slot bin n k tags : ℕ) → Tells (λ t. t ≤ tags + 6 * n) (bins_of mode gains baps slot bin n k tags)
unfolding bins_of
tags-bins mode gains baps slot bin zero k tags = omega arith
tags-bins mode gains baps slot bin (suc n) k tags =
    tells-bind (λ t. t ≤ 6) (λ t. t ≤ tags + 6 * suc n) (bin_of _ _) _ (tags-bin _ _)
    (λ t h. tells_more (λ x. x ≤ tags + t + 6 * n) (λ x. x ≤ tags + 6 * suc n) (bins_of mode gains baps slot (suc bin) n _ (tags + t)) (λ x k. omega arith)
    (tags-bins mode gains baps slot (suc bin) n _ (tags + t)))

tags-aht : (baps : List ℕ) (slot bin n : ℕ) → Tells (λ t. t ≤ 6 * n) (aht_of baps slot bin n)
unfolding aht_of
tags-aht baps slot bin n =
    λ mode. tells-bind (λ _. Unit {0}) (λ t. t ≤ 6 * n) (gains_of mode (active_in mode baps slot bin n)) _ (tells-any (gains_of mode (active_in mode baps slot bin n)))
    (λ gains _. tells_more (λ x. x ≤ 0 + 6 * n) (λ x. x ≤ 6 * n) (bins_of mode gains baps slot bin n 0 0) (λ x k. omega arith) (tags-bins mode gains baps slot bin n 0 0))

-- a slot has at most 253 bins
pub bins-most : (shape : Shape) (slot : ℕ) → (range_of shape slot).end ≤ 253
unfolding range_of
bins-most shape slot = go (eqb slot CPL) (eqb slot LFE)
  where
    one : Range
    one = record { start = shape.cplstrt; end = min shape.cplend 253 }

    two : Range
    two = record { start = 0; end = 7 }

    three : Range
    three = record { start = 0; end = min (get_or shape.endmant slot 0) 253 }

    go : (a b : Bool) → (cond {A = Range} a one (cond {A = Range} b two three)).end ≤ 253
    go true b = omega arith
    go false true = omega arith
    go false false = omega arith

module _ (baps : List ℕ) (shape : Shape) where
  tags-visit : (slot : ℕ) (a : Along) → Tells (λ b. b.tags ≤ a.tags + 1518) (visit_of baps shape slot a)
  unfolding visit_of
  tags-visit slot a =
      let n = (range_of shape slot).end - (range_of shape slot).start in
      let r : n ≤ 253 = let z = bins-most shape slot in omega arith in
      tells-if (λ b. b.tags ≤ a.tags + 1518) (read_of shape slot) _ _ (let z : a.tags ≤ a.tags + 1518 = omega arith in z)
      (tells-if (λ b. b.tags ≤ a.tags + 1518) (get_or shape.ahtinu slot false) _ _
      (tells-bind (λ t. t.told ≤ 6 * n) (λ b. b.tags ≤ a.tags + 1518) (counting (aht_of baps slot _ n)) _ (tells-counting (λ t. t ≤ 6 * n) (λ t. t.told ≤ 6 * n) (aht_of baps slot _ n) (tags-aht baps slot _ n) (λ t k h. h)) (λ t h. let z : a.tags + t.told ≤ a.tags + 1518 = omega arith in z))
      (tells-bind (λ _. Unit {0}) (λ b. b.tags ≤ a.tags + 1518) (counting (conventional_of baps slot _ n a.groups)) _ (tells-any (counting (conventional_of baps slot _ n a.groups))) (λ g _. let z : a.tags ≤ a.tags + 1518 = omega arith in z)))

  -- if it is wanted
  some : Bool → ℕ
  some c = cond c 1 0

  tags-if : (c : Bool) (slot : ℕ) (a : Along) → Tells (λ b. b.tags ≤ a.tags + 1518 * some c) (visit_if baps shape c slot a)
  unfolding visit_if some
  tags-if true slot a = tells_more (λ b. b.tags ≤ a.tags + 1518) (λ b. b.tags ≤ a.tags + 1518 * 1) (visit_of baps shape slot a) (λ b h. omega arith) (tags-visit slot a)
  tags-if false slot a = omega arith

  -- n channels, coupling if it is still to come, and LFE
  tags-slots : (ch n : ℕ) (got : Bool) (a : Along) → Tells (λ v. get_or v 0 0 ≤ a.tags + 1518 * (n + some (not got) + 1)) (slots_of baps shape ch n got a)
  unfolding slots_of some
  tags-slots ch zero got a =
      tells-bind (λ b. b.tags ≤ a.tags + 1518 * some shape.lfeon) (λ v. get_or v 0 0 ≤ a.tags + 1518 * (0 + some (not got) + 1)) (visit_if baps shape shape.lfeon LFE a) _
      (tags-if shape.lfeon LFE a) (λ b h. lfe shape.lfeon b h)
    where
      lfe : (c : Bool) (b : Along) → b.tags ≤ a.tags + 1518 * some c → b.tags ≤ a.tags + 1518 * (0 + some (not got) + 1)
      lfe true b h = omega arith
      lfe false b h = omega arith
  tags-slots ch (suc n) got a =
      tells-bind (λ b. b.tags ≤ a.tags + 1518 * 1) _ (visit_if baps shape true ch a) _ (tags-if true ch a)
      (λ b h. tells-bind (λ c. c.tags ≤ b.tags + 1518 * some (coupled && not got)) _ (visit_if baps shape (coupled && not got) CPL b) _ (tags-if (coupled && not got) CPL b)
      (λ c i. tells_more (λ v. get_or v 0 0 ≤ c.tags + 1518 * (n + some (not (got || coupled)) + 1)) _ (slots_of baps shape (suc ch) n (got || coupled) c)
      (λ v j. adds coupled got (get_or v 0 0) b c h i j) (tags-slots (suc ch) n (got || coupled) c)))
    where
      coupled : Bool
      coupled = shape.cplinu && get_or shape.chincpl ch false

      adds : (k g : Bool) (t : ℕ) (b c : Along) → b.tags ≤ a.tags + 1518 * 1 → c.tags ≤ b.tags + 1518 * some (k && not g) → t ≤ c.tags + 1518 * (n + some (not (g || k)) + 1)
          → t ≤ a.tags + 1518 * (suc n + some (not g) + 1)
      adds true true t b c h i j = omega arith
      adds true false t b c h i j = omega arith
      adds false true t b c h i j = omega arith
      adds false false t b c h i j = omega arith

  tags-block : Tells (λ v. get_or v 0 0 ≤ tags_most) (mantissas_of baps shape)
  unfolding mantissas_of some
  tags-block =
      tells_more (λ v. get_or v 0 0 ≤ 0 + 1518 * (min shape.nfchans 5 + 1 + 1)) (λ v. get_or v 0 0 ≤ tags_most) (slots_of baps shape 0 (min shape.nfchans 5) false _) (λ v h. omega arith)
      (tags-slots 0 (min shape.nfchans 5) false _)

  -- the bits of seven slots, wherever the walk comes
  abbrev Seven : Along → Type 0
  Seven a = length a.bits ≡ 7

  seven-visit : (slot : ℕ) (a : Along) → Seven a → Tells Seven (visit_of baps shape slot a)
  unfolding visit_of
  seven-visit slot a h =
      tells-if Seven (read_of shape slot) _ _ h
      (tells-if Seven (get_or shape.ahtinu slot false) _ _
      (tells-bind (λ _. Unit {0}) Seven (counting (aht_of baps slot _ _)) _ (tells-any (counting (aht_of baps slot _ _))) (λ t _. length-set a.bits slot t.bits ∙ h))
      (tells-bind (λ _. Unit {0}) Seven (counting (conventional_of baps slot _ _ a.groups)) _ (tells-any (counting (conventional_of baps slot _ _ a.groups))) (λ g _. length-set a.bits slot g.bits ∙ h)))

  seven-if : (c : Bool) (slot : ℕ) (a : Along) → Seven a → Tells Seven (visit_if baps shape c slot a)
  unfolding visit_if
  seven-if true slot a h = seven-visit slot a h
  seven-if false slot a h = h

  eight-slots : (ch n : ℕ) (got : Bool) (a : Along) → Seven a → Tells (λ v. length v ≡ 8) (slots_of baps shape ch n got a)
  unfolding slots_of
  eight-slots ch zero got a h = tells-bind Seven (λ v. length v ≡ 8) (visit_if baps shape shape.lfeon LFE a) _ (seven-if shape.lfeon LFE a h) (λ b k. ap suc k)
  eight-slots ch (suc n) got a h =
      tells-bind Seven _ (visit_if baps shape true ch a) _ (seven-if true ch a h)
      (λ b k. tells-bind Seven _ (visit_if baps shape _ CPL b) _ (seven-if _ CPL b k) (λ c i. eight-slots (suc ch) n _ c i))

  eight-block : Tells (λ v. length v ≡ 8) (mantissas_of baps shape)
  unfolding mantissas_of
  eight-block = eight-slots 0 (min shape.nfchans 5) false _ (length-replicate {A = ℕ} 7 0)

-- so the numbers that a reading tells of a block, and the tags among them
pub eight-told : (st : State) (b : List ℕ) (p l : ℕ) (v : List ℕ) → (skim (mantissas_in st) b p l).result ≡ accepted v → length v ≡ 8
unfolding mantissas_in
eight-told st b p l v e = tells-skim (λ v. length v ≡ 8) (mantissas_in st) (eight-block st.bins.baps _) b p l v e

pub tags-most : (st : State) (b : List ℕ) (p l : ℕ) (v : List ℕ) → (skim (mantissas_in st) b p l).result ≡ accepted v → get_or v 0 0 ≤ tags_most
unfolding mantissas_in
tags-most st b p l v e = tells-skim (λ v. get_or v 0 0 ≤ tags_most) (mantissas_in st) (tags-block st.bins.baps _) b p l v e
