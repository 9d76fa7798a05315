-- What the cells say of the slots that have no bits, at the mantissas of a block and of the blocks before it; and that a slot of the adaptive hybrid transform that
-- takes bits is marked as read. Assumes nothing.
use mathlib.Core.Path.{◌≡◌, refl, ap, sym, ◌∙◌, subst}
use mathlib.Core.Bool.{Bool, true, false, true≢false, not, ◌&&◌}
use mathlib.Core.List.{List}
use mathlib.Core.Logic.{◌⊎◌, inl, inr}
use Prim.Native.Nat.{ℕ, zero, suc, ◌+◌, ◌%◌, min, ◌≤◌, ◌<◌}
use native.Mathlib.Omega.{arith}
use native.Mathlib.Decide.{ℕ_discrete, dec_lt}
use lib.Dec.{eqb}
use lib.ListN.{length, get_or}
use borrow.Author.Tests.{ne_eqb, le-ltb}
use Rattle.slots.specs.Slots.{CPL, LFE, used_of, read_of as readBefore, requested_of}
use Rattle.cells.specs.Cells.{cell_of, put_in}
use Rattle.cells.specs.Names.{AHT_READ, AHTINU, CHINCPL, CPLINU, CPLINUS, LFEON, NFCHANS, TAGS}
use Rattle.sideinfo.specs.Steps.{each_of, tab_of}
use Rattle.sideinfo.specs.Blocks.{flag_of, coupled_in, channels_of, marked_in, read_of}
use Rattle.sideinfo.specs.Shapes.{shape_of}
use Rattle.sideinfo.proofs.StepLaws.{each_within}
use Rattle.cells.proofs.Cells.{put-sized}
use Rattle.bounds.proofs.Cells.{cell_at, cell-beside}
use Rattle.slot_sums.specs.SlotSums.{slot_bits}
use Rattle.slot_sums.specs.NoBits.{bits_told, NoneTaken, NoBits}

pub tab-at : {A : Type 0} (f : ℕ → A) (d : A) (i n k : ℕ) → k < n → get_or (tab_of f i n) k d ≡ f (i + k)
unfolding tab_of
tab-at f d i zero k h = absurd (let z : ⊥ = omega arith in z)
tab-at f d i (suc n) zero h = ap f (let z : i ≡ i + 0 = omega arith in z)
tab-at f d i (suc n) (suc k) h = tab-at f d (suc i) n k (omega arith) ∙ ap f (let z : suc i + k ≡ i + suc k = omega arith in z)

pub tab-first : {A : Type 0} (f : ℕ → A) (d : A) (n k : ℕ) → k < n → get_or (tab_of f 0 n) k d ≡ f k
tab-first f d n k h = tab-at f d 0 n k h ∙ ap f (let z : 0 + k ≡ k = omega arith in z)

and-true : (a b : Bool) → a ≡ true → b ≡ true → (a && b) ≡ true
and-true true b h k = k
and-true false b h k = h

and-false : (a : Bool) → (a && false) ≡ false
and-false true = refl
and-false false = refl

-- the bits f of the slots of a block, at its mantissas
pub record Unused (m : List ℕ) (f : ℕ → ℕ) : Type 0 where
  pub channels : (ch : ℕ) → channels_of m ≤ ch → ch < 5 → f ch ≡ 0
  pub lfe : flag_of m LFEON ≡ false → f LFE ≡ 0
  pub uncoupled : ((ch : ℕ) → ch < channels_of m → coupled_in m ch ≡ false) → f CPL ≡ 0
  pub read : (slot : ℕ) → slot < 7 → flag_of m (AHTINU + slot) ≡ true → flag_of m (AHT_READ + slot) ≡ true → f slot ≡ 0

-- as the walk tells them
pub unused-told : (m v : List ℕ) → NoneTaken (shape_of m) v → Unused m (bits_told v)
unfolding requested_of used_of readBefore
unused-told m v t = record {
  channels = λ ch h k. t.unasked ch (omega arith) (rw (ne_eqb ch 5 (λ z. omega arith), ne_eqb ch 6 (λ z. omega arith), le-ltb ch (min (cell_of m NFCHANS % 256) 5) (omega arith)) refl);
  lfe = λ e. t.unasked LFE (omega arith) (ap (λ c. c && not (readBefore (shape_of m) LFE)) e);
  uncoupled = λ h. t.uncoupled (λ ch k. ap (λ c. flag_of m CPLINU && c) (tab-first (λ i. flag_of m (CHINCPL + i)) false 5 ch (omega arith)) ∙ h ch (omega arith));
  read = λ slot k a b. t.unasked slot k
      (ap (λ c. used_of (shape_of m) slot && not c)
      (and-true (get_or (shape_of m).ahtinu slot false) (get_or (shape_of m).ahtread slot false) (tab-first (λ i. flag_of m (AHTINU + i)) false 7 slot k ∙ a) (tab-first (λ i. flag_of m (AHT_READ + i)) false 7 slot k ∙ b))
      ∙ and-false (used_of (shape_of m) slot));
}

-- the cells that this stands on
pub record Alike (x y : List ℕ) : Type 0 where
  pub nfchans : cell_of y NFCHANS ≡ cell_of x NFCHANS
  pub lfeon : cell_of y LFEON ≡ cell_of x LFEON
  pub cplinu : cell_of y CPLINU ≡ cell_of x CPLINU
  pub chincpl : (ch : ℕ) → ch < 5 → cell_of y (CHINCPL + ch) ≡ cell_of x (CHINCPL + ch)
  pub ahtinu : (slot : ℕ) → slot < 7 → cell_of y (AHTINU + slot) ≡ cell_of x (AHTINU + slot)
  pub aht_read : (slot : ℕ) → slot < 7 → cell_of y (AHT_READ + slot) ≡ cell_of x (AHT_READ + slot)

pub unused-alike : (x y : List ℕ) (f g : ℕ → ℕ) → Alike x y → ((slot : ℕ) → slot < 7 → g slot ≡ f slot) → Unused x f → Unused y g
unused-alike x y f g s e u = record {
  channels = λ ch h k. e ch (omega arith) ∙ u.channels ch (omega (arith, s.nfchans)) k;
  lfe = λ h. e LFE (omega arith) ∙ u.lfe (ap (λ n. eqb n 1) (sym s.lfeon) ∙ h);
  uncoupled = λ h. e CPL (omega arith) ∙ u.uncoupled (λ ch k. let i : ch < channels_of y = omega (arith, s.nfchans) in
      ap (λ n. eqb n 1 && flag_of x (CHINCPL + ch)) (sym s.cplinu) ∙ ap (λ n. flag_of y CPLINU && eqb n 1) (sym (s.chincpl ch (omega arith))) ∙ h ch i);
  read = λ slot k a b. e slot k ∙ u.read slot k (ap (λ n. eqb n 1) (sym (s.ahtinu slot k)) ∙ a) (ap (λ n. eqb n 1) (sym (s.aht_read slot k)) ∙ b);
}

-- a mark leaves the cells apart from AHT_READ
abbrev pub Apart : ℕ → Type 0
Apart c = (c < AHT_READ) ⊎ (AHT_READ + 6 < c)

pub marks : (b : Bool) (x : List ℕ) (k c : ℕ) → k ≤ 6 → c < 1024 → Apart c → cell_of (marked_in b (AHT_READ + k) x) c ≡ cell_of x c
marks true x k c i h o = cell-beside x (AHT_READ + k) 1 c h (omega arith) (away o)
  where
    away : Apart c → ¬ (c ≡ AHT_READ + k)
    away (inl p) z = omega arith
    away (inr p) z = omega arith
marks false x k c i h o = refl

reads : (ch : ℕ) (x : List ℕ) (c : ℕ) → ch < 5 → c < 1024 → Apart c → cell_of (read_of ch x) c ≡ cell_of x c
reads ch x c i h o =
    let u = marked_in (flag_of x (AHTINU + ch)) (AHT_READ + ch) x in
    marks (coupled_in u ch && flag_of u (AHTINU + 5)) u 5 c (omega arith) h o ∙ marks (flag_of x (AHTINU + ch)) x ch c (omega arith) h o

pub reads-each : (n : ℕ) (y : List ℕ) (c : ℕ) → n ≤ 5 → c < 1024 → Apart c → cell_of (each_of read_of n y) c ≡ cell_of y c
reads-each n y c k h o = each_within (λ x. cell_of x c ≡ cell_of y c) read_of n y (λ ch x i e. reads ch x c (omega arith) h o ∙ e) refl

-- it sets its cell, and keeps those that are set
mark-sized : (b : Bool) (x : List ℕ) (k : ℕ) → length x ≡ 1024 → length (marked_in b k x) ≡ 1024
mark-sized true x k e = put-sized x k 1 ∙ e
mark-sized false x k e = e

mark-sets : (b : Bool) (x : List ℕ) (k : ℕ) → length x ≡ 1024 → k ≤ 6 → b ≡ true → cell_of (marked_in b (AHT_READ + k) x) (AHT_READ + k) ≡ 1
mark-sets true x k e i h = cell_at x (AHT_READ + k) 1 e (omega arith) (omega arith)
mark-sets false x k e i h = absurd (true≢false (sym h))

mark-keeps : (b : Bool) (x : List ℕ) (k i : ℕ) → length x ≡ 1024 → k ≤ 6 → i ≤ 6 → cell_of x (AHT_READ + i) ≡ 1 → cell_of (marked_in b (AHT_READ + k) x) (AHT_READ + i) ≡ 1
mark-keeps true x k i e h j o = go (ℕ_discrete i k)
  where
    go : Dec (i ≡ k) → cell_of (put_in x (AHT_READ + k) 1) (AHT_READ + i) ≡ 1
    go (yes z) = subst (λ n. cell_of (put_in x (AHT_READ + k) 1) (AHT_READ + n) ≡ 1) (sym z) (mark-sets true x k e h refl)
    go (no z) = cell-beside x (AHT_READ + k) 1 (AHT_READ + i) (omega arith) (omega arith) (λ q. z (omega arith)) ∙ o
mark-keeps false x k i e h j o = o

read-sized : (ch : ℕ) (x : List ℕ) → length x ≡ 1024 → length (read_of ch x) ≡ 1024
read-sized ch x e =
    let u = marked_in (flag_of x (AHTINU + ch)) (AHT_READ + ch) x in
    mark-sized (coupled_in u ch && flag_of u (AHTINU + 5)) u (AHT_READ + 5) (mark-sized (flag_of x (AHTINU + ch)) x (AHT_READ + ch) e)

reads_sized : (n : ℕ) (y : List ℕ) → length y ≡ 1024 → length (each_of read_of n y) ≡ 1024
reads_sized n y e = each_within (λ x. length x ≡ 1024) read_of n y (λ ch x i h. read-sized ch x h) e

read_keeps : (ch i : ℕ) (x : List ℕ) → length x ≡ 1024 → ch < 5 → i ≤ 6 → cell_of x (AHT_READ + i) ≡ 1 → cell_of (read_of ch x) (AHT_READ + i) ≡ 1
read_keeps ch i x e k h o =
    let u = marked_in (flag_of x (AHTINU + ch)) (AHT_READ + ch) x in
    mark-keeps (coupled_in u ch && flag_of u (AHTINU + 5)) u 5 i (mark-sized (flag_of x (AHTINU + ch)) x (AHT_READ + ch) e) (omega arith) h (mark-keeps (flag_of x (AHTINU + ch)) x ch i e (omega arith) h o)

-- a channel of the adaptive hybrid transform is marked, and coupling with a channel that is coupled
channel-read : (n ch : ℕ) (y : List ℕ) → length y ≡ 1024 → n ≤ 5 → ch < n → flag_of y (AHTINU + ch) ≡ true → cell_of (each_of read_of n y) (AHT_READ + ch) ≡ 1
unfolding each_of
channel-read zero ch y e k h f = absurd (let z : ⊥ = omega arith in z)
channel-read (suc n) ch y e k h f = go (ℕ_discrete ch n) (λ o. channel-read n ch y e (omega arith) o f)
  where
    x : List ℕ
    x = each_of read_of n y

    here : ch ≡ n → cell_of (read_of n x) (AHT_READ + n) ≡ 1
    here z =
        let u = marked_in (flag_of x (AHTINU + n)) (AHT_READ + n) x in
        let b : flag_of x (AHTINU + n) ≡ true = ap (λ v. eqb v 1) (reads-each n y (AHTINU + n) (omega arith) (omega arith) (inl (omega arith))) ∙ subst (λ c. flag_of y (AHTINU + c) ≡ true) z f in
        mark-keeps (coupled_in u n && flag_of u (AHTINU + 5)) u 5 n (mark-sized (flag_of x (AHTINU + n)) x (AHT_READ + n) (reads_sized n y e)) (omega arith) (omega arith)
        (mark-sets (flag_of x (AHTINU + n)) x n (reads_sized n y e) (omega arith) b)

    go : Dec (ch ≡ n) → (ch < n → cell_of x (AHT_READ + ch) ≡ 1) → cell_of (read_of n x) (AHT_READ + ch) ≡ 1
    go (yes z) r = subst (λ c. cell_of (read_of n x) (AHT_READ + c) ≡ 1) (sym z) (here z)
    go (no z) r = read_keeps n ch x (reads_sized n y e) (omega arith) (omega arith) (r (omega arith))

coupling-read : (n ch : ℕ) (y : List ℕ) → length y ≡ 1024 → n ≤ 5 → ch < n → coupled_in y ch ≡ true → flag_of y (AHTINU + 5) ≡ true → cell_of (each_of read_of n y) (AHT_READ + 5) ≡ 1
unfolding each_of
coupling-read zero ch y e k h f g = absurd (let z : ⊥ = omega arith in z)
coupling-read (suc n) ch y e k h f g = go (ℕ_discrete ch n) (λ o. coupling-read n ch y e (omega arith) o f g)
  where
    x : List ℕ
    x = each_of read_of n y

    u : List ℕ
    u = marked_in (flag_of x (AHTINU + n)) (AHT_READ + n) x

    same : (c : ℕ) → c < 1024 → Apart c → cell_of u c ≡ cell_of y c
    same c b o = marks (flag_of x (AHTINU + n)) x n c (omega arith) b o ∙ reads-each n y c (omega arith) b o

    here : coupled_in y n ≡ true → cell_of (read_of n x) (AHT_READ + 5) ≡ 1
    here f =
        let a : coupled_in u n ≡ true = ap (λ v. eqb v 1 && flag_of u (CHINCPL + n)) (same CPLINU (omega arith) (inr (omega arith))) ∙ ap (λ v. flag_of y CPLINU && eqb v 1) (same (CHINCPL + n) (omega arith) (inr (omega arith))) ∙ f in
        let b : flag_of u (AHTINU + 5) ≡ true = ap (λ v. eqb v 1) (same (AHTINU + 5) (omega arith) (inl (omega arith))) ∙ g in
        mark-sets (coupled_in u n && flag_of u (AHTINU + 5)) u 5 (mark-sized (flag_of x (AHTINU + n)) x (AHT_READ + n) (reads_sized n y e)) (omega arith) (and-true (coupled_in u n) (flag_of u (AHTINU + 5)) a b)

    go : Dec (ch ≡ n) → (ch < n → cell_of x (AHT_READ + 5) ≡ 1) → cell_of (read_of n x) (AHT_READ + 5) ≡ 1
    go (yes z) r = here (subst (λ c. coupled_in y c ≡ true) z f)
    go (no z) r = read_keeps n 5 x (reads_sized n y e) (omega arith) (omega arith) (r (omega arith))

-- one of the first n channels is coupled, or none
coupled-or-none : (m : List ℕ) (n : ℕ) → ((ch : ℕ) × ((ch < n) × (coupled_in m ch ≡ true))) ⊎ ((ch : ℕ) → ch < n → coupled_in m ch ≡ false)
coupled-or-none m zero = inr (λ ch k. absurd (let z : ⊥ = omega arith in z))
coupled-or-none m (suc n) = go (coupled_in m n) refl (coupled-or-none m n)
  where
    last : {ch : ℕ} → Dec (ch ≡ n) → coupled_in m n ≡ false → ((ch : ℕ) → ch < n → coupled_in m ch ≡ false) → ch < suc n → coupled_in m ch ≡ false
    last (yes z) e r k = subst (λ c. coupled_in m c ≡ false) (sym z) e
    last {ch} (no z) e r k = r ch (omega arith)

    go : (c : Bool) → coupled_in m n ≡ c → ((ch : ℕ) × ((ch < n) × (coupled_in m ch ≡ true))) ⊎ ((ch : ℕ) → ch < n → coupled_in m ch ≡ false)
        → ((ch : ℕ) × ((ch < suc n) × (coupled_in m ch ≡ true))) ⊎ ((ch : ℕ) → ch < suc n → coupled_in m ch ≡ false)
    go true e r = inl (n, (omega arith, e))
    go false e (inl r) = inl (r.0, (let z = r.1.0 in omega arith, r.1.1))
    go false e (inr r) = inr (λ ch k. last (ℕ_discrete ch n) e r k)

-- the marks after the mantissas of a block
abbrev pub all_read : ℕ → List ℕ → List ℕ
all_read n y = let z = each_of read_of n y in marked_in (flag_of z LFEON && flag_of z (AHTINU + 6)) (AHT_READ + 6) z

pub all_keep : (n i : ℕ) (y : List ℕ) → length y ≡ 1024 → n ≤ 5 → i ≤ 6 → cell_of y (AHT_READ + i) ≡ 1 → cell_of (all_read n y) (AHT_READ + i) ≡ 1
all_keep n i y e k h o =
    let z = each_of read_of n y in
    mark-keeps (flag_of z LFEON && flag_of z (AHTINU + 6)) z 6 i (reads_sized n y e) (omega arith) h
    (each_within (λ x. (length x ≡ 1024) × (cell_of x (AHT_READ + i) ≡ 1)) read_of n y (λ ch x j p. (read-sized ch x p.0, read_keeps ch i x p.0 (omega arith) h p.1)) (e, o)).1

-- a slot of the adaptive hybrid transform that takes bits is marked
module _ (m y : List ℕ) (f : ℕ → ℕ) (sized : length y ≡ 1024) (same : (c : ℕ) → 0 < c → c < TAGS → cell_of y c ≡ cell_of m c) (u : Unused m f) where
  z : List ℕ
  z = each_of read_of (channels_of m) y

  flag : (c : ℕ) → 0 < c → c < AHT_READ → flag_of m c ≡ true → flag_of y c ≡ true
  flag c o k e = ap (λ n. eqb n 1) (same c o (omega arith)) ∙ e

  over : (i : ℕ) → i ≤ 6 → cell_of z (AHT_READ + i) ≡ 1 → cell_of (all_read (channels_of m) y) (AHT_READ + i) ≡ 1
  unfolding z
  over i h o = mark-keeps (flag_of z LFEON && flag_of z (AHTINU + 6)) z 6 i (reads_sized (channels_of m) y sized) (omega arith) h o

  channel-marked : (ch : ℕ) → ch < 5 → flag_of m (AHTINU + ch) ≡ true → 0 < f ch → cell_of (all_read (channels_of m) y) (AHT_READ + ch) ≡ 1
  unfolding z
  channel-marked ch k e t = go (dec_lt ch (channels_of m))
    where
      go : Dec (ch < channels_of m) → cell_of (all_read (channels_of m) y) (AHT_READ + ch) ≡ 1
      go (yes h) = over ch (omega arith) (channel-read (channels_of m) ch y sized (omega arith) h (flag (AHTINU + ch) (omega arith) (omega arith) e))
      go (no h) = absurd (let n = u.channels ch (omega arith) k in let o : ⊥ = omega arith in o)

  coupling-marked : flag_of m (AHTINU + 5) ≡ true → 0 < f CPL → cell_of (all_read (channels_of m) y) (AHT_READ + 5) ≡ 1
  unfolding z
  coupling-marked e t = go (coupled-or-none m (channels_of m))
    where
      go : ((ch : ℕ) × ((ch < channels_of m) × (coupled_in m ch ≡ true))) ⊎ ((ch : ℕ) → ch < channels_of m → coupled_in m ch ≡ false) → cell_of (all_read (channels_of m) y) (AHT_READ + 5) ≡ 1
      go (inl r) =
          let ch = r.0 in
          let k = r.1.0 in
          let c : coupled_in y ch ≡ true = ap (λ n. eqb n 1 && flag_of y (CHINCPL + ch)) (same CPLINU (omega arith) (omega arith)) ∙ ap (λ n. flag_of m CPLINU && eqb n 1) (same (CHINCPL + ch) (omega arith) (omega arith)) ∙ r.1.1 in
          over 5 (omega arith) (coupling-read (channels_of m) ch y sized (omega arith) k c (flag (AHTINU + 5) (omega arith) (omega arith) e))
      go (inr r) = absurd (let n = u.uncoupled r in let o : ⊥ = omega arith in o)

  lfe-marked : flag_of m (AHTINU + 6) ≡ true → 0 < f LFE → cell_of (all_read (channels_of m) y) (AHT_READ + 6) ≡ 1
  unfolding z
  lfe-marked e t = go (flag_of m LFEON) refl
    where
      on : (c : ℕ) → 0 < c → c < AHT_READ → flag_of m c ≡ true → flag_of z c ≡ true
      on c o k h = ap (λ n. eqb n 1) (reads-each (channels_of m) y c (omega arith) (omega arith) (inl k)) ∙ flag c o k h

      go : (b : Bool) → flag_of m LFEON ≡ b → cell_of (all_read (channels_of m) y) (AHT_READ + 6) ≡ 1
      go true h =
          mark-sets (flag_of z LFEON && flag_of z (AHTINU + 6)) z 6 (reads_sized (channels_of m) y sized) (omega arith)
          (and-true (flag_of z LFEON) (flag_of z (AHTINU + 6)) (on LFEON (omega arith) (omega arith) h) (on (AHTINU + 6) (omega arith) (omega arith) e))
      go false h = absurd (let n = u.lfe h in let o : ⊥ = omega arith in o)

  pub taken-marked : (slot : ℕ) → slot < 7 → flag_of m (AHTINU + slot) ≡ true → 0 < f slot → cell_of (all_read (channels_of m) y) (AHT_READ + slot) ≡ 1
  taken-marked slot k e t = go (dec_lt slot 5) (ℕ_discrete slot 5) (ℕ_discrete slot 6)
    where
      go : Dec (slot < 5) → Dec (slot ≡ 5) → Dec (slot ≡ 6) → cell_of (all_read (channels_of m) y) (AHT_READ + slot) ≡ 1
      go (yes h) b c = channel-marked slot h e t
      go (no h) (yes b) c = subst (λ n. flag_of m (AHTINU + n) ≡ true → 0 < f n → cell_of (all_read (channels_of m) y) (AHT_READ + n) ≡ 1) (sym b) coupling-marked e t
      go (no h) (no b) (yes c) = subst (λ n. flag_of m (AHTINU + n) ≡ true → 0 < f n → cell_of (all_read (channels_of m) y) (AHT_READ + n) ≡ 1) (sym c) lfe-marked e t
      go (no h) (no b) (no c) = absurd (let o : ⊥ = omega arith in o)

-- of the blocks before: what is said of them stays
pub record Settled (x y : List ℕ) : Type 0 where
  pub nfchans : cell_of y NFCHANS ≡ cell_of x NFCHANS
  pub lfeon : cell_of y LFEON ≡ cell_of x LFEON
  pub cplinus : (i : ℕ) → i < 6 → cell_of y (CPLINUS + i) ≡ cell_of x (CPLINUS + i)
  pub ahtinu : (slot : ℕ) → slot < 7 → cell_of y (AHTINU + slot) ≡ cell_of x (AHTINU + slot)

pub no-bits-stay : (x y : List ℕ) (i : ℕ) → i < 6 → Settled x y → ((k slot : ℕ) → k ≤ i → slot < 7 → slot_bits y k slot ≡ slot_bits x k slot) → NoBits x i → NoBits y i
no-bits-stay x y i h s r b = record {
  channels = λ ch k o. r i ch (omega arith) (omega arith) ∙ b.channels ch (omega (arith, s.nfchans)) o;
  lfe = λ e. r i LFE (omega arith) (omega arith) ∙ b.lfe (ap (λ n. eqb n 1) (sym s.lfeon) ∙ e);
  coupling = λ e. r i CPL (omega arith) (omega arith) ∙ b.coupling (ap (λ n. eqb n 1) (sym (s.cplinus i h)) ∙ e);
  hybrid = λ slot k o l e t. r i slot (omega arith) o ∙ b.hybrid slot k o l (ap (λ n. eqb n 1) (sym (s.ahtinu slot o)) ∙ e) (let z = r k slot (omega arith) o in omega arith);
}

-- the slots of the adaptive hybrid transform that have bits in the block i are marked
pub record Marked (m : List ℕ) (i : ℕ) : Type 0 where
  pub marked : (slot : ℕ) → slot < 7 → flag_of m (AHTINU + slot) ≡ true → 0 < slot_bits m i slot → cell_of m (AHT_READ + slot) ≡ 1

pub marked-stay : (x y : List ℕ) (i : ℕ) → Settled x y → ((slot : ℕ) → slot < 7 → slot_bits y i slot ≡ slot_bits x i slot)
    → ((slot : ℕ) → slot < 7 → cell_of x (AHT_READ + slot) ≡ 1 → cell_of y (AHT_READ + slot) ≡ 1) → Marked x i → Marked y i
marked-stay x y i s r k h = record { marked = λ slot o e t. k slot o (h.marked slot o (ap (λ n. eqb n 1) (sym (s.ahtinu slot o)) ∙ e) (let z = r slot o in omega arith)) }
