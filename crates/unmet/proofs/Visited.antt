-- The mantissas of a block look at no pointers but those of the slots that are asked for, below bin 253. Assumes nothing.
use mathlib.Core.Path.{◌≡◌, refl, ap, sym, ◌∙◌, fun_ext}
use mathlib.Core.Bool.{Bool, true, false, cond, not, ◌&&◌, ◌||◌, true≢false}
use mathlib.Core.List.{List, ◌∷◌}
use Prim.Native.Nat.{ℕ, zero, suc, ◌+◌, ◌-◌, min, ◌≤◌, ◌<◌}
use native.Mathlib.Omega.{arith}
use lib.Dec.{eqb}
use lib.ListN.{get_or, set}
use borrow.Author.Tests.{ne_eqb, lt-ltb}
use Rattle.reading.specs.Tree.{Skim, stop, take, ◌>>-◌}
use Rattle.slots.specs.Slots.{CPL, LFE, pointer, range_of, used_of, read_of, requested_of}
use Rattle.slots.specs.declared.Shape.{Shape}
use Rattle.skim.specs.Counted.{counting}
use Rattle.mantissas.specs.Mantissas.{width_of, counted_of, conventional_of}
use Rattle.mantissas.specs.declared.Groups.{Groups}
use Rattle.hybrid.specs.Hybrid.{active_of, active_in, gains_of, bin_of, gain_of, next_active, bins_of, aht_of}
use Rattle.plan.specs.Plan.{Along, along, visit_of, visit_if, slots_of, mantissas_of}
use Rattle.unmet.specs.Unmet.{OnlyAskedFor}
use Rattle.bounds.proofs.Tags.{bins-most}

module _ (x y : List ℕ) (slot : ℕ) where
  -- the same pointers in n bins from the bin `bin` on
  Same : ℕ → ℕ → Type 0
  Same bin n = (k : ℕ) → bin ≤ k → k < bin + n → pointer x slot k ≡ pointer y slot k

  here : (bin n : ℕ) → Same bin (suc n) → pointer x slot bin ≡ pointer y slot bin
  unfolding Same
  here bin n h = h bin (omega arith) (omega arith)

  next : (bin n : ℕ) → Same bin (suc n) → Same (suc bin) n
  unfolding Same
  next bin n h k i j = h k (omega arith) (omega arith)

  conventional-same : (bin n : ℕ) (g : Groups) → Same bin n → conventional_of x slot bin n g ≡ conventional_of y slot bin n g
  unfolding conventional_of
  conventional-same bin zero g h = refl
  conventional-same bin (suc n) g h =
      ap (λ q. take (width_of g q) (λ _. conventional_of x slot (suc bin) n (counted_of g q))) (here bin n h)
      ∙ ap (take (width_of g (pointer y slot bin))) (fun_ext (λ _. conventional-same (suc bin) n (counted_of g (pointer y slot bin)) (next bin n h)))

  active-same : (mode bin n : ℕ) → Same bin n → active_in mode x slot bin n ≡ active_in mode y slot bin n
  unfolding active_in
  active-same mode bin zero h = refl
  active-same mode bin (suc n) h =
      ap (λ q. cond (active_of mode q) 1 0 + active_in mode x slot (suc bin) n) (here bin n h)
      ∙ ap (λ m. cond (active_of mode (pointer y slot bin)) 1 0 + m) (active-same mode (suc bin) n (next bin n h))

  bins-same : (mode : ℕ) (gains : List ℕ) (bin n k tags : ℕ) → Same bin n → bins_of mode gains x slot bin n k tags ≡ bins_of mode gains y slot bin n k tags
  unfolding bins_of
  bins-same mode gains bin zero k tags h = refl
  bins-same mode gains bin (suc n) k tags h =
      ap (λ q. bin_of q (gain_of mode gains k q) >>- (λ t. bins_of mode gains x slot (suc bin) n (next_active mode k q) (tags + t))) (here bin n h)
      ∙ ap (λ f. bin_of (pointer y slot bin) (gain_of mode gains k (pointer y slot bin)) >>- f)
      (fun_ext (λ t. bins-same mode gains (suc bin) n (next_active mode k (pointer y slot bin)) (tags + t) (next bin n h)))

  aht-same : (bin n : ℕ) → Same bin n → aht_of x slot bin n ≡ aht_of y slot bin n
  unfolding aht_of
  aht-same bin n h =
      ap (take 2)
      (fun_ext (λ mode. ap (λ m. gains_of mode m >>- (λ gains. bins_of mode gains x slot bin n 0 0)) (active-same mode bin n h)
      ∙ ap (λ f. gains_of mode (active_in mode y slot bin n) >>- f) (fun_ext (λ gains. bins-same mode gains bin n 0 0 h))))

-- the slots that are visited are among those that the block has
pub used-channel : (shape : Shape) (ch : ℕ) → ch < min shape.nfchans 5 → used_of shape ch ≡ true
unfolding used_of
used-channel shape ch h =
    let e : eqb ch CPL ≡ false = ne_eqb ch 5 (λ z. omega arith) in
    let f : eqb ch LFE ≡ false = ne_eqb ch 6 (λ z. omega arith) in
    rw (e, f) (lt-ltb ch (min shape.nfchans 5) h)

pub used-coupling : (shape : Shape) (d g : Bool) → ((shape.cplinu && d) && g) ≡ true → used_of shape CPL ≡ true
unfolding used_of
used-coupling shape d g e = go shape.cplinu e
  where
    go : (c : Bool) → ((c && d) && g) ≡ true → c ≡ true
    go true e = refl
    go false e = absurd (true≢false (sym e))

pub used-lfe : (shape : Shape) → shape.lfeon ≡ true → used_of shape LFE ≡ true
unfolding used_of
used-lfe shape e = e

module _ (shape : Shape) (x y : List ℕ) (same : (slot bin : ℕ) → slot < 7 → bin < 256 → requested_of shape slot ≡ true → pointer x slot bin ≡ pointer y slot bin) where
  visit-same : (slot : ℕ) (a : Along) → slot < 7 → used_of shape slot ≡ true → visit_of x shape slot a ≡ visit_of y shape slot a
  unfolding visit_of requested_of Same
  visit-same slot a h u = go (read_of shape slot) (get_or shape.ahtinu slot false) refl
    where
      b : ℕ
      b = (range_of shape slot).start

      n : ℕ
      n = (range_of shape slot).end - b

      asked : read_of shape slot ≡ false → requested_of shape slot ≡ true
      asked e = rw (u, e) refl

      bins : read_of shape slot ≡ false → (k : ℕ) → b ≤ k → k < b + n → pointer x slot k ≡ pointer y slot k
      bins e k i j = same slot k h (let z = bins-most shape slot in omega arith) (asked e)

      aht : List ℕ → Skim Along
      aht z = counting (aht_of z slot b n) >>- (λ t. stop (along a.groups (a.tags + t.told) (set a.bits slot t.bits)))

      conventional : List ℕ → Skim Along
      conventional z = counting (conventional_of z slot b n a.groups) >>- (λ g. stop (along g.told a.tags (set a.bits slot g.bits)))

      go : (c d : Bool) → read_of shape slot ≡ c → cond c (stop a) (cond d (aht x) (conventional x)) ≡ cond c (stop a) (cond d (aht y) (conventional y))
      go true d e = refl
      go false true e = ap (λ s. counting s >>- (λ t. stop (along a.groups (a.tags + t.told) (set a.bits slot t.bits)))) (aht-same x y slot b n (bins e))
      go false false e = ap (λ s. counting s >>- (λ g. stop (along g.told a.tags (set a.bits slot g.bits)))) (conventional-same x y slot b n a.groups (bins e))

  visit-if-same : (c : Bool) (slot : ℕ) (a : Along) → slot < 7 → (c ≡ true → used_of shape slot ≡ true) → visit_if x shape c slot a ≡ visit_if y shape c slot a
  unfolding visit_if
  visit-if-same true slot a h u = visit-same slot a h (u refl)
  visit-if-same false slot a h u = refl

  slots_same : (ch n : ℕ) (got : Bool) (a : Along) → ch + n ≡ min shape.nfchans 5 → slots_of x shape ch n got a ≡ slots_of y shape ch n got a
  unfolding slots_of
  slots_same ch zero got a h = ap (λ s. s >>- (λ a. stop (a.tags ∷ a.bits))) (visit-if-same shape.lfeon LFE a (omega arith) (used-lfe shape))
  slots_same ch (suc n) got a h =
      ap (λ s. s >>- (λ a. visit_if x shape (coupled && not got) CPL a >>- (λ a. slots_of x shape (suc ch) n (got || coupled) a))) (visit-if-same true ch a (omega arith) (λ _. used-channel shape ch (omega arith)))
      ∙ ap (λ f. visit_if y shape true ch a >>- f)
      (fun_ext (λ b. ap (λ s. s >>- (λ a. slots_of x shape (suc ch) n (got || coupled) a)) (visit-if-same (coupled && not got) CPL b (omega arith) (λ e. used-coupling shape (get_or shape.chincpl ch false) (not got) e))
      ∙ ap (λ f. visit_if y shape (coupled && not got) CPL b >>- f) (fun_ext (λ c. slots_same (suc ch) n (got || coupled) c (omega arith)))))
    where
      coupled : Bool
      coupled = shape.cplinu && get_or shape.chincpl ch false

pub only-asked-for : OnlyAskedFor
unfolding mantissas_of
only-asked-for shape x y same = slots_same shape x y same 0 (min shape.nfchans 5) false _ (omega arith)
