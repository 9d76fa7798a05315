-- Laws of the walk through a block's mantissas: one slot, one channel, the whole. Assumes nothing.
use mathlib.Core.Path.{◌≡◌, refl, ap, sym, ◌∙◌}
use mathlib.Core.Bool.{Bool, true, false, ◌&&◌, ◌||◌, not}
use mathlib.Core.List.{List, [], ◌∷◌}
use Prim.Native.Nat.{ℕ, suc, ◌+◌, ◌-◌, ◌≤◌, ◌<◌, min}
use native.Mathlib.Omega.{arith}
use lib.ListN.{get_or, set, replicate}
use Rattle.reading.specs.Tree.{Skim, stop, ◌>>-◌}
use Rattle.reading.specs.Run.{accepted, out, skim}
use Rattle.refusals.specs.declared.Refused.{Refused}
use Rattle.slots.specs.Slots.{CPL, LFE}
use Rattle.mantissas.specs.Mantissas.{conventional_of}
use Rattle.hybrid.specs.Hybrid.{aht_of}
use Rattle.skim.specs.Counted.{counted, counting}
use Rattle.skim.specs.Outcomes.{refused_at}
use Rattle.slots.specs.Slots.{range_of, read_of}
use Rattle.plan.specs.Plan.{Along, along, visit_of, visit_if, slots_of, mantissas_of}
use Rattle.mantissas.specs.declared.Groups.{Groups}
use Rattle.slots.specs.declared.Shape.{Shape}
use Rattle.slots.specs.declared.Range.{Range}
use Rattle.skim.proofs.SkimLaws.{skim-stop, bind-on, bind-off, counted-on, counted-off}

-- the mantissas of a slot, with the transform and without it
abbrev transformed : List ℕ → ℕ → Range → Skim ℕ
transformed baps slot r = aht_of baps slot r.start (r.end - r.start)

abbrev plain : List ℕ → ℕ → Range → Groups → Skim Groups
plain baps slot r g = conventional_of baps slot r.start (r.end - r.start) g

-- one slot, from the place p
module _ (baps : List ℕ) (shape : Shape) (slot : ℕ) (a : Along) (s : List ℕ) (p l : ℕ) (b : Bool) (c : b ≡ read_of shape slot) where
  pub visit-read : b ≡ true → out (accepted a) p [] ≡ skim (visit_of baps shape slot a) s p l
  unfolding visit_of
  visit-read d = sym (rw (← c, d) (skim-stop s p l a))

  module _ (d : b ≡ false) (r : Range) (e : r ≡ range_of shape slot) (x : Bool) (f : x ≡ get_or shape.ahtinu slot false) (q : ℕ) where
    module _ (g : x ≡ true) where
      aht-so : skim (visit_of baps shape slot a) s p l ≡ skim (counting (transformed baps slot r) >>- (λ t. stop (along a.groups (a.tags + t.told) (set a.bits slot t.bits)))) s p l
      unfolding visit_of
      aht-so = rw (← c, d, ← f, g, ← e)

      pub aht-on : (tags bits : ℕ) → out (accepted tags) q [] ≡ skim (transformed baps slot r) s p l → bits ≡ q - p
          → out (accepted (along a.groups (a.tags + tags) (set a.bits slot bits))) q [] ≡ skim (visit_of baps shape slot a) s p l
      aht-on tags bits i k = sym (aht-so ∙ bind-on _ s l (counting (transformed baps slot r)) p q (counted tags (q - p)) (counted-on (transformed baps slot r) s p l q tags i) ∙ skim-stop s q l _ ∙ rw k)

      pub aht-off : (z : Refused) → refused_at z ≡ skim (transformed baps slot r) s p l → refused_at z ≡ skim (visit_of baps shape slot a) s p l
      aht-off z i = sym (aht-so ∙ bind-off _ s l (counting (transformed baps slot r)) p _ _ (counted-off (transformed baps slot r) s p l _ _ i))

    module _ (g : x ≡ false) where
      plain-so : skim (visit_of baps shape slot a) s p l ≡ skim (counting (plain baps slot r a.groups) >>- (λ g. stop (along g.told a.tags (set a.bits slot g.bits)))) s p l
      unfolding visit_of
      plain-so = rw (← c, d, ← f, g, ← e)

      pub conventional-on : (groups : Groups) (bits : ℕ) → out (accepted groups) q [] ≡ skim (plain baps slot r a.groups) s p l → bits ≡ q - p
          → out (accepted (along groups a.tags (set a.bits slot bits))) q [] ≡ skim (visit_of baps shape slot a) s p l
      conventional-on groups bits i k = sym (plain-so ∙ bind-on _ s l (counting (plain baps slot r a.groups)) p q (counted groups (q - p)) (counted-on (plain baps slot r a.groups) s p l q groups i) ∙ skim-stop s q l _ ∙ rw k)

      pub conventional-off : (z : Refused) → refused_at z ≡ skim (plain baps slot r a.groups) s p l → refused_at z ≡ skim (visit_of baps shape slot a) s p l
      conventional-off z i = sym (plain-so ∙ bind-off _ s l (counting (plain baps slot r a.groups)) p _ _ (counted-off (plain baps slot r a.groups) s p l _ _ i))

-- the channels, ch of n passed
module _ (baps : List ℕ) (shape : Shape) (s : List ℕ) (l n ch : ℕ) (got : Bool) (a : Along) (p : ℕ) where
  abbrev coupling : Bool → Bool → Along → Skim (List ℕ)
  coupling w got' = λ a. visit_if baps shape w CPL a >>- (λ a. slots_of baps shape (ch + 1) (n - (ch + 1)) got' a)

  module _ (h : ch < n) (c : Bool) (d : c ≡ shape.cplinu && get_or shape.chincpl ch false) where
    spread : slots_of baps shape ch (n - ch) got a
        ≡ visit_if baps shape true ch a >>- (λ a. visit_if baps shape (c && not got) CPL a >>- (λ a. slots_of baps shape (ch + 1) (n - (ch + 1)) (got || c) a))
    unfolding slots_of
    spread =
        let q : n - ch ≡ suc (n - (ch + 1)) = omega arith in
        let r : ch + 1 ≡ suc ch = omega arith in
        rw (q, d, r)

    opened : skim (slots_of baps shape ch (n - ch) got a) s p l ≡ skim (visit_of baps shape ch a >>- coupling (c && not got) (got || c)) s p l
    unfolding visit_if
    opened = ap (λ x. skim x s p l) spread

    pub channel-off : (z : Refused) → refused_at z ≡ skim (visit_of baps shape ch a) s p l → refused_at z ≡ skim (slots_of baps shape ch (n - ch) got a) s p l
    channel-off z i = sym (opened ∙ bind-off _ s l (visit_of baps shape ch a) p _ _ i)

    module _ (b : Along) (q : ℕ) (i : out (accepted b) q [] ≡ skim (visit_of baps shape ch a) s p l) where
      channel-on : skim (slots_of baps shape ch (n - ch) got a) s p l ≡ skim (coupling (c && not got) (got || c) b) s q l
      channel-on = opened ∙ bind-on _ s l (visit_of baps shape ch a) p q b i

      pub alone-on : c && not got ≡ false → skim (slots_of baps shape ch (n - ch) got a) s p l ≡ skim (slots_of baps shape (ch + 1) (n - (ch + 1)) got b) s q l
      unfolding visit_if
      alone-on w = channel-on ∙ rw (w, still c got w) (bind-on _ s l (stop b) q q b (sym (skim-stop s q l b)))
        where
          still : (c got : Bool) → c && not got ≡ false → got || c ≡ got
          still true true w = refl
          still true false w = cc
          still false true w = refl
          still false false w = refl

      module _ (w : c ≡ true) (v : got ≡ false) where
        first : skim (slots_of baps shape ch (n - ch) got a) s p l ≡ skim (visit_of baps shape CPL b >>- (λ a. slots_of baps shape (ch + 1) (n - (ch + 1)) true a)) s q l
        unfolding visit_if
        first = channel-on ∙ rw (w, v)

        pub coupling-off : (z : Refused) → refused_at z ≡ skim (visit_of baps shape CPL b) s q l → refused_at z ≡ skim (slots_of baps shape ch (n - ch) got a) s p l
        coupling-off z j = sym (first ∙ bind-off _ s l (visit_of baps shape CPL b) q _ _ j)

        pub coupling-on : (e : Along) (o : ℕ) → out (accepted e) o [] ≡ skim (visit_of baps shape CPL b) s q l
            → skim (slots_of baps shape ch (n - ch) got a) s p l ≡ skim (slots_of baps shape (ch + 1) (n - (ch + 1)) true e) s o l
        coupling-on e o j = first ∙ bind-on _ s l (visit_of baps shape CPL b) q o e j

  module _ (h : n ≤ ch) where
    last : skim (slots_of baps shape ch (n - ch) got a) s p l ≡ skim (visit_if baps shape shape.lfeon LFE a >>- (λ a. stop (a.tags ∷ a.bits))) s p l
    unfolding slots_of
    last = let q : n - ch ≡ 0 = omega arith in rw q

    pub lfe-none : shape.lfeon ≡ false → out (accepted (a.tags ∷ a.bits)) p [] ≡ skim (slots_of baps shape ch (n - ch) got a) s p l
    unfolding visit_if
    lfe-none w = sym (last ∙ rw w (bind-on _ s l (stop a) p p a (sym (skim-stop s p l a)) ∙ skim-stop s p l _))

    module _ (w : shape.lfeon ≡ true) where
      wanted : skim (slots_of baps shape ch (n - ch) got a) s p l ≡ skim (visit_of baps shape LFE a >>- (λ a. stop (a.tags ∷ a.bits))) s p l
      unfolding visit_if
      wanted = last ∙ rw w

      pub lfe-off : (z : Refused) → refused_at z ≡ skim (visit_of baps shape LFE a) s p l → refused_at z ≡ skim (slots_of baps shape ch (n - ch) got a) s p l
      lfe-off z j = sym (wanted ∙ bind-off _ s l (visit_of baps shape LFE a) p _ _ j)

      pub lfe-on : (e : Along) (o : ℕ) → out (accepted e) o [] ≡ skim (visit_of baps shape LFE a) s p l
          → out (accepted (e.tags ∷ e.bits)) o [] ≡ skim (slots_of baps shape ch (n - ch) got a) s p l
      lfe-on e o j = sym (wanted ∙ bind-on _ s l (visit_of baps shape LFE a) p o e j ∙ skim-stop s o l _)

-- the whole, from its start
pub slots-all : (baps : List ℕ) (shape : Shape) (s : List ℕ) (l p n : ℕ) → n ≡ min shape.nfchans 5
    → skim (slots_of baps shape 0 n false (along (record { g1 = 0; g2 = 0; g4 = 0 }) 0 (replicate 7 0))) s p l ≡ skim (mantissas_of baps shape) s p l
unfolding mantissas_of
slots-all baps shape s l p n e = rw e
