-- The mantissas of a block, slot by slot (A/52 clauses 5.3.3 and E2.2.4, TS 102 366 clauses 4.3.3 and E.1.2.4).
use Rattle.std.specs.Prelude.{Bool, true, false, ◌&&◌, ◌||◌, not, cond, List, ◌∷◌, ℕ, zero, suc, ◌+◌, ◌-◌, min, get_or, set, replicate}
use Rattle.reading.specs.Tree.{Skim, stop, ◌>>-◌}
use Rattle.slots.specs.Slots.{CPL, LFE, range_of, read_of}
use Rattle.skim.specs.Counted.{counting}
use Rattle.mantissas.specs.Mantissas.{conventional_of}
use Rattle.hybrid.specs.Hybrid.{aht_of}
use Rattle.mantissas.specs.declared.Groups.{Groups}
use Rattle.slots.specs.declared.Shape.{Shape}

-- what runs through a block: the counts of grouped mantissas, the tags, and the bits that each slot took
pub record Along : Type 0 where
  pub groups : Groups
  pub tags : ℕ
  pub bits : List ℕ

abbrev pub along : Groups → ℕ → List ℕ → Along
along g tags bits = record { groups = g; tags = tags; bits = bits }

module _ (baps : List ℕ) (shape : Shape) where
  -- the mantissas of a slot. A group counts for the slot that opens it, where its bits are read
  unfoldable pub visit_of : ℕ → Along → Skim Along
  visit_of slot a =
      let start = (range_of shape slot).start in
      let n = (range_of shape slot).end - start in
      cond (read_of shape slot) (stop a)
      (cond (get_or shape.ahtinu slot false)
      (counting (aht_of baps slot start n) >>- (λ t. stop (along a.groups (a.tags + t.told) (set a.bits slot t.bits))))
      (counting (conventional_of baps slot start n a.groups) >>- (λ g. stop (along g.told a.tags (set a.bits slot g.bits)))))

  unfoldable pub visit_if : Bool → ℕ → Along → Skim Along
  visit_if wanted slot a = cond wanted (visit_of slot a) (stop a)

  -- n channels from the channel ch on, then the LFE channel; the coupling channel follows the first channel that is coupled.
  -- In the end it tells how many tags there were, and the bits of each slot
  unfoldable pub slots_of : ℕ → ℕ → Bool → Along → Skim (List ℕ)
  slots_of ch zero got a = visit_if shape.lfeon LFE a >>- (λ a. stop (a.tags ∷ a.bits))
  slots_of ch (suc n) got a =
      let coupled = shape.cplinu && get_or shape.chincpl ch false in
      visit_if true ch a
      >>- (λ a. visit_if (coupled && not got) CPL a >>- (λ a. slots_of (suc ch) n (got || coupled) a))

  -- all of a block: its groups start afresh; a slot that is not read takes no bits
  unfoldable pub mantissas_of : Skim (List ℕ)
  mantissas_of = slots_of 0 (min shape.nfchans 5) false (along (record { g1 = 0; g2 = 0; g4 = 0 }) 0 (replicate 7 0))
