-- The slots that take no bits in the walk through a block's mantissas. Assumes nothing.
use mathlib.Core.Path.{◌≡◌, refl, sym, ◌∙◌, subst}
use mathlib.Core.Bool.{Bool, true, false, true≢false, cond, not, ◌&&◌, ◌||◌}
use mathlib.Core.List.{List}
use Prim.Native.Nat.{ℕ, zero, suc, ◌+◌, min, ◌≤◌, ◌<◌}
use native.Mathlib.Omega.{arith}
use lib.ListN.{get_or, set, get_or-replicate}
use lib.Seq.{get_or-set_other}
use Rattle.reading.specs.Tree.{Skim}
use Rattle.slots.specs.Slots.{CPL, LFE, used_of, read_of, requested_of}
use Rattle.slots.specs.declared.Shape.{Shape}
use Rattle.skim.specs.Counted.{counting}
use Rattle.mantissas.specs.Mantissas.{conventional_of}
use Rattle.hybrid.specs.Hybrid.{aht_of}
use Rattle.plan.specs.Plan.{Along, visit_of, visit_if, slots_of, mantissas_of}
use Rattle.derivations.specs.Mantissas.{mantissas_in}
use Rattle.bounds.proofs.Bounds.{both}
use Rattle.bounds.proofs.Tags.{Tells, tells-skim, tells-bind, tells-if, tells-any}
use Rattle.unmet.proofs.Visited.{used-channel, used-coupling, used-lfe}
use Rattle.slot_sums.specs.NoBits.{bits_told, coupled_of, UnaskedTakeNone}

tells-when : {A : Type 0} (P : A → Type 0) (c : Bool) (s t : Skim A) → (c ≡ true → Tells P s) → (c ≡ false → Tells P t) → Tells P (cond c s t)
tells-when P true s t h k = h refl
tells-when P false s t h k = k refl

module _ (baps : List ℕ) (shape : Shape) (slot : ℕ) where
  abbrev None : Along → Type 0
  None a = get_or a.bits slot 0 ≡ 0

  -- a visit to another slot, or to this one where it was read before
  none-visit : (k : ℕ) (a : Along) → (k ≡ slot → read_of shape k ≡ true) → None a → Tells None (visit_of baps shape k a)
  unfolding visit_of
  none-visit k a r h =
      tells-when None (read_of shape k) _ _ (λ _. h)
      (λ e. tells-if None (get_or shape.ahtinu k false) _ _
      (tells-bind (λ _. Unit {0}) None (counting (aht_of baps k _ _)) _ (tells-any (counting (aht_of baps k _ _))) (λ t _. other e t.bits))
      (tells-bind (λ _. Unit {0}) None (counting (conventional_of baps k _ _ a.groups)) _ (tells-any (counting (conventional_of baps k _ _ a.groups))) (λ g _. other e g.bits)))
    where
      other : read_of shape k ≡ false → (v : ℕ) → get_or (set a.bits k v) slot 0 ≡ 0
      other e v = get_or-set_other a.bits k slot v 0 (λ z. true≢false (sym (r (sym z)) ∙ e)) ∙ h

  none-if : (c : Bool) (k : ℕ) (a : Along) → (c ≡ true → k ≡ slot → read_of shape k ≡ true) → None a → Tells None (visit_if baps shape c k a)
  unfolding visit_if
  none-if true k a r h = none-visit k a (r refl) h
  none-if false k a r h = h

  -- where the walk comes to the slot, it was read before
  record Passed : Type 0 where
    channel : (ch : ℕ) → ch < min shape.nfchans 5 → ch ≡ slot → read_of shape ch ≡ true
    coupling : (ch : ℕ) → ch < min shape.nfchans 5 → coupled_of shape ch ≡ true → CPL ≡ slot → read_of shape CPL ≡ true
    lfe : shape.lfeon ≡ true → LFE ≡ slot → read_of shape LFE ≡ true

  none-slots : Passed → (ch n : ℕ) (got : Bool) (a : Along) → ch + n ≤ min shape.nfchans 5 → None a → Tells (λ v. bits_told v slot ≡ 0) (slots_of baps shape ch n got a)
  unfolding slots_of
  none-slots c ch zero got a k h = tells-bind None (λ v. bits_told v slot ≡ 0) (visit_if baps shape shape.lfeon LFE a) _ (none-if shape.lfeon LFE a c.lfe h) (λ b e. e)
  none-slots c ch (suc n) got a k h =
      tells-bind None (λ v. bits_told v slot ≡ 0) (visit_if baps shape true ch a) _ (none-if true ch a (λ _. c.channel ch (omega arith)) h)
      (λ b i. tells-bind None (λ v. bits_told v slot ≡ 0) (visit_if baps shape (coupled_of shape ch && not got) CPL b) _
      (none-if (coupled_of shape ch && not got) CPL b (λ e. c.coupling ch (omega arith) (both (coupled_of shape ch) (not got) e).0) i)
      (λ d j. none-slots c (suc ch) n (got || coupled_of shape ch) d (omega arith) j))

  none-block : Passed → slot < 7 → Tells (λ v. bits_told v slot ≡ 0) (mantissas_of baps shape)
  unfolding mantissas_of
  none-block c k = none-slots c 0 (min shape.nfchans 5) false _ (omega arith) (get_or-replicate {A = ℕ} 7 slot 0 0 k)

  -- it is not asked for
  unasked-passed : requested_of shape slot ≡ false → Passed
  unfolding requested_of
  unasked-passed e = record {
    channel = λ ch k z. read ch z (used-channel shape ch k);
    coupling = λ ch k t z. read CPL z (used-coupling shape (get_or shape.chincpl ch false) true (also (coupled_of shape ch) t));
    lfe = λ t z. read LFE z (used-lfe shape t);
  }
    where
      go : (u r : Bool) → (u && not r) ≡ false → u ≡ true → r ≡ true
      go u true h k = refl
      go true false h k = absurd (true≢false h)
      go false false h k = k

      read : (k : ℕ) → k ≡ slot → used_of shape k ≡ true → read_of shape k ≡ true
      read k z u = go (used_of shape k) (read_of shape k) (subst (λ i. (used_of shape i && not (read_of shape i)) ≡ false) (sym z) e) u

      also : (c : Bool) → c ≡ true → (c && true) ≡ true
      also true h = refl
      also false h = h

-- coupling, where no channel is coupled
uncoupled-passed : (shape : Shape) → ((ch : ℕ) → ch < min shape.nfchans 5 → coupled_of shape ch ≡ false) → (baps : List ℕ) → Passed baps shape CPL
uncoupled-passed shape h baps = record {
  channel = λ ch k z. absurd (let o : ⊥ = omega arith in o);
  coupling = λ ch k t z. absurd (true≢false (sym t ∙ h ch (omega arith)));
  lfe = λ t z. absurd (let o : ⊥ = omega arith in o);
}

pub unasked-take-none : UnaskedTakeNone
unfolding mantissas_in
unasked-take-none st s p l v e = record {
  unasked = λ slot k r. tells-skim (λ v. bits_told v slot ≡ 0) (mantissas_in st) (none-block st.bins.baps _ slot (unasked-passed st.bins.baps _ slot r) k) s p l v e;
  uncoupled = λ h. tells-skim (λ v. bits_told v CPL ≡ 0) (mantissas_in st) (none-block st.bins.baps _ CPL (uncoupled-passed _ h st.bins.baps) (omega arith)) s p l v e;
}
