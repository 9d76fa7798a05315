-- The coupling strategy and the bandwidth of a block: after them its ranges are those that a set of exponents asks for. Assumes nothing.
use mathlib.Core.Path.{◌≡◌, refl, ap, sym, ◌∙◌, subst}
use mathlib.Core.Bool.{Bool, true, false, cond, true≢false}
use mathlib.Core.List.{List, ◌∷◌}
use mathlib.Core.Logic.{inl, inr, by_cases}
use Prim.Native.Nat.{ℕ, zero, suc, ◌+◌, ◌*◌, ◌%◌, ◌≤◌, ◌<◌}
use native.Mathlib.Omega.{arith}
use native.Mathlib.Decide.{ℕ_discrete}
use lib.Dec.{eqb}
use lib.ListN.{length}
use borrow.Author.Tests.{eqb-false, leb-false, ltb-false}
use Rattle.reading.specs.Run.{Entry}
use Rattle.exponents.proofs.Unmet.{Ending, end-coupled, end-extended, end-coded}
use Rattle.cells.specs.Cells.{State, cell_of, put_in, stored, place_of, held_of}
use Rattle.cells.specs.Names.{BLK, CH, CHBWCOD, CPL_SUBND_END, CPLBEGF, CPLEND, CPLINU, CPLINUS, CPLSTRE, CPLSTRT, ENDMANT, NFCHANS, SPX_BEGIN}
use Rattle.derivations.specs.Acted.{acted}
use Rattle.sideinfo.specs.Steps.{each_of}
use Rattle.sideinfo.specs.Blocks.{coupled_in, extended_in, endmant_of, cpl_bins_by, channels_of, unknown_here, endmants_of, endmants_by}
use Rattle.derivations.specs.Derivations.{Endmants, puts as putting, endmants_in, derived}
use Rattle.rows.specs.Syntax.{Let, cell, at}
use Rattle.annex.specs.Audblk.{cpl_strategy, bandwidth}
use Rattle.cells.proofs.Cells.{put-sized}
use Rattle.bounds.specs.Bounds.{bounds, most_in, most, Within}
use Rattle.unmet.specs.Unmet.{Unmet}
use Rattle.bounds.proofs.Cells.{cell_at, cell-beside}
use Rattle.bounds.proofs.Bounds.{word, may, Changed, changed-none, changed_then, puts}
use Rattle.bounds.proofs.Derived.{fits_derived, derived-changes}
use Rattle.unmet.proofs.Exponents.{passed}
use Rattle.unmet.proofs.Leaves.{Ranges, leaves_unsent, passes, unsent-same, unsent-fewer, first_items, after_items, inner, place-cell, place_at, held-cell, is_false, skip, whole, put-by}
use Rattle.unmet.proofs.Ranges.{through_block, early, settled, Settled, Unsettled, Ranged, unsettled-stays, settled-stays, number_same, uses-same}
use Rattle.bounds.proofs.Walking.{Grows, grows-refl, grows-trans, Walks, walks_next, walks-end, walked-element, walked-when, walked-derive, walked-each}

most-here : (most CPLBEGF ≡ 15) × (most CPL_SUBND_END ≡ 18) × (most SPX_BEGIN ≡ 11) × (most NFCHANS ≡ 5) × (most CH ≡ 4) × (most BLK ≡ 5)
unfolding most most_in bounds
most-here = (refl, refl, refl, refl, refl, refl)

strategy-flags : (b : ℕ) → b ≤ 5 → most (CPLSTRE + b) ≡ 1
unfolding most most_in bounds
strategy-flags zero h = refl
strategy-flags (suc zero) h = refl
strategy-flags (suc (suc zero)) h = refl
strategy-flags (suc (suc (suc zero))) h = refl
strategy-flags (suc (suc (suc (suc zero)))) h = refl
strategy-flags (suc (suc (suc (suc (suc zero))))) h = refl
strategy-flags (suc (suc (suc (suc (suc (suc b)))))) h = absurd (let z : ⊥ = omega arith in z)

module _ (s : List ℕ) (l : ℕ) where
  -- from the state st on
  record From (rs : Ranges) (st : State) (es : List Entry) (a : State) (fs : List Entry) : Type 0 where
    changed : Changed (leaves_unsent rs) st.cells a.cells
    grows : Grows es fs

  -- the bandwidth codes stay through the coupling strategy
  codes : Ranges
  unfolding through_block
  codes = (CHBWCOD, CHBWCOD + 4) ∷ through_block

  early-codes : (x y : List ℕ) → Changed (leaves_unsent early) x y → Changed (leaves_unsent codes) x y
  unfolding early codes
  early-codes x y g = unsent-fewer _ _ x y g

  codes-coded : (x y : List ℕ) → Changed (leaves_unsent codes) x y → ((ch : ℕ) → ch < 5 → cell_of x (CHBWCOD + ch) ≤ 60) → (ch : ℕ) → ch < 5 → cell_of y (CHBWCOD + ch) ≤ 60
  unfolding codes
  codes-coded x y g c ch h = rw (unsent-same codes x y (CHBWCOD + ch) g (omega arith) (inl (omega arith, omega arith))) (c ch h)

  -- CPLINU is put, and stays
  coupled_too : Ranges
  unfolding codes
  coupled_too = (CPLINU, CPLINU) ∷ codes

  too-codes : (x y : List ℕ) → Changed (leaves_unsent coupled_too) x y → Changed (leaves_unsent codes) x y
  unfolding coupled_too
  too-codes x y g = unsent-fewer _ _ x y g

  too-settled : (x y : List ℕ) → Changed (leaves_unsent settled) x y → Changed (leaves_unsent codes) x y
  unfolding settled
  too-settled x y g = early-codes x y (unsent-fewer _ _ x y g)

  too-last : (x y : List ℕ) → Changed (leaves_unsent coupled_too) x y → cell_of x CPLINU ≡ cell_of x (CPLINUS + cell_of x BLK) → cell_of y CPLINU ≡ cell_of y (CPLINUS + cell_of y BLK)
  unfolding coupled_too codes
  too-last x y g e =
      let n : cell_of y BLK ≡ cell_of x BLK = unsent-same coupled_too x y BLK g (omega arith) (inr (inr (inl (omega arith, omega arith)))) in
      let b : cell_of y BLK ≤ 5 = omega (arith, g.within.below BLK, most-here.5) in
      unsent-same coupled_too x y CPLINU g (omega arith) (inl (omega arith, omega arith)) ∙ e ∙ ap (λ k. cell_of x (CPLINUS + k)) (sym n)
      ∙ sym (unsent-same coupled_too x y (CPLINUS + cell_of y BLK) g (omega arith) (inr (inr (inr (inr (inl (omega arith, omega arith)))))))

  pub record Strategy (st : State) (es : List Entry) (a : State) (q : ℕ) (fs : List Entry) : Type 0 where
    pub changed : Changed (leaves_unsent through_block) st.cells a.cells
    pub grows : Grows es fs
    pub settled-now : Settled a.cells

  record CoupledPut (st : State) (es : List Entry) (a : State) (q : ℕ) (fs : List Entry) : Type 0 where
    from : From early st es a fs
    last : cell_of a.cells CPLINU ≡ cell_of a.cells (CPLINUS + cell_of a.cells BLK)

  record Coupling (st : State) (es : List Entry) (a : State) (q : ℕ) (fs : List Entry) : Type 0 where
    from : From codes st es a fs
    settled-now : Settled a.cells

  codes-through : (x y : List ℕ) → Changed (leaves_unsent codes) x y → Changed (leaves_unsent through_block) x y
  unfolding codes
  codes-through x y g = unsent-fewer _ _ x y g

  -- what is settled stays
  settled_on : (st : State) (es : List Entry) (x : State) (q : ℕ) (fs : List Entry) (y : State) (r : ℕ) (gs : List Entry) → Coupling st es x q fs
      → Changed (leaves_unsent settled) x.cells y.cells → Grows fs gs → Coupling st es y r gs
  settled_on st es x q fs y r gs c g h = record {
    from = record { changed = changed_then (leaves_unsent codes) st.cells x.cells y.cells c.from.changed (too-settled x.cells y.cells g); grows = grows-trans es fs gs c.from.grows h };
    settled-now = settled-stays x.cells y.cells g c.settled-now;
  }

  pub strategy-walk : (st : State) (p : ℕ) (es : List Entry) → Within st.cells → Unsettled st.cells → Walks s l Unmet cpl_strategy st p es (Strategy st es)
  unfolding cpl_strategy first_items after_items passes settled codes coupled_too
  strategy-walk st p es w u =
      walks_next s l Unmet _ _ st p es {M = CoupledPut st es} tt
      (put-by s l (leaves_unsent early) (cell CPLINU) (Let 0 1 (at CPLINUS BLK)) refl st p es w CPLINU (cell_of m (CPLINUS + cell_of m BLK)) (place-cell CPLINU m)
      (let z = ap (cell_of m) (place_at CPLINUS BLK m) in let y : 0 + 1 * held_of (at CPLINUS BLK) m ≡ cell_of m (CPLINUS + cell_of m BLK) = omega arith in y)
      (omega arith) (omega arith) (word m (CPLINUS + cell_of m BLK) w)
      (λ y g same others.
      let b : cell_of m BLK ≤ 5 = omega (arith, w.below BLK, most-here.5) in
      record {
        from = record { changed = g; grows = grows-refl es };
        last = same ∙ ap (λ k. cell_of m (CPLINUS + k)) (sym (number_same m y.cells g)) ∙ sym (uses-same m y.cells g (CPLINUS + cell_of y.cells BLK) (omega arith) (let z = number_same m y.cells g in omega arith));
      }))
      (λ a q fs c.
      let v : Unsettled a.cells = unsettled-stays m a.cells c.from.changed u in
      walks_next s l Unmet _ _ a q fs {M = Coupling st es} tt
      (walked-when s l Unmet _ _ a q fs
      (λ _. walks_next s l Unmet _ _ a q fs {M = Coupling st es} tt
      (walked-when s l Unmet _ _ a q fs
      (λ e. skip s l (leaves_unsent coupled_too) 7 _ refl a q fs c.from.changed.within
      (λ x r gs g h. passed s l _ 22 _ x r gs g.within
      (λ d. whole s l (leaves_unsent settled) _ refl x r gs g.within
      (λ y t hs i j. settled_on st es x r gs y t hs
      (record {
        from = record {
          changed = changed_then (leaves_unsent codes) m a.cells x.cells (early-codes m a.cells c.from.changed) (too-codes a.cells x.cells g);
          grows = grows-trans es fs gs c.from.grows h;
        };
        settled-now = record {
          coded = codes-coded a.cells x.cells (too-codes a.cells x.cells g) v.coded;
          coupled = λ _. let y = leb-false (held_of (cell CPL_SUBND_END) x.cells) (held_of (cell CPLBEGF) x.cells) d in
              let f = held-cell CPL_SUBND_END x.cells in
              let k = held-cell CPLBEGF x.cells in
              omega arith;
          last = too-last a.cells x.cells g c.last;
        };
      })
      i j))))
      (λ e. not_new a q fs c v.coded (λ z. absurd (is_false CPLINU 1 a.cells e z))))
      (λ x r gs d. whole s l (leaves_unsent settled) _ refl x r gs d.from.changed.within (λ y t hs i j. settled_on st es x r gs y t hs d i j)))
      (λ e. not_new a q fs c v.coded
      (λ z. v.coupled
      (let k = CPLSTRE + cell_of a.cells BLK in
      let b : cell_of a.cells BLK ≤ 5 = omega (arith, c.from.changed.within.below BLK, most-here.5) in
      let y : cell_of a.cells k ≤ 1 = omega (arith, c.from.changed.within.below k, strategy-flags (cell_of a.cells BLK) b) in
      let x : ¬ (cell_of a.cells k ≡ 1) = λ o. eqb-false (held_of (at CPLSTRE BLK) a.cells) 1 e (ap (cell_of a.cells) (place_at CPLSTRE BLK a.cells) ∙ o) in
      (let o : cell_of a.cells k ≡ 0 = omega arith in o))
      (sym c.last ∙ z))))
      (λ x r gs d. walks-end s l Unmet x r gs (record { changed = codes-through m x.cells d.from.changed; grows = d.from.grows; settled-now = d.settled-now })))
    where
      m : List ℕ
      m = st.cells

      not_new : (a : State) (q : ℕ) (fs : List Entry) → CoupledPut st es a q fs → ((ch : ℕ) → ch < 5 → cell_of a.cells (CHBWCOD + ch) ≤ 60)
          → (cell_of a.cells CPLINU ≡ 1 → cell_of a.cells CPLBEGF < cell_of a.cells CPL_SUBND_END) → Coupling st es a q fs
      not_new a q fs c h k = record {
        from = record { changed = early-codes m a.cells c.from.changed; grows = c.from.grows };
        settled-now = record { coded = h; coupled = k; last = c.last };
      }

-- the ends that are derived: after n channels
record Ends (m : List ℕ) (n : ℕ) (x : List ℕ) : Type 0 where
  sized : length x ≡ 1024
  others : (k : ℕ) → k < 1024 → ¬ (ENDMANT ≤ k × k ≤ ENDMANT + 4) → cell_of x k ≡ cell_of (cpl_bins_by m) k
  ends : (ch : ℕ) → ch < n → Ending (cell_of x (ENDMANT + ch))

module _ (m : List ℕ) (w : Within m) (coded : (ch : ℕ) → ch < 5 → cell_of m (CHBWCOD + ch) ≤ 60) where
  bins-sized : length (cpl_bins_by m) ≡ 1024
  unfolding cpl_bins_by
  bins-sized = put-sized _ CPLEND _ ∙ put-sized m CPLSTRT _ ∙ w.sized

  bins-other : (k : ℕ) → k < 1024 → ¬ (k ≡ CPLSTRT) → ¬ (k ≡ CPLEND) → cell_of (cpl_bins_by m) k ≡ cell_of m k
  unfolding cpl_bins_by
  bins-other k b h i = cell-beside _ CPLEND _ k b (omega arith) i ∙ cell-beside m CPLSTRT _ k b (omega arith) h

  bins-start : cell_of (cpl_bins_by m) CPLSTRT ≡ 37 + 12 * cell_of m CPLBEGF
  unfolding cpl_bins_by
  bins-start =
      let b : cell_of m CPLBEGF ≤ 15 = omega (arith, w.below CPLBEGF, most-here.0) in
      cell-beside _ CPLEND _ CPLSTRT (omega arith) (omega arith) (λ z. omega arith)
      ∙ cell_at m CPLSTRT (37 + 12 * cell_of m CPLBEGF) w.sized (omega arith) (omega arith) ∙ (let z : (37 + 12 * cell_of m CPLBEGF) % 65536 ≡ 37 + 12 * cell_of m CPLBEGF = omega arith in z)

  bins-end : cell_of (cpl_bins_by m) CPLEND ≡ 37 + 12 * cell_of m CPL_SUBND_END
  unfolding cpl_bins_by
  bins-end =
      let b : cell_of m CPL_SUBND_END ≤ 18 = omega (arith, w.below CPL_SUBND_END, most-here.1) in
      cell_at _ CPLEND (37 + 12 * cell_of m CPL_SUBND_END) (put-sized m CPLSTRT _ ∙ w.sized) (omega arith) (omega arith)
      ∙ (let z : (37 + 12 * cell_of m CPL_SUBND_END) % 65536 ≡ 37 + 12 * cell_of m CPL_SUBND_END = omega arith in z)

  one_of : (P : ℕ → Type 0) (a b : Bool) (u v z : ℕ) → P u → P v → P z → P (cond a u (cond b v z))
  one_of P true b u v z h i j = h
  one_of P false true u v z h i j = i
  one_of P false false u v z h i j = j

  ending : (n : ℕ) (x : List ℕ) → n < 5 → Ends m n x → Ending (endmant_of x n)
  unfolding endmant_of
  ending n x h e =
      let start : cell_of x CPLSTRT ≡ 37 + 12 * cell_of m CPLBEGF = e.others CPLSTRT (omega arith) (λ z. omega arith) ∙ bins-start in
      let begin : cell_of x SPX_BEGIN ≡ cell_of m SPX_BEGIN = e.others SPX_BEGIN (omega arith) (λ z. omega arith) ∙ bins-other SPX_BEGIN (omega arith) (λ z. omega arith) (λ z. omega arith) in
      let code : cell_of x (CHBWCOD + n) ≡ cell_of m (CHBWCOD + n) = e.others (CHBWCOD + n) (omega arith) (λ z. omega arith) ∙ bins-other (CHBWCOD + n) (omega arith) (λ z. omega arith) (λ z. omega arith) in
      one_of Ending (coupled_in x n) (extended_in x n) (cell_of x CPLSTRT) (25 + 12 * cell_of x SPX_BEGIN) (37 + 3 * (cell_of x (CHBWCOD + n) + 12))
      (rw start (end-coupled (cell_of m CPLBEGF) (omega (arith, w.below CPLBEGF, most-here.0))))
      (rw begin (end-extended (cell_of m SPX_BEGIN) (omega (arith, w.below SPX_BEGIN, most-here.2))))
      (rw code (end-coded (cell_of m (CHBWCOD + n)) (coded n h)))

  ends-upto : (n : ℕ) → n ≤ 5 → Ends m n (endmants_of n (cpl_bins_by m))
  unfolding each_of
  ends-upto zero h = record { sized = bins-sized; others = λ k b o. refl; ends = λ ch i. absurd (let z : ⊥ = omega arith in z) }
  ends-upto (suc n) h =
      let x = endmants_of n (cpl_bins_by m) in
      let e = ends-upto n (omega arith) in
      let r = ending n x (omega arith) e in
      let v = endmant_of x n in
      record {
        sized = put-sized x (ENDMANT + n) v ∙ e.sized;
        others = λ k b o. cell-beside x (ENDMANT + n) v k b (omega arith) (λ z. o (omega arith, omega arith)) ∙ e.others k b o;
        ends = λ ch i. by_cases (ℕ_discrete ch n)
            (λ z. subst (λ k. Ending (cell_of (put_in x (ENDMANT + n) v) (ENDMANT + k))) (sym z)
            (subst Ending (sym (cell_at x (ENDMANT + n) v e.sized (omega arith) (omega arith) ∙ (let y : v % 65536 ≡ v = omega (arith, r.within) in y))) r))
            (λ z. subst Ending (sym (cell-beside x (ENDMANT + n) v (ENDMANT + ch) (omega arith) (omega arith) (λ y. omega arith))) (e.ends ch (omega arith)));
      }

  ranged-then : (cell_of m CPLINU ≡ 1 → cell_of m CPLBEGF < cell_of m CPL_SUBND_END) → Ranged (endmants_by m)
  unfolding endmants_by
  ranged-then c =
      let n : cell_of m NFCHANS ≤ 5 = omega (arith, w.below NFCHANS, most-here.3) in
      let e = ends-upto (channels_of m) (omega arith) in
      let x = endmants_of (channels_of m) (cpl_bins_by m) in
      let f : cell_of x NFCHANS ≡ cell_of m NFCHANS = e.others NFCHANS (omega arith) (λ z. omega arith) ∙ bins-other NFCHANS (omega arith) (λ z. omega arith) (λ z. omega arith) in
      let u : cell_of x CPLINU ≡ cell_of m CPLINU = e.others CPLINU (omega arith) (λ z. omega arith) ∙ bins-other CPLINU (omega arith) (λ z. omega arith) (λ z. omega arith) in
      record {
        channels = λ ch h. e.ends ch (omega arith);
        coupling = λ h. record {
          first = cell_of m CPLBEGF;
          past = cell_of m CPL_SUBND_END;
          starts = e.others CPLSTRT (omega arith) (λ z. omega arith) ∙ bins-start;
          ends = e.others CPLEND (omega arith) (λ z. omega arith) ∙ bins-end;
          some = c (sym u ∙ h);
          few = omega (arith, w.below CPL_SUBND_END, most-here.1);
        };
      }

module _ (s : List ℕ) (l : ℕ) where
  pub record Bandwidth (st : State) (es : List Entry) (a : State) (q : ℕ) (fs : List Entry) : Type 0 where
    pub changed : Changed (leaves_unsent through_block) st.cells a.cells
    pub grows : Grows es fs
    pub settled-now : Settled a.cells
    pub ranged : Ranged a.cells

  -- all that is settled but the bandwidth codes, which are sent here
  uncoded : Ranges
  unfolding through_block
  uncoded = (CPLINU, CPLINU) ∷ (CPLBEGF, CPL_SUBND_END) ∷ through_block

  uncoded-through : (x y : List ℕ) → Changed (leaves_unsent uncoded) x y → Changed (leaves_unsent through_block) x y
  unfolding uncoded
  uncoded-through x y g = unsent-fewer _ _ x y (unsent-fewer _ _ x y g)

  -- with them
  with_codes : Ranges
  unfolding uncoded
  with_codes = (CHBWCOD, CHBWCOD + 4) ∷ uncoded

  with-uncoded : (x y : List ℕ) → Changed (leaves_unsent with_codes) x y → Changed (leaves_unsent uncoded) x y
  unfolding with_codes
  with-uncoded x y g = unsent-fewer _ _ x y g

  record Sending (st : State) (es : List Entry) (j : ℕ) (a : State) (q : ℕ) (fs : List Entry) : Type 0 where
    changed : Changed (leaves_unsent uncoded) st.cells a.cells
    grows : Grows es fs
    coded : (ch : ℕ) → ch < 5 → cell_of a.cells (CHBWCOD + ch) ≤ 60

  sending-on : (st : State) (es : List Entry) (i j : ℕ) (x : State) (q : ℕ) (fs : List Entry) (y : State) (r : ℕ) (gs : List Entry) → Sending st es i x q fs
      → Changed (leaves_unsent with_codes) x.cells y.cells → Grows fs gs → Sending st es j y r gs
  unfolding with_codes
  sending-on st es i j x q fs y r gs c g h = record {
    changed = changed_then (leaves_unsent uncoded) st.cells x.cells y.cells c.changed (with-uncoded x.cells y.cells g);
    grows = grows-trans es fs gs c.grows h;
    coded = λ ch k. rw (unsent-same with_codes x.cells y.cells (CHBWCOD + ch) g (omega arith) (inl (omega arith, omega arith))) (c.coded ch k);
  }

  -- the settled facts, from before
  uncoded-settled : (st : State) (es : List Entry) (j : ℕ) (a : State) (q : ℕ) (fs : List Entry) → Sending st es j a q fs → Settled st.cells → Settled a.cells
  unfolding uncoded
  uncoded-settled st es j a q fs c u =
      let x = st.cells in
      let y = a.cells in
      let g = c.changed in
      let n : cell_of y BLK ≡ cell_of x BLK = unsent-same uncoded x y BLK g (omega arith) (inr (inr (inl (omega arith, omega arith)))) in
      let o : cell_of y CPLINU ≡ cell_of x CPLINU = unsent-same uncoded x y CPLINU g (omega arith) (inl (omega arith, omega arith)) in
      let b : cell_of y BLK ≤ 5 = omega (arith, g.within.below BLK, most-here.5) in
      record {
        coded = c.coded;
        coupled =
            rw (
              o,
              unsent-same uncoded x y CPLBEGF g (omega arith) (inr (inl (omega arith, omega arith))),
              unsent-same uncoded x y CPL_SUBND_END g (omega arith) (inr (inl (omega arith, omega arith))),
            ) u.coupled;
        last = o ∙ u.last ∙ ap (λ k. cell_of x (CPLINUS + k)) (sym n) ∙ sym (unsent-same uncoded x y (CPLINUS + cell_of y BLK) g (omega arith) (inr (inr (inr (inr (inl (omega arith, omega arith)))))));
      }

  -- one code: what it is, before the test of 60; and after it
  record Sent (x : State) (y : State) (r : ℕ) (gs : List Entry) (fs : List Entry) : Type 0 where
    changed : Changed (leaves_unsent uncoded) x.cells y.cells
    grows : Grows fs gs
    channel : cell_of y.cells CH ≡ cell_of x.cells CH
    others : (ch : ℕ) → ch < 5 → ¬ (ch ≡ cell_of x.cells CH) → cell_of y.cells (CHBWCOD + ch) ≡ cell_of x.cells (CHBWCOD + ch)

  may-code : may (leaves_unsent uncoded) CHBWCOD 4 0 63 ≡ true
  unfolding passes uncoded
  may-code = refl

  pass-sent : fits_derived (leaves_unsent with_codes) Endmants ≡ true
  unfolding passes with_codes
  pass-sent = refl

  endmants-are : (st : State) → eqb (derived Endmants st).number 0 ≡ true → (derived Endmants st).st.cells ≡ endmants_by st.cells
  unfolding derived endmants_in
  endmants-are st = go (unknown_here st.cells)
    where
      go : (c : Bool) → eqb (cond c (acted 23 st) (putting endmants_by st)).number 0 ≡ true → (cond c (acted 23 st) (putting endmants_by st)).st.cells ≡ endmants_by st.cells
      go true e = absurd (true≢false (sym e))
      go false e = refl

  code-walk : (st : State) (es : List Entry) (j : ℕ) (x : State) (q : ℕ) (fs : List Entry) → Sending st es j x q fs → Walks s l Unmet (inner (inner (inner (inner bandwidth)))) x q fs (Sending st es (suc j))
  unfolding bandwidth inner passes with_codes
  code-walk st es j x q fs c =
      let m = x.cells in
      let w = c.changed.within in
      let n : cell_of m CH ≤ 4 = omega (arith, w.below CH, most-here.4) in
      let k : place_of (at CHBWCOD CH) m ≡ CHBWCOD + cell_of m CH = place_at CHBWCOD CH m in
      walks_next s l Unmet _ _ x q fs {M = λ y r gs. Sent x y r gs fs} tt
      (walked-element s l Unmet _ _ 6 (at CHBWCOD CH) x q fs
      (λ v gs b h _. record {
        changed = puts (leaves_unsent uncoded) m (place_of (at CHBWCOD CH) m) v CHBWCOD 4 0 63 w may-code (omega arith) (omega arith) (omega arith) (omega arith);
        grows = h;
        channel = cell-beside m (place_of (at CHBWCOD CH) m) v CH (omega arith) (omega arith) (λ z. omega arith);
        others = λ ch i o. cell-beside m (place_of (at CHBWCOD CH) m) v (CHBWCOD + ch) (omega arith) (omega arith) (λ z. o (omega arith));
      }))
      (λ y r gs d. passed s l _ 10 _ y r gs d.changed.within
      (λ e. whole s l (leaves_unsent with_codes) _ refl y r gs d.changed.within
      (λ z t hs g h. sending-on st es j (suc j) y r gs z t hs
      (record {
        changed = changed_then (leaves_unsent uncoded) st.cells m y.cells c.changed d.changed;
        grows = grows-trans es fs gs c.grows d.grows;
        coded = λ ch i. by_cases (ℕ_discrete ch (cell_of m CH))
            (λ o. let f = ltb-false 60 (held_of (at CHBWCOD CH) y.cells) e in
            let a : held_of (at CHBWCOD CH) y.cells ≡ cell_of y.cells (CHBWCOD + ch) =
            ap (cell_of y.cells) (place_at CHBWCOD CH y.cells ∙ ap (λ u. CHBWCOD + u) (d.channel ∙ sym o)) in
            omega arith)
            (λ o. rw (d.others ch i o) (c.coded ch i));
      })
      g h)))

  pub bandwidth-walk : (st : State) (p : ℕ) (es : List Entry) → Within st.cells → Settled st.cells → Walks s l Unmet bandwidth st p es (Bandwidth st es)
  unfolding bandwidth inner passes uncoded with_codes
  bandwidth-walk st p es w u =
      walks_next s l Unmet _ _ st p es {M = Sending st es 0} tt
      (walked-each s l Unmet CH _ _ _ st p es (Sending st es)
      (record { changed = changed-none (leaves_unsent uncoded) st.cells w; grows = grows-refl es; coded = u.coded })
      (λ j a q fs i t.
      let n : j < 5 = let e = held-cell NFCHANS st.cells in omega (arith, w.below NFCHANS, most-here.3) in
      let g : Changed (leaves_unsent with_codes) a.cells (put_in a.cells CH j) = puts (leaves_unsent with_codes) a.cells CH j CH 0 0 4 t.changed.within may-ch (omega arith) (omega arith) (omega arith) (omega arith) in
      let c : Sending st es j (stored a CH j) q fs = sending-on st es j j a q fs (stored a CH j) q fs t g (grows-refl fs) in
      inside j (stored a CH j) q fs c)
      (λ j a q fs i t. record { changed = t.changed; grows = t.grows; coded = t.coded }))
      (λ a q fs t. walks_next s l Unmet _ _ a q fs {M = Bandwidth st es} (λ e. absurd (let z : ⊥ = omega arith in z))
      (walked-derive s l Unmet Endmants a q fs
      (λ e.
      let r = endmants-are a e in
      let v = uncoded-settled st es 0 a q fs t u in
      let d = sending-on st es 0 0 a q fs (derived Endmants a).st q fs t (derived-changes (leaves_unsent with_codes) Endmants a t.changed.within pass-sent) (grows-refl fs) in
      record {
        changed = uncoded-through st.cells (derived Endmants a).st.cells d.changed;
        grows = d.grows;
        settled-now = uncoded-settled st es 0 (derived Endmants a).st q fs d u;
        ranged = subst Ranged (sym r) (ranged-then a.cells t.changed.within v.coded v.coupled);
      }))
      (λ b r gs d. walks-end s l Unmet b r gs d))
    where
      may-ch : may (leaves_unsent with_codes) CH 0 0 4 ≡ true
      may-ch = refl

      inside : (j : ℕ) (a : State) (q : ℕ) (fs : List Entry) → Sending st es j a q fs → Walks s l Unmet (inner bandwidth) a q fs (Sending st es (suc j))
      inside j a q fs c =
          walks_next s l Unmet _ _ a q fs {M = Sending st es (suc j)} tt
          (walked-when s l Unmet _ _ a q fs
          (λ _. walks_next s l Unmet _ _ a q fs {M = Sending st es (suc j)} tt
          (walked-when s l Unmet _ _ a q fs
          (λ _. walks_next s l Unmet _ _ a q fs {M = Sending st es (suc j)} tt
          (walked-when s l Unmet _ _ a q fs (λ _. code-walk st es j a q fs c) (λ _. same c))
          (λ b r gs d. walks-end s l Unmet b r gs d))
          (λ _. same c))
          (λ b r gs d. walks-end s l Unmet b r gs d))
          (λ _. same c))
          (λ b r gs d. walks-end s l Unmet b r gs d)
        where
          same : Sending st es j a q fs → Sending st es (suc j) a q fs
          same c = record { changed = c.changed; grows = c.grows; coded = c.coded }
