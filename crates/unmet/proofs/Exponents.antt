-- After the exponents of a block those that are held end where the ranges end. Assumes nothing.
use mathlib.Core.Path.{◌≡◌, refl, ap, sym, ◌∙◌, subst}
use mathlib.Core.Bool.{true, false, not, ◌&&◌}
use mathlib.Core.List.{List, ◌∷◌}
use mathlib.Core.Logic.{◌⊎◌, inl, inr, by_cases}
use Prim.Native.Nat.{ℕ, suc, ◌+◌, ◌*◌, ◌%◌, ◌≤◌, ◌<◌}
use native.Mathlib.Omega.{arith}
use native.Mathlib.Decide.{ℕ_discrete}
use lib.Dec.{leb}
use Rattle.reading.specs.Run.{Entry}
use Rattle.exponents.proofs.Unmet.{Ending}
use Rattle.cells.specs.Cells.{State, cell_of, put_in, stored, place_of, held_of}
use Rattle.cells.specs.Names.{BLK, CH, CHEXPSTR, CPLEND, CPLEXPSTR, CPLINU, CPLSTRT, ENDMANT, HELDEND, HELDSTRT, LFEON, NFCHANS, SNROFFSTSTR}
use Rattle.rows.specs.Syntax.{Cond, Block, ◌⨾◌, reject, cell, at, at2, holds_of}
use Rattle.annex.specs.Audblk.{exponents_of_block}
use Rattle.bounds.specs.Along.{Point}
use Rattle.bounds.specs.Bounds.{bounds, most_in, most, Within}
use Rattle.unmet.specs.Unmet.{Channels, Coupling, Lfe, SetFits, Unmet}
use Rattle.bounds.proofs.Cells.{cell-zero, cell_at}
use Rattle.bounds.proofs.Bounds.{both, word, may, Changed, changed-more, changed-none, changed_then, puts}
use Rattle.unmet.proofs.Leaves.{Ranges, outside, leaves, leaves_unsent, passes, leaves-same, unsent-same, unsent-leaves, unsent-fewer, first_items, after_items, inner, place_at, held-cell, picked-true, is_true, is_false, differs_false, by-bounds, parts, skip, put-by, copy-by, number_by, set-by, either}
use Rattle.unmet.proofs.Ranges.{through_block, through_exponents, exponents-settled, settled-through, Ranged, nfchans-same, lfeon-same, cplinu-same, ends_same, ranged-stays, new-coupling, new-channel, set-channel, set-coupling, set-lfe}
use Rattle.bounds.proofs.Walking.{Grows, grows-refl, grows-trans, Walks, walks_next, walks-end, walks-map, walked-when, walked-reject, walked-each}

-- what is left after the exponents of a block: what they leave, and the ends of the exponents that are held
unfoldable pub after_exponents : Ranges
unfolding through_exponents
after_exponents = (HELDSTRT, HELDEND + 6) ∷ through_exponents

pub after-exponents : (x y : List ℕ) → Changed (leaves_unsent after_exponents) x y → Changed (leaves_unsent through_exponents) x y
unfolding after_exponents
after-exponents x y g = unsent-fewer _ _ x y g

pub exponents-through : (x y : List ℕ) → Changed (leaves_unsent through_exponents) x y → Changed (leaves_unsent through_block) x y
exponents-through x y g = settled-through x y (exponents-settled x y g)

pub after-through : (x y : List ℕ) → Changed (leaves_unsent after_exponents) x y → Changed (leaves_unsent through_block) x y
after-through x y g = exponents-through x y (after-exponents x y g)

pub blk-same : (x y : List ℕ) → Changed (leaves through_block) x y → cell_of y BLK ≡ cell_of x BLK
unfolding through_block
blk-same x y g = leaves-same through_block x y BLK g (omega arith) (inl (omega arith, omega arith))

pub str-same : (x y : List ℕ) → Changed (leaves through_block) x y → cell_of y SNROFFSTSTR ≡ cell_of x SNROFFSTSTR
unfolding through_block
str-same x y g = leaves-same through_block x y SNROFFSTSTR g (omega arith) (inr (inl (omega arith, omega arith)))

-- what is held
module _ (x y : List ℕ) (g : Changed (leaves after_exponents) x y) where
  pub fewer : Changed (leaves through_exponents) x y
  unfolding after_exponents leaves outside
  fewer = changed-more (leaves after_exponents) (leaves through_exponents) (λ j a z h. (both (not (leb HELDSTRT j && leb j (HELDEND + 6))) (outside through_exponents j) h).1) x y g

  held_same : (j : ℕ) → HELDSTRT ≤ j → j ≤ HELDEND + 6 → cell_of y j ≡ cell_of x j
  unfolding after_exponents
  held_same j h k = leaves-same after_exponents x y j g (omega arith) (inl (h, k))

nfchans-most : most NFCHANS ≡ 5
unfolding most most_in bounds
nfchans-most = refl

-- what was shown of them stays
module _ (x y : List ℕ) (g : Changed (leaves after_exponents) x y) where
  pub coupling-stays : Coupling x → Coupling y
  coupling-stays c =
      rw (
        cplinu-same x y (fewer x y g),
        ends_same x y (fewer x y g) CPLSTRT (omega arith) (omega arith),
        ends_same x y (fewer x y g) CPLEND (omega arith) (omega arith),
        held_same x y g HELDSTRT (omega arith) (omega arith),
        held_same x y g (HELDEND + 5) (omega arith) (omega arith),
      ) c

  pub channels-stay : Channels x → Channels y
  channels-stay c ch h =
      let n : cell_of y NFCHANS ≤ 5 = omega (arith, g.within.below NFCHANS, nfchans-most) in
      let e = nfchans-same x y (fewer x y g) in
      held_same x y g (HELDEND + ch) (omega arith) (omega arith) ∙ c ch (omega arith) ∙ sym (ends_same x y (fewer x y g) (ENDMANT + ch) (omega arith) (omega arith))

  pub lfe-stays : Lfe x → Lfe y
  lfe-stays c = rw (lfeon-same x y (fewer x y g), held_same x y g (HELDEND + 6) (omega arith) (omega arith)) c

module _ (s : List ℕ) (l : ℕ) where
  -- from the state st on
  pub record Since (st : State) (es : List Entry) (a : State) (fs : List Entry) : Type 0 where
    pub changed : Changed (leaves_unsent through_exponents) st.cells a.cells
    pub grows : Grows es fs

  since-start : (st : State) (es : List Entry) → Within st.cells → Since st es st es
  since-start st es w = record { changed = changed-none (leaves_unsent through_exponents) st.cells w; grows = grows-refl es }

  since-then : (st : State) (es : List Entry) (a : State) (fs : List Entry) (b : State) (gs : List Entry) → Since st es a fs → Changed (leaves_unsent through_exponents) a.cells b.cells → Grows fs gs
      → Since st es b gs
  since-then st es a fs b gs c g h = record {
    changed = changed_then (leaves_unsent through_exponents) st.cells a.cells b.cells c.changed g;
    grows = grows-trans es fs gs c.grows h;
  }

  -- rejections that are passed change nothing
  pub passed : (c : Cond) (n : ℕ) (b : Block) (st : State) (p : ℕ) (es : List Entry) {R : Point} → Within st.cells → (holds_of c st.cells ≡ false → Walks s l Unmet b st p es R)
      → Walks s l Unmet (reject c n ⨾ b) st p es R
  passed c n b st p es {R} w h =
      walks_next s l Unmet (reject c n) b st p es {M = λ a q fs. Walks s l Unmet b a q fs R} (by-bounds (reject c n) st p es refl w) (walked-reject s l Unmet c n st p es h) (λ a q fs r. r)

  -- the coupling channel; its first bin alone
  record Coupled (st : State) (es : List Entry) (a : State) (q : ℕ) (fs : List Entry) : Type 0 where
    since : Since st es a fs
    coupling : Coupling a.cells

  record Begun (st : State) (es : List Entry) (y : State) (r : ℕ) (gs : List Entry) : Type 0 where
    since : Since st es y gs
    begins : cell_of y.cells HELDSTRT ≡ cell_of y.cells CPLSTRT

  coupled : (st : State) (p : ℕ) (es : List Entry) → Within st.cells → Ranged st.cells → Walks s l Unmet (first_items 1 exponents_of_block) st p es (Coupled st es)
  unfolding exponents_of_block first_items after_items passes after_exponents
  coupled st p es w ranged =
      walks_next s l Unmet _ _ st p es {M = Coupled st es} tt
      (walked-when s l Unmet _ _ st p es
      (λ e. either s l _ _ _ st p es
      (λ n. skip s l (leaves_unsent after_exponents) 1 _ refl st p es w
      (λ x u ds f i.
      let k = fewer st.cells x.cells (unsent-leaves after_exponents st.cells x.cells f) in
      let o : ¬ (cell_of st.cells (CPLEXPSTR + cell_of st.cells BLK) ≡ 0) = λ z. picked-true (at CPLEXPSTR BLK) 0 st.cells n (ap (cell_of st.cells) (place_at CPLEXPSTR BLK st.cells) ∙ z) in
      set-by s l _ _ _ _ x u ds
      (subst (SetFits x.cells) (let z : 5 ≡ (5 + cell_of x.cells 0) % 256 = omega (arith, cell-zero x.cells) in z)
      (set-coupling x.cells f.within ((ranged-stays st.cells x.cells k ranged).coupling (cplinu-same st.cells x.cells k ∙ is_true CPLINU 1 st.cells e)) (new-coupling st.cells x.cells k o)))
      (λ a q fs c j.
      let g : Changed (leaves_unsent after_exponents) st.cells a.cells = subst (Changed (leaves_unsent after_exponents) st.cells) c f in
      let h : Grows es fs = grows-trans es ds fs i j in
      walks_next s l Unmet _ _ a q fs {M = Begun st es} tt
      (copy-by s l (leaves_unsent through_exponents) HELDSTRT CPLSTRT refl a q fs g.within (omega arith) (omega arith)
      (λ y i same others. record {
        since = since-then st es a fs y fs (since-then st es st es a fs (since-start st es w) (after-exponents st.cells a.cells g) h) i (grows-refl fs);
        begins = same ∙ sym (others CPLSTRT (omega arith) (λ z. omega arith));
      }))
      (λ y r gs c. walks_next s l Unmet _ _ y r gs {M = Coupled st es} tt
      (copy-by s l (leaves_unsent through_exponents) (HELDEND + 5) CPLEND refl y r gs c.since.changed.within (omega arith) (omega arith)
      (λ x i same others. record {
        since = since-then st es y gs x gs c.since i (grows-refl gs);
        coupling = λ _. (
          others HELDSTRT (omega arith) (λ z. omega arith) ∙ c.begins ∙ sym (others CPLSTRT (omega arith) (λ z. omega arith)),
          same ∙ sym (others CPLEND (omega arith) (λ z. omega arith)),
        );
      }))
      (λ x u hs d. walks-end s l Unmet x u hs d)))))
      (λ a q fs c. passed _ 24 _ a q fs c.since.changed.within (λ _. passed _ 24 _ a q fs c.since.changed.within (λ _. walks-end s l Unmet a q fs c)))
      (λ _. passed _ 24 _ st p es w
      (λ x. passed _ 24 _ st p es w
      (λ y. walks-end s l Unmet st p es
      (record {
        since = since-start st es w;
        coupling = λ _. (
          sym (held-cell HELDSTRT st.cells) ∙ differs_false (cell HELDSTRT) (cell CPLSTRT) st.cells x ∙ held-cell CPLSTRT st.cells,
          sym (held-cell (HELDEND + 5) st.cells) ∙ differs_false (cell (HELDEND + 5)) (cell CPLEND) st.cells y ∙ held-cell CPLEND st.cells,
        );
      })))))
      (λ e. record { since = since-start st es w; coupling = λ q. absurd (is_false CPLINU 1 st.cells e q) }))
      (λ a q fs c. walks-end s l Unmet a q fs c)

  -- the channels before the channel j
  record ChannelsTo (st : State) (es : List Entry) (j : ℕ) (a : State) (q : ℕ) (fs : List Entry) : Type 0 where
    since : Since st es a fs
    coupling : Coupling a.cells
    nfchans : cell_of a.cells NFCHANS ≡ cell_of st.cells NFCHANS
    channels : (ch : ℕ) → ch < j → cell_of a.cells (HELDEND + ch) ≡ cell_of a.cells (ENDMANT + ch)

  -- they stay, where the ranges and what is held stay
  to-stays : (st : State) (es : List Entry) (j : ℕ) (a : State) (q : ℕ) (fs : List Entry) (b : State) (r : ℕ) (gs : List Entry) → j < 5 → ChannelsTo st es j a q fs
      → Changed (leaves_unsent after_exponents) a.cells b.cells → Grows fs gs → ChannelsTo st es j b r gs
  to-stays st es j a q fs b r gs k t g h = let f = unsent-leaves after_exponents a.cells b.cells g in record {
    since = since-then st es a fs b gs t.since (after-exponents a.cells b.cells g) h;
    coupling = coupling-stays a.cells b.cells f t.coupling;
    nfchans = nfchans-same a.cells b.cells (fewer a.cells b.cells f) ∙ t.nfchans;
    channels = λ ch i. held_same a.cells b.cells f (HELDEND + ch) (omega arith) (omega arith) ∙ t.channels ch i ∙ sym (ends_same a.cells b.cells (fewer a.cells b.cells f) (ENDMANT + ch) (omega arith) (omega arith));
  }

  -- one more channel
  one_more : (st : State) (es : List Entry) (j : ℕ) (a : State) (q : ℕ) (fs : List Entry) → ChannelsTo st es j a q fs
      → cell_of a.cells (HELDEND + j) ≡ cell_of a.cells (ENDMANT + j) → ChannelsTo st es (suc j) a q fs
  one_more st es j a q fs t e = record {
    since = t.since;
    coupling = t.coupling;
    nfchans = t.nfchans;
    channels = λ ch i. by_cases (ℕ_discrete ch j) (λ z. rw z e) (λ z. t.channels ch (omega arith));
  }

  -- the end of its exponents is put
  put-end : (st : State) (es : List Entry) (j : ℕ) (a : State) (q : ℕ) (fs : List Entry) (y : State) → j < 5 → ChannelsTo st es j a q fs → Changed (leaves_unsent through_exponents) a.cells y.cells
      → cell_of y.cells (HELDEND + j) ≡ cell_of a.cells (ENDMANT + j) → ((k : ℕ) → k < 1024 → ¬ (k ≡ HELDEND + j) → cell_of y.cells k ≡ cell_of a.cells k) → ChannelsTo st es (suc j) y q fs
  put-end st es j a q fs y k t g same others =
      one_more st es j y q fs
      (record {
        since = since-then st es a fs y fs t.since g (grows-refl fs);
        coupling =
            rw (
              others CPLINU (omega arith) (λ z. omega arith),
              others CPLSTRT (omega arith) (λ z. omega arith),
              others CPLEND (omega arith) (λ z. omega arith),
              others HELDSTRT (omega arith) (λ z. omega arith),
              others (HELDEND + 5) (omega arith) (λ z. omega arith),
            ) t.coupling;
        nfchans = others NFCHANS (omega arith) (λ z. omega arith) ∙ t.nfchans;
        channels = λ ch i. others (HELDEND + ch) (omega arith) (λ z. omega arith) ∙ t.channels ch i ∙ sym (others (ENDMANT + ch) (omega arith) (λ z. omega arith));
      })
      (same ∙ sym (others (ENDMANT + j) (omega arith) (λ z. omega arith)))

  -- while its number stays
  in_channel : Ranges
  unfolding after_exponents
  in_channel = (CH, CH) ∷ after_exponents

  channel-after : (x y : List ℕ) → Changed (leaves_unsent in_channel) x y → Changed (leaves_unsent after_exponents) x y
  unfolding in_channel
  channel-after x y g = unsent-fewer _ _ x y g

  ch-same : (x y : List ℕ) → Changed (leaves_unsent in_channel) x y → cell_of y CH ≡ cell_of x CH
  unfolding in_channel
  ch-same x y g = unsent-same in_channel x y CH g (omega arith) (inl (omega arith, omega arith))

  may-ch : may (leaves_unsent after_exponents) CH 0 0 4 ≡ true
  unfolding passes after_exponents
  may-ch = refl

  counted-to : (st : State) → Within st.cells → held_of (cell NFCHANS) st.cells ≤ 5
  counted-to st w = let e = held-cell NFCHANS st.cells in omega (arith, w.below NFCHANS, nfchans-most)

  channel : (st : State) (es : List Entry) (j : ℕ) → j < 5 → (b : State) (r : ℕ) (gs : List Entry) → ChannelsTo st es j b r gs → cell_of b.cells CH ≡ j → Ending (cell_of b.cells (ENDMANT + j))
      → Walks s l Unmet (inner (after_items 1 exponents_of_block)) b r gs (ChannelsTo st es (suc j))
  unfolding exponents_of_block after_items inner passes after_exponents in_channel
  channel st es j n b r gs t e ending =
      either s l _ _ _ b r gs
      (λ new. skip s l (leaves_unsent in_channel) 1 _ refl b r gs t.since.changed.within
      (λ x u ds f i.
      let k = fewer b.cells x.cells (unsent-leaves after_exponents b.cells x.cells (channel-after b.cells x.cells f)) in
      let o : ¬ (cell_of b.cells (CHEXPSTR + j + 8 * cell_of b.cells BLK) ≡ 0) = λ z. picked-true (at2 CHEXPSTR CH BLK) 0 b.cells new (ap (λ c. cell_of b.cells (CHEXPSTR + c + 8 * cell_of b.cells BLK)) e ∙ z) in
      set-by s l _ _ _ _ x u ds
      (subst (SetFits x.cells) (let z : j ≡ (0 + cell_of x.cells CH) % 256 = omega (arith, ch-same b.cells x.cells f) in z)
      (set-channel x.cells f.within j n (rw (ends_same b.cells x.cells k (ENDMANT + j) (omega arith) (omega arith)) ending) (new-channel b.cells x.cells k j n o)))
      (λ x2 u2 ds2 c2 i2. skip s l (leaves_unsent in_channel) 1 _ refl x2 u2 ds2 (subst Within c2 f.within)
      (λ a q fs g2 h2.
      let g : Changed (leaves_unsent in_channel) b.cells a.cells = changed_then (leaves_unsent in_channel) b.cells x2.cells a.cells (subst (Changed (leaves_unsent in_channel) b.cells) c2 f) g2 in
      let h : Grows gs fs = grows-trans gs ds fs i (grows-trans ds ds2 fs i2 h2) in
      let u : ChannelsTo st es j a q fs = to-stays st es j b r gs a q fs n t (channel-after b.cells a.cells g) h in
      let c : cell_of a.cells CH ≡ j = ch-same b.cells a.cells g ∙ e in
      let k : place_of (at HELDEND CH) a.cells ≡ HELDEND + j = place_at HELDEND CH a.cells ∙ ap (λ x. HELDEND + x) c in
      let v : held_of (at ENDMANT CH) a.cells ≡ cell_of a.cells (ENDMANT + j) = ap (cell_of a.cells) (place_at ENDMANT CH a.cells ∙ ap (λ x. ENDMANT + x) c) in
      walks_next s l Unmet _ _ a q fs {M = ChannelsTo st es (suc j)} tt
      (put-by s l (leaves_unsent through_exponents) (at HELDEND CH) _ refl a q fs g.within (HELDEND + j) (cell_of a.cells (ENDMANT + j)) k
      (let z : 0 + 1 * held_of (at ENDMANT CH) a.cells ≡ cell_of a.cells (ENDMANT + j) = omega arith in z)
      (omega arith) (omega arith) (word a.cells (ENDMANT + j) g.within)
      (λ y i same others. put-end st es j a q fs y n u i same others))
      (λ y x hs d. walks-end s l Unmet y x hs d)))))
      (λ a q fs d. passed _ 25 _ a q fs d.since.changed.within (λ _. walks-end s l Unmet a q fs d))
      (λ _. passed _ 25 _ b r gs t.since.changed.within
      (λ d. walks-end s l Unmet b r gs (one_more st es j b r gs t
      (ap (cell_of b.cells) (sym (place_at HELDEND CH b.cells ∙ ap (λ x. HELDEND + x) e))
      ∙ differs_false (at HELDEND CH) (at ENDMANT CH) b.cells d
      ∙ ap (cell_of b.cells) (place_at ENDMANT CH b.cells ∙ ap (λ x. ENDMANT + x) e)))))

  channels : (st : State) (p : ℕ) (es : List Entry) → Within st.cells → Ranged st.cells → Coupling st.cells
      → Walks s l Unmet (first_items 1 (after_items 1 exponents_of_block)) st p es (λ a q fs. Since st es a fs × Coupling a.cells × Channels a.cells)
  unfolding exponents_of_block first_items after_items inner passes after_exponents
  channels st p es w ranged c =
      walks_next s l Unmet _ _ st p es {M = λ a q fs. Since st es a fs × Coupling a.cells × Channels a.cells} tt
      (walked-each s l Unmet CH _ _ _ st p es (ChannelsTo st es)
      (record {
        since = since-start st es w;
        coupling = c;
        nfchans = refl;
        channels = λ ch i. absurd (let z : ⊥ = omega (arith, cell-zero st.cells) in z);
      })
      (λ j a q fs i t.
      let n : j < 5 = omega (arith, counted-to st w) in
      let g : Changed (leaves_unsent after_exponents) a.cells (put_in a.cells CH j) = puts (leaves_unsent after_exponents) a.cells CH j CH 0 0 4 t.since.changed.within may-ch (omega arith) (omega arith) (omega arith) (omega arith) in
      let e : cell_of (put_in a.cells CH j) CH ≡ j = cell_at a.cells CH j t.since.changed.within.sized (omega arith) (omega arith) ∙ (let z : j % 65536 ≡ j = omega arith in z) in
      channel st es j n (stored a CH j) q fs (to-stays st es j a q fs (stored a CH j) q fs n t g (grows-refl fs)) e
      ((ranged-stays st.cells (put_in a.cells CH j)
      (unsent-leaves through_exponents st.cells (put_in a.cells CH j) (changed_then (leaves_unsent through_exponents) st.cells a.cells (put_in a.cells CH j) t.since.changed (after-exponents a.cells (put_in a.cells CH j) g)))
      ranged).channels j (let y = held-cell NFCHANS st.cells in
      let z = nfchans-same st.cells (put_in a.cells CH j) (unsent-leaves through_exponents st.cells (put_in a.cells CH j) (changed_then (leaves_unsent through_exponents) st.cells a.cells (put_in a.cells CH j) t.since.changed (after-exponents a.cells (put_in a.cells CH j) g))) in
      omega arith)))
      (λ j a q fs i t. (t.since, t.coupling, λ ch h. t.channels ch (let e = held-cell NFCHANS st.cells in omega (arith, t.nfchans)))))
      (λ a q fs d. walks-end s l Unmet a q fs d)

  -- all exponents
  pub record Covered (st : State) (es : List Entry) (a : State) (q : ℕ) (fs : List Entry) : Type 0 where
    pub since : Since st es a fs
    pub coupling : Coupling a.cells
    pub channels : Channels a.cells
    pub lfe : Lfe a.cells

  lfe-covered : (st : State) (p : ℕ) (es : List Entry) → Within st.cells → Coupling st.cells → Channels st.cells
      → Walks s l Unmet (after_items 1 (after_items 1 exponents_of_block)) st p es (Covered st es)
  unfolding exponents_of_block after_items passes after_exponents
  lfe-covered st p es w c d =
      walks_next s l Unmet _ _ st p es {M = Covered st es} tt
      (walked-when s l Unmet _ _ st p es
      (λ e. either s l _ _ _ st p es
      (λ _. skip s l (leaves_unsent after_exponents) 1 _ refl st p es w
      (λ x u ds f i.
      set-by s l _ _ _ _ x u ds (subst (SetFits x.cells) (let z : 6 ≡ (6 + cell_of x.cells 0) % 256 = omega (arith, cell-zero x.cells) in z) (set-lfe x.cells f.within))
      (λ a q fs c2 j2.
      let g : Changed (leaves_unsent after_exponents) st.cells a.cells = subst (Changed (leaves_unsent after_exponents) st.cells) c2 f in
      let h : Grows es fs = grows-trans es ds fs i j2 in
      let n : cell_of a.cells NFCHANS ≤ 5 = omega (arith, g.within.below NFCHANS, nfchans-most) in
      let x = channels-stay st.cells a.cells (unsent-leaves after_exponents st.cells a.cells g) d in
      walks_next s l Unmet _ _ a q fs {M = Covered st es} tt
      (number_by s l (leaves_unsent through_exponents) (HELDEND + 6) 7 refl a q fs g.within (omega arith) (omega arith) (omega arith)
      (λ y i same others. record {
        since = since-then st es a fs y fs (since-then st es st es a fs (since-start st es w) (after-exponents st.cells a.cells g) h) i (grows-refl fs);
        coupling =
            rw (
              others CPLINU (omega arith) (λ z. omega arith),
              others CPLSTRT (omega arith) (λ z. omega arith),
              others CPLEND (omega arith) (λ z. omega arith),
              others HELDSTRT (omega arith) (λ z. omega arith),
              others (HELDEND + 5) (omega arith) (λ z. omega arith),
            ) (coupling-stays st.cells a.cells (unsent-leaves after_exponents st.cells a.cells g) c);
        channels = λ ch k.
            let f = others NFCHANS (omega arith) (λ z. omega arith) in
            others (HELDEND + ch) (omega arith) (λ z. omega arith) ∙ x ch (omega arith) ∙ sym (others (ENDMANT + ch) (omega arith) (λ z. omega arith));
        lfe = λ _. same;
      }))
      (λ y r gs t. walks-end s l Unmet y r gs t))))
      (λ a q fs t. passed _ 26 _ a q fs t.since.changed.within (λ _. walks-end s l Unmet a q fs t))
      (λ _. passed _ 26 _ st p es w
      (λ e. walks-end s l Unmet st p es (record { since = since-start st es w; coupling = c; channels = d; lfe = λ _. seven w.lfe (is_false (HELDEND + 6) 0 st.cells e) }))))
      (λ e. record { since = since-start st es w; coupling = c; channels = d; lfe = λ q. absurd (is_false LFEON 1 st.cells e q) }))
      (λ a q fs t. walks-end s l Unmet a q fs t)
    where
      seven : (cell_of st.cells (HELDEND + 6) ≡ 0) ⊎ (cell_of st.cells (HELDEND + 6) ≡ 7) → ¬ (cell_of st.cells (HELDEND + 6) ≡ 0) → cell_of st.cells (HELDEND + 6) ≡ 7
      seven (inl x) y = absurd (y x)
      seven (inr x) y = x

  pub covered : (st : State) (p : ℕ) (es : List Entry) → Within st.cells → Ranged st.cells → Walks s l Unmet exponents_of_block st p es (Covered st es)
  covered st p es w ranged =
      parts s l 1 exponents_of_block st p es (coupled st p es w ranged)
      (λ a q fs c. parts s l 1 (after_items 1 exponents_of_block) a q fs
      (channels a q fs c.since.changed.within (ranged-stays st.cells a.cells (unsent-leaves through_exponents st.cells a.cells c.since.changed) ranged) c.coupling)
      (λ b r gs d. walks-map s l Unmet
      (λ x u hs t. record {
        since = since-then st es b gs x hs (since-then st es a fs b gs c.since d.0.changed d.0.grows) t.since.changed t.since.grows;
        coupling = t.coupling;
        channels = t.channels;
        lfe = t.lfe;
      })
      (lfe-covered b r gs d.0.changed.within d.1 d.2)))
