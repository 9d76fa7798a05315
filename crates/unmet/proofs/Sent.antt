-- SNR offsets and coupling leaks are sent before they are used. Assumes nothing.
use mathlib.Core.Path.{◌≡◌, refl, sym, ◌∙◌}
use mathlib.Core.List.{List}
use mathlib.Core.Logic.{◌⊎◌, inl, inr, by_cases}
use Prim.Native.Nat.{ℕ}
use native.Mathlib.Omega.{arith}
use native.Mathlib.Decide.{ℕ_discrete}
use Rattle.names.specs.Names.{cplfleak, cplsleak, csnroffst}
use Rattle.reading.specs.Run.{Entry}
use Rattle.cells.specs.Cells.{State, cell_of}
use Rattle.cells.specs.Names.{BLK, CPLINU, CPLLEAKE, FIRSTCPLLEAK, SNROFFSTE, SNROFFSTSTR}
use Rattle.annex.specs.Audblk.{parameters}
use Rattle.bounds.specs.Along.{Has}
use Rattle.bounds.specs.Bounds.{bounds, most_in, most, Within}
use Rattle.unmet.specs.Unmet.{Offsets, Leaks, Unmet}
use Rattle.bounds.proofs.Bounds.{Changed, changed-none, changed_then}
use Rattle.unmet.proofs.Exponents.{after_exponents, after-through, blk-same, str-same}
use Rattle.unmet.proofs.Ranges.{through_block}
use Rattle.unmet.proofs.Leaves.{Ranges, leaves, leaves_unsent, passes, unsent-leaves, first_items, after_items, is_true, is_false, not-true-at, not-false-at, parts, skip, whole, number_by, element-by, first-leak}
use Rattle.bounds.proofs.Walking.{Grows, grows-refl, grows-trans, Walks, walks_next, walks-end, walks-map, walked-when}

pub offsets-grow : (es fs : List Entry) → Grows es fs → Offsets es → Offsets fs
offsets-grow es fs g (inl h) = inl (g.has _ h)
offsets-grow es fs g (inr h) = inr (g.has _ h)

pub leaks-grow : (es fs : List Entry) → Grows es fs → Leaks es → Leaks fs
leaks-grow es fs g h = (g.has cplfleak h.0, g.has cplsleak h.1)

-- leaks were sent, if FIRSTCPLLEAK is 0
abbrev pub LeaksIfSent : List Entry → List ℕ → Type 0
LeaksIfSent es m = cell_of m FIRSTCPLLEAK ≡ 0 → Leaks es

pub leaks-stay : (rs : Ranges) (x y : List ℕ) (es fs : List Entry) → Changed (leaves_unsent rs) x y → Grows es fs → LeaksIfSent es x → LeaksIfSent fs y
leaks-stay rs x y es fs g h k e = leaks-grow es fs h (k (first-leak rs x y g e))

module _ (s : List ℕ) (l : ℕ) where
  -- the offsets of a block. In block 0 they are sent, unless the frame has sent its own
  abbrev pub Before : List Entry → List ℕ → Type 0
  Before es m = Offsets es ⊎ ((cell_of m BLK ≡ 0) × ¬ (cell_of m SNROFFSTSTR ≡ 0))

  -- so far with offsets; in block 0 and without them; and where they are asked for
  record Sent (st : State) (es : List Entry) (a : State) (q : ℕ) (fs : List Entry) : Type 0 where
    changed : Changed (leaves_unsent after_exponents) st.cells a.cells
    grows : Grows es fs
    sent : Offsets fs

  record FirstBlock (st : State) (es : List Entry) (a : State) (q : ℕ) (fs : List Entry) : Type 0 where
    changed : Changed (leaves_unsent after_exponents) st.cells a.cells
    grows : Grows es fs
    blk : cell_of a.cells BLK ≡ 0
    asked : cell_of a.cells SNROFFSTE ≡ 1

  offsets-sent : (st : State) (p : ℕ) (es : List Entry) → Within st.cells → Before es st.cells → Walks s l Unmet (first_items 3 parameters) st p es (Sent st es)
  unfolding parameters first_items after_items passes after_exponents
  offsets-sent st p es w (inl h) = whole s l (leaves_unsent after_exponents) _ refl st p es w (λ a q fs g k. record { changed = g; grows = k; sent = offsets-grow es fs k h })
  offsets-sent st p es w (inr h) =
      skip s l (leaves_unsent after_exponents) 2 _ refl st p es w
      (λ a q fs g k.
      let blk : cell_of a.cells BLK ≡ 0 = blk-same st.cells a.cells (unsent-leaves through_block st.cells a.cells (after-through st.cells a.cells g)) ∙ h.0 in
      walks_next s l Unmet _ _ a q fs {M = Sent st es} tt
      (walked-when s l Unmet _ _ a q fs
      (λ _. walks_next s l Unmet _ _ a q fs {M = FirstBlock st es} tt
      (walked-when s l Unmet _ _ a q fs
      (λ _. walks_next s l Unmet _ _ a q fs {M = FirstBlock st es} tt
      (number_by s l (leaves_unsent after_exponents) SNROFFSTE 1 refl a q fs g.within (omega arith) (omega arith) (omega arith)
      (λ y i same others. record {
        changed = changed_then (leaves_unsent after_exponents) st.cells a.cells y.cells g i;
        grows = k;
        blk = others BLK (omega arith) (λ z. omega arith) ∙ blk;
        asked = same;
      }))
      (λ y r gs c. walks-end s l Unmet y r gs c))
      (λ e. absurd (is_false BLK 0 a.cells e blk)))
      (λ b r gs c. walks_next s l Unmet _ _ b r gs {M = FirstBlock st es} tt
      (walked-when s l Unmet _ _ b r gs (λ e. absurd (not-true-at BLK 0 b.cells e c.blk)) (λ _. c))
      (λ d u hs f. walks_next s l Unmet _ _ d u hs {M = Sent st es} tt
      (walked-when s l Unmet _ _ d u hs
      (λ _. walks_next s l Unmet _ _ d u hs {M = Sent st es} tt
      (element-by s l (leaves_unsent after_exponents) csnroffst _ 6 _ refl d u hs f.changed.within
      (λ y v gs i j k. record { changed = changed_then (leaves_unsent after_exponents) st.cells d.cells y.cells f.changed i; grows = grows-trans es hs gs f.grows j; sent = inr k }))
      (λ y v gs c. whole s l (leaves_unsent after_exponents) _ refl y v gs c.changed.within
      (λ x t ks i j. record { changed = changed_then (leaves_unsent after_exponents) st.cells y.cells x.cells c.changed i; grows = grows-trans es gs ks c.grows j; sent = offsets-grow gs ks j c.sent })))
      (λ e. absurd (is_false SNROFFSTE 1 d.cells e f.asked)))
      (λ y v gs c. walks-end s l Unmet y v gs c))))
      (λ e. absurd (h.1 (sym (str-same st.cells a.cells (unsent-leaves through_block st.cells a.cells (after-through st.cells a.cells g))) ∙ not-false-at SNROFFSTSTR 0 a.cells e))))
      (λ b r gs c. walks-end s l Unmet b r gs c))

  -- the leaks of a block, where coupling is in use
  pub record AfterLeaks (st : State) (es : List Entry) (a : State) (q : ℕ) (fs : List Entry) : Type 0 where
    pub changed : Changed (leaves after_exponents) st.cells a.cells
    pub grows : Grows es fs
    pub if-sent : LeaksIfSent fs a.cells
    pub leaks : cell_of a.cells CPLINU ≡ 1 → Leaks fs

  leaks-there : (st : State) (es : List Entry) (a : State) (q : ℕ) (fs : List Entry) → Changed (leaves after_exponents) st.cells a.cells → Grows es fs → Leaks fs → AfterLeaks st es a q fs
  leaks-there st es a q fs g h k = record { changed = g; grows = h; if-sent = λ _. k; leaks = λ _. k }

  -- the two flags before they are sent for the first time
  record Asked (st : State) (es : List Entry) (a : State) (q : ℕ) (fs : List Entry) : Type 0 where
    changed : Changed (leaves after_exponents) st.cells a.cells
    grows : Grows es fs
    asked : cell_of a.cells CPLLEAKE ≡ 1

  record Unsent (st : State) (es : List Entry) (a : State) (q : ℕ) (fs : List Entry) : Type 0 where
    changed : Changed (leaves after_exponents) st.cells a.cells
    grows : Grows es fs
    first : cell_of a.cells FIRSTCPLLEAK ≡ 1

  record AfterFastLeak (st : State) (es : List Entry) (a : State) (q : ℕ) (fs : List Entry) : Type 0 where
    changed : Changed (leaves after_exponents) st.cells a.cells
    grows : Grows es fs
    fast : Has cplfleak fs

  first-most : most FIRSTCPLLEAK ≡ 1
  unfolding most most_in bounds
  first-most = refl

  leaks-sent : (st : State) (p : ℕ) (es : List Entry) → Within st.cells → LeaksIfSent es st.cells → Walks s l Unmet (after_items 5 (after_items 3 parameters)) st p es (AfterLeaks st es)
  unfolding parameters after_items passes after_exponents
  leaks-sent st p es w h =
      walks_next s l Unmet _ _ st p es {M = AfterLeaks st es} tt
      (walked-when s l Unmet _ _ st p es
      (λ _. by_cases (ℕ_discrete (cell_of st.cells FIRSTCPLLEAK) 0)
      (λ z. whole s l (leaves after_exponents) _ refl st p es w (λ a q fs g k. leaks-there st es a q fs g k (leaks-grow es fs k (h z))))
      (λ z. walks_next s l Unmet _ _ st p es {M = Unsent st es} tt
      (walked-when s l Unmet _ _ st p es
      (λ e. absurd (z (is_true FIRSTCPLLEAK 0 st.cells e)))
      (λ _. record { changed = changed-none (leaves after_exponents) st.cells w; grows = grows-refl es; first = let b = w.below FIRSTCPLLEAK in omega (arith, first-most) }))
      (λ a q fs c. walks_next s l Unmet _ _ a q fs {M = Asked st es} tt
      (walked-when s l Unmet _ _ a q fs
      (λ _. walks_next s l Unmet _ _ a q fs {M = Asked st es} tt
      (number_by s l (leaves after_exponents) CPLLEAKE 1 refl a q fs c.changed.within (omega arith) (omega arith) (omega arith)
      (λ y i same others. record { changed = changed_then (leaves after_exponents) st.cells a.cells y.cells c.changed i; grows = c.grows; asked = same }))
      (λ y r gs d. walks_next s l Unmet _ _ y r gs {M = Asked st es} tt
      (number_by s l (leaves after_exponents) FIRSTCPLLEAK 0 refl y r gs d.changed.within (omega arith) (omega arith) (omega arith)
      (λ x i same others. record { changed = changed_then (leaves after_exponents) st.cells y.cells x.cells d.changed i; grows = d.grows; asked = others CPLLEAKE (omega arith) (λ z. omega arith) ∙ d.asked }))
      (λ x u hs f. walks-end s l Unmet x u hs f)))
      (λ e. absurd (is_false FIRSTCPLLEAK 1 a.cells e c.first)))
      (λ b r gs d. walks_next s l Unmet _ _ b r gs {M = AfterLeaks st es} tt
      (walked-when s l Unmet _ _ b r gs
      (λ _. walks_next s l Unmet _ _ b r gs {M = AfterFastLeak st es} tt
      (element-by s l (leaves after_exponents) cplfleak _ 3 _ refl b r gs d.changed.within
      (λ y v ks i j k. record { changed = changed_then (leaves after_exponents) st.cells b.cells y.cells d.changed i; grows = grows-trans es gs ks d.grows j; fast = k }))
      (λ y v ks f. walks_next s l Unmet _ _ y v ks {M = AfterLeaks st es} tt
      (element-by s l (leaves after_exponents) cplsleak _ 3 _ refl y v ks f.changed.within
      (λ x t ms i j k. leaks-there st es x t ms (changed_then (leaves after_exponents) st.cells y.cells x.cells f.changed i) (grows-trans es ks ms f.grows j) (j.has cplfleak f.fast, k)))
      (λ x t ms k. walks-end s l Unmet x t ms k)))
      (λ e. absurd (is_false CPLLEAKE 1 b.cells e d.asked)))
      (λ y v ks k. walks-end s l Unmet y v ks k)))))
      (λ e. record { changed = changed-none (leaves after_exponents) st.cells w; grows = grows-refl es; if-sent = h; leaks = λ c. absurd (is_false CPLINU 1 st.cells e c) }))
      (λ a q fs c. walks-end s l Unmet a q fs c)

  -- all of the section
  pub record AfterParameters (st : State) (es : List Entry) (a : State) (q : ℕ) (fs : List Entry) : Type 0 where
    pub after-leaks : AfterLeaks st es a q fs
    pub offsets : Offsets fs

  pub parameters-walked : (st : State) (p : ℕ) (es : List Entry) → Within st.cells → Before es st.cells → LeaksIfSent es st.cells → Walks s l Unmet parameters st p es (AfterParameters st es)
  unfolding parameters first_items after_items passes after_exponents
  parameters-walked st p es w b h =
      parts s l 3 parameters st p es (offsets-sent st p es w b)
      (λ a q fs c. skip s l (leaves_unsent after_exponents) 5 _ refl a q fs c.changed.within
      (λ d r gs g k. walks-map s l Unmet
      (λ x u hs f. record {
        after-leaks = record {
          changed = changed_then (leaves after_exponents) st.cells a.cells x.cells (unsent-leaves after_exponents st.cells a.cells c.changed)
              (changed_then (leaves after_exponents) a.cells d.cells x.cells (unsent-leaves after_exponents a.cells d.cells g) f.changed);
          grows = grows-trans es fs hs c.grows (grows-trans fs gs hs k f.grows);
          if-sent = f.if-sent;
          leaks = f.leaks;
        };
        offsets = offsets-grow gs hs f.grows (offsets-grow fs gs k c.sent);
      })
      (leaks-sent d r gs g.within (leaks-stay after_exponents a.cells d.cells fs gs g k (leaks-stay after_exponents st.cells a.cells es fs c.changed c.grows h)))))
