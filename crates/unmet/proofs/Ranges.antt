-- The ranges of a block, and the sets of exponents that are read over them. Assumes nothing.
use mathlib.Core.Path.{◌≡◌, refl, ap, sym, ◌∙◌}
use mathlib.Core.Bool.{Bool, true, false, cond}
use mathlib.Core.List.{List, [], ◌∷◌}
use mathlib.Core.Logic.{◌⊎◌, inl, inr}
use Prim.Native.Nat.{ℕ, ◌+◌, ◌*◌, ◌-◌, ◌/◌, ◌%◌, ◌≤◌, ◌<◌}
use native.Mathlib.Omega.{arith}
use lib.Dec.{eqb}
use borrow.Author.Tests.{ne_eqb}
use Rattle.slots.specs.Slots.{CPL, LFE}
use Rattle.exponents.specs.Exponents.{size_of, groups_of, first_of}
use Rattle.exponents.proofs.Unmet.{Ending, set-reaches-channel, set-reaches-coupling, set-reaches-lfe}
use Rattle.cells.specs.Cells.{cell_of}
use Rattle.cells.specs.Names.{BLK, CHBWCOD, CHEXPSTR, CPL_SUBND_END, CPLBEGF, CPLEND, CPLEXPSTR, CPLINU, CPLINUS, CPLSTRE, CPLSTRT, ENDMANT, FSCOD, LFEON, NFCHANS, SNROFFSTSTR}
use Rattle.derivations.specs.Sets.{strategy_of, start_of, end_of}
use Rattle.bounds.specs.Bounds.{bounds, most_in, most, Within}
use Rattle.unmet.specs.Unmet.{EndsFit, SetFits}
use Rattle.bounds.proofs.Bounds.{Changed, most_over, most-over}
use Rattle.unmet.proofs.Leaves.{Ranges, leaves, leaves_unsent, leaves-same, unsent-fewer, unsent-same}

-- the coupling channel has whole sub-bands
pub record SubBands (start end : ℕ) : Type 0 where
  pub first : ℕ
  pub past : ℕ
  pub starts : start ≡ 37 + 12 * first
  pub ends : end ≡ 37 + 12 * past
  pub some : first < past
  pub few : past ≤ 18

-- what a block leaves all through: its number, how SNR offsets are sent, the use of coupling by block, the sample rate and the number of channels
unfoldable pub through_block : Ranges
through_block = (BLK, BLK) ∷ (SNROFFSTSTR, SNROFFSTSTR) ∷ (CPLSTRE, CPLINUS + 5) ∷ (FSCOD, FSCOD) ∷ (NFCHANS, NFCHANS) ∷ []

-- before its coupling strategy also the coupling sub-bands and the bandwidth codes
unfoldable pub early : Ranges
unfolding through_block
early = (CPLBEGF, CPL_SUBND_END) ∷ (CHBWCOD, CHBWCOD + 4) ∷ through_block

-- after it and its bandwidth codes whether it is coupled, too
unfoldable pub settled : Ranges
unfolding early
settled = (CPLINU, CPLINU) ∷ early

-- its exponents leave also its channels, the ranges and the strategies
unfoldable pub through_exponents : Ranges
unfolding settled
through_exponents = (NFCHANS, LFEON) ∷ (CPLSTRT, ENDMANT + 4) ∷ (CPLEXPSTR, CHEXPSTR + 47) ∷ settled

-- what leaves more leaves fewer
pub early-through : (x y : List ℕ) → Changed (leaves_unsent early) x y → Changed (leaves_unsent through_block) x y
unfolding early
early-through x y g = unsent-fewer _ _ x y (unsent-fewer _ _ x y g)

pub settled-through : (x y : List ℕ) → Changed (leaves_unsent settled) x y → Changed (leaves_unsent through_block) x y
unfolding settled
settled-through x y g = early-through x y (unsent-fewer _ _ x y g)

pub exponents-settled : (x y : List ℕ) → Changed (leaves_unsent through_exponents) x y → Changed (leaves_unsent settled) x y
unfolding through_exponents
exponents-settled x y g = unsent-fewer _ _ x y (unsent-fewer _ _ x y (unsent-fewer _ _ x y g))

-- the sample rate is one of three, and there is a channel
pub record Rated (m : List ℕ) : Type 0 where
  pub rate : cell_of m FSCOD < 3
  pub some : 1 ≤ cell_of m NFCHANS

pub rated-stays : (x y : List ℕ) → cell_of y FSCOD ≡ cell_of x FSCOD → cell_of y NFCHANS ≡ cell_of x NFCHANS → Rated x → Rated y
rated-stays x y e f r = record { rate = rw e r.rate; some = rw f r.some }

pub rated-through : (x y : List ℕ) → Changed (leaves_unsent through_block) x y → Rated x → Rated y
unfolding through_block
rated-through x y g r =
    rated-stays x y (unsent-same through_block x y FSCOD g (omega arith) (inr (inr (inr (inl (omega arith, omega arith))))))
    (unsent-same through_block x y NFCHANS g (omega arith) (inr (inr (inr (inr (inl (omega arith, omega arith))))))) r

-- no bandwidth code is above 60; a block that is coupled has a sub-band; it is coupled as the frame says
pub record Settled (m : List ℕ) : Type 0 where
  pub coded : (ch : ℕ) → ch < 5 → cell_of m (CHBWCOD + ch) ≤ 60
  pub coupled : cell_of m CPLINU ≡ 1 → cell_of m CPLBEGF < cell_of m CPL_SUBND_END
  pub last : cell_of m CPLINU ≡ cell_of m (CPLINUS + cell_of m BLK)

-- before its coupling strategy: it is to have a sub-band, unless it sends a new strategy
pub record Unsettled (m : List ℕ) : Type 0 where
  pub coded : (ch : ℕ) → ch < 5 → cell_of m (CHBWCOD + ch) ≤ 60
  pub coupled : cell_of m (CPLSTRE + cell_of m BLK) ≡ 0 → cell_of m (CPLINUS + cell_of m BLK) ≡ 1 → cell_of m CPLBEGF < cell_of m CPL_SUBND_END

-- the ranges of the channels and of coupling, where a block has them
pub record Ranged (m : List ℕ) : Type 0 where
  pub channels : (ch : ℕ) → ch < cell_of m NFCHANS → Ending (cell_of m (ENDMANT + ch))
  pub coupling : cell_of m CPLINU ≡ 1 → SubBands (cell_of m CPLSTRT) (cell_of m CPLEND)

-- the groups of a set do not pass bin 253
sizes : (strategy : ℕ) → (size_of strategy ≡ 1) ⊎ ((size_of strategy ≡ 2) ⊎ (size_of strategy ≡ 4))
unfolding size_of
sizes strategy = go (eqb strategy 3) (eqb strategy 2)
  where
    size : Bool → Bool → ℕ
    size a b = cond a 4 (cond b 2 1)

    go : (a b : Bool) → (size a b ≡ 1) ⊎ ((size a b ≡ 2) ⊎ (size a b ≡ 4))
    go true b = inr (inr refl)
    go false true = inr (inl refl)
    go false false = inl refl

thirds-inside : (n size : ℕ) → n ≤ 252 → n % 3 ≡ 0 → (size ≡ 1) ⊎ ((size ≡ 2) ⊎ (size ≡ 4)) → 3 * size * ((n + (3 * size - 3)) / (3 * size)) ≤ 252
thirds-inside n size h k (inl e) = rw e (omega arith)
thirds-inside n size h k (inr (inl e)) = rw e (omega arith)
thirds-inside n size h k (inr (inr e)) = rw e (omega arith)

part-inside : (n size : ℕ) → (size ≡ 1) ⊎ ((size ≡ 2) ⊎ (size ≡ 4)) → 3 * size * (n / (3 * size)) ≤ n
part-inside n size (inl e) = rw e (omega arith)
part-inside n size (inr (inl e)) = rw e (omega arith)
part-inside n size (inr (inr e)) = rw e (omega arith)

groups-inside : (slot strategy start end : ℕ) → slot < 5 → Ending end → 1 + 3 * size_of strategy * groups_of slot strategy start end ≤ 253
unfolding groups_of
groups-inside slot strategy start end h k =
    let e : eqb slot CPL ≡ false = ne_eqb slot 5 (λ z. omega arith) in
    let f : eqb slot LFE ≡ false = ne_eqb slot 6 (λ z. omega arith) in
    let r = thirds-inside (end - 1) (size_of strategy) (omega (arith, k.within)) (omega (arith, k.thirds, k.some)) (sizes strategy) in
    rw (e, f) (omega arith)

bands-inside : (strategy start end : ℕ) → start ≤ end → end ≤ 253 → start + 3 * size_of strategy * groups_of CPL strategy start end ≤ 253
unfolding groups_of
bands-inside strategy start end h k = let r = part-inside (end - start) (size_of strategy) (sizes strategy) in omega arith

lfe-inside : 1 + 3 * size_of 1 * groups_of LFE 1 0 7 ≤ 253
unfolding size_of groups_of
lfe-inside = omega arith

pub ends-fit : (m : List ℕ) → Ranged m → EndsFit m
ends-fit m r = record {
  channels = λ ch h. (r.channels ch h).within;
  coupling = λ h. let c = r.coupling h in omega (arith, c.starts, c.ends, c.some);
}

strategies-most : (most_over CPLEXPSTR 5 ≡ 3) × (most_over CHEXPSTR 47 ≡ 3) × (most BLK ≡ 5) × (most NFCHANS ≡ 5)
unfolding most_over most most_in bounds
strategies-most = (refl, refl, refl, refl)

module _ (m : List ℕ) (w : Within m) where
  blk-most : cell_of m BLK ≤ 5
  blk-most = omega (arith, w.below BLK, strategies-most.2)

  -- the sets of a channel, of coupling, of LFE
  pub set-channel : (ch : ℕ) → ch < 5 → Ending (cell_of m (ENDMANT + ch)) → ¬ (cell_of m (CHEXPSTR + ch + 8 * cell_of m BLK) ≡ 0) → SetFits m ch
  unfolding strategy_of start_of end_of first_of
  set-channel ch h e n =
      let c : eqb ch CPL ≡ false = ne_eqb ch 5 (λ z. omega arith) in
      let f : eqb ch LFE ≡ false = ne_eqb ch 6 (λ z. omega arith) in
      let k = CHEXPSTR + ch + 8 * cell_of m BLK in
      let b = blk-most in
      let v : cell_of m k ≤ 3 = omega (arith, w.below k, most-over CHEXPSTR 47 k (omega arith) (omega arith), strategies-most.1) in
      let r = set-reaches-channel ch (cell_of m k) 0 (cell_of m (ENDMANT + ch)) h e in
      record {
        among = omega arith;
        strategy = rw (c, f) (omega arith, omega arith);
        range = rw (c, f) (omega (arith, e.some), omega (arith, e.within));
        reaches = rw (c, f) r;
        inside = rw (c, f) (groups-inside ch (cell_of m k) 0 (cell_of m (ENDMANT + ch)) h e);
      }

  pub set-coupling : SubBands (cell_of m CPLSTRT) (cell_of m CPLEND) → ¬ (cell_of m (CPLEXPSTR + cell_of m BLK) ≡ 0) → SetFits m CPL
  unfolding strategy_of start_of end_of first_of
  set-coupling e n =
      let k = CPLEXPSTR + cell_of m BLK in
      let b = blk-most in
      let v : cell_of m k ≤ 3 = omega (arith, w.below k, most-over CPLEXPSTR 5 k (omega arith) (omega arith), strategies-most.0) in
      let d : cell_of m CPLEND ≡ cell_of m CPLSTRT + 12 * (e.past - e.first) = omega (arith, e.starts, e.ends, e.some) in
      record {
        among = omega arith;
        strategy = (omega arith, omega arith);
        range = (omega (arith, e.starts, e.ends, e.some), omega (arith, e.ends, e.few));
        reaches = rw d (set-reaches-coupling (cell_of m k) (cell_of m CPLSTRT) (e.past - e.first));
        inside = bands-inside (cell_of m k) (cell_of m CPLSTRT) (cell_of m CPLEND) (omega (arith, e.starts, e.ends, e.some)) (omega (arith, e.ends, e.few));
      }

  pub set-lfe : SetFits m LFE
  unfolding strategy_of start_of end_of first_of
  set-lfe = record {
    among = omega arith;
    strategy = (omega arith, omega arith);
    range = (omega arith, omega arith);
    reaches = set-reaches-lfe;
    inside = lfe-inside;
  }

-- they stay
module _ (x y : List ℕ) (g : Changed (leaves_unsent early) x y) where
  bands-same : (j : ℕ) → CPLBEGF ≤ j → j ≤ CPL_SUBND_END → cell_of y j ≡ cell_of x j
  unfolding early
  bands-same j h k = unsent-same early x y j g (omega arith) (inl (h, k))

  codes_same : (j : ℕ) → CHBWCOD ≤ j → j ≤ CHBWCOD + 4 → cell_of y j ≡ cell_of x j
  unfolding early
  codes_same j h k = unsent-same early x y j g (omega arith) (inr (inl (h, k)))

  pub number_same : cell_of y BLK ≡ cell_of x BLK
  unfolding early
  number_same = unsent-same early x y BLK g (omega arith) (inr (inr (inl (omega arith, omega arith))))

  pub uses-same : (j : ℕ) → CPLSTRE ≤ j → j ≤ CPLINUS + 5 → cell_of y j ≡ cell_of x j
  unfolding early
  uses-same j h k = unsent-same early x y j g (omega arith) (inr (inr (inr (inr (inl (h, k))))))

  pub coded-stays : ((ch : ℕ) → ch < 5 → cell_of x (CHBWCOD + ch) ≤ 60) → (ch : ℕ) → ch < 5 → cell_of y (CHBWCOD + ch) ≤ 60
  coded-stays c ch h = rw (codes_same (CHBWCOD + ch) (omega arith) (omega arith)) (c ch h)

  pub unsettled-stays : Unsettled x → Unsettled y
  unsettled-stays u =
      let b = blk-most y g.within in
      let n = number_same in
      record {
        coded = coded-stays u.coded;
        coupled =
            rw (
              uses-same (CPLSTRE + cell_of y BLK) (omega arith) (omega arith),
              uses-same (CPLINUS + cell_of y BLK) (omega arith) (omega arith),
              bands-same CPLBEGF (omega arith) (omega arith),
              bands-same CPL_SUBND_END (omega arith) (omega arith),
              n,
            ) u.coupled;
      }

module _ (x y : List ℕ) (g : Changed (leaves_unsent settled) x y) where
  fewer-early : Changed (leaves_unsent early) x y
  unfolding settled
  fewer-early = unsent-fewer _ _ x y g

  pub in-use-same : cell_of y CPLINU ≡ cell_of x CPLINU
  unfolding settled
  in-use-same = unsent-same settled x y CPLINU g (omega arith) (inl (omega arith, omega arith))

  pub settled-stays : Settled x → Settled y
  settled-stays u =
      let b = blk-most y g.within in
      let n = number_same x y fewer-early in
      record {
        coded = coded-stays x y fewer-early u.coded;
        coupled = rw (in-use-same, bands-same x y fewer-early CPLBEGF (omega arith) (omega arith), bands-same x y fewer-early CPL_SUBND_END (omega arith) (omega arith)) u.coupled;
        last = in-use-same ∙ u.last ∙ ap (λ k. cell_of x (CPLINUS + k)) (sym n) ∙ sym (uses-same x y fewer-early (CPLINUS + cell_of y BLK) (omega arith) (omega arith));
      }

module _ (x y : List ℕ) (g : Changed (leaves through_exponents) x y) where
  pub nfchans-same : cell_of y NFCHANS ≡ cell_of x NFCHANS
  unfolding through_exponents
  nfchans-same = leaves-same through_exponents x y NFCHANS g (omega arith) (inl (omega arith, omega arith))

  pub lfeon-same : cell_of y LFEON ≡ cell_of x LFEON
  unfolding through_exponents
  lfeon-same = leaves-same through_exponents x y LFEON g (omega arith) (inl (omega arith, omega arith))

  pub cplinu-same : cell_of y CPLINU ≡ cell_of x CPLINU
  unfolding through_exponents
  cplinu-same = leaves-same through_exponents x y CPLINU g (omega arith) (inr (inr (inr (inl (omega arith, omega arith)))))

  pub ends_same : (j : ℕ) → CPLSTRT ≤ j → j ≤ ENDMANT + 4 → cell_of y j ≡ cell_of x j
  unfolding through_exponents
  ends_same j h k = leaves-same through_exponents x y j g (omega arith) (inr (inl (h, k)))

  pub strategies-same : (j : ℕ) → CPLEXPSTR ≤ j → j ≤ CHEXPSTR + 47 → cell_of y j ≡ cell_of x j
  unfolding through_exponents
  strategies-same j h k = leaves-same through_exponents x y j g (omega arith) (inr (inr (inl (h, k))))

  pub block_same : cell_of y BLK ≡ cell_of x BLK
  unfolding through_exponents
  block_same = leaves-same through_exponents x y BLK g (omega arith) (inr (inr (inr (inr (inr (inr (inl (omega arith, omega arith))))))))

  pub ranged-stays : Ranged x → Ranged y
  ranged-stays r = record {
    channels = λ ch h.
        let n = nfchans-same in
        let b : cell_of y NFCHANS ≤ 5 = omega (arith, g.within.below NFCHANS, strategies-most.3) in
        rw (ends_same (ENDMANT + ch) (omega arith) (omega arith)) (r.channels ch (omega arith));
    coupling = λ h. rw (ends_same CPLSTRT (omega arith) (omega arith), ends_same CPLEND (omega arith) (omega arith)) (r.coupling (sym cplinu-same ∙ h));
  }

  -- so do strategies that are not 0
  pub new-coupling : ¬ (cell_of x (CPLEXPSTR + cell_of x BLK) ≡ 0) → ¬ (cell_of y (CPLEXPSTR + cell_of y BLK) ≡ 0)
  new-coupling n e =
      let b = blk-most y g.within in
      n (ap (λ k. cell_of x (CPLEXPSTR + k)) (sym block_same) ∙ sym (strategies-same (CPLEXPSTR + cell_of y BLK) (omega arith) (omega arith)) ∙ e)

  pub new-channel : (ch : ℕ) → ch < 5 → ¬ (cell_of x (CHEXPSTR + ch + 8 * cell_of x BLK) ≡ 0) → ¬ (cell_of y (CHEXPSTR + ch + 8 * cell_of y BLK) ≡ 0)
  new-channel ch h n e =
      let b = blk-most y g.within in
      n (ap (λ k. cell_of x (CHEXPSTR + ch + 8 * k)) (sym block_same) ∙ sym (strategies-same (CHEXPSTR + ch + 8 * cell_of y BLK) (omega arith) (omega arith)) ∙ e)

  -- and the rate, and what is settled
  pub rated-kept : Rated x → Rated y
  unfolding through_exponents
  rated-kept r =
      rated-stays x y (leaves-same through_exponents x y FSCOD g (omega arith) (inr (inr (inr (inr (inr (inr (inr (inr (inr (inl (omega arith, omega arith))))))))))))
      nfchans-same r

  pub through_same : (j : ℕ) → CPLSTRE ≤ j → j ≤ CPLINUS + 5 → cell_of y j ≡ cell_of x j
  unfolding through_exponents
  through_same j h k = leaves-same through_exponents x y j g (omega arith) (inr (inr (inr (inr (inr (inr (inr (inr (inl (h, k))))))))))

  pub settled-kept : Settled x → Settled y
  unfolding through_exponents
  settled-kept u =
      let b = blk-most y g.within in
      record {
        coded = λ ch h. rw (leaves-same through_exponents x y (CHBWCOD + ch) g (omega arith) (inr (inr (inr (inr (inr (inl (omega arith, omega arith)))))))) (u.coded ch h);
        coupled =
            rw (
              cplinu-same,
              leaves-same through_exponents x y CPLBEGF g (omega arith) (inr (inr (inr (inr (inl (omega arith, omega arith)))))),
              leaves-same through_exponents x y CPL_SUBND_END g (omega arith) (inr (inr (inr (inr (inl (omega arith, omega arith)))))),
            ) u.coupled;
        last = cplinu-same ∙ u.last ∙ ap (λ k. cell_of x (CPLINUS + k)) (sym block_same) ∙ sym (through_same (CPLINUS + cell_of y BLK) (omega arith) (omega arith));
      }
