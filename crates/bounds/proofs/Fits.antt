-- The computed test over a syntax: every put is allowed. And what it shows of a reading. Assumes nothing.
use mathlib.Core.Path.{◌≡◌, refl, ap, subst}
use mathlib.Core.Bool.{Bool, true, false, cond, not, ◌&&◌}
use mathlib.Core.List.{List, [], ◌∷◌}
use mathlib.Core.Logic.{◌⊎◌, inl, inr}
use Prim.Native.Nat.{ℕ, zero, suc, ◌+◌, ◌-◌, ◌*◌, ◌%◌, ◌^◌, max, ◌≤◌, ◌<◌}
use native.Mathlib.Omega.{arith}
use lib.Dec.{eqb, ltb}
use lib.ListN.{length, get_or}
use borrow.Author.Tests.{eqb-true, eqb-false, ltb-true, not-true}
use Rattle.reading.specs.Run.{Entry}
use Rattle.slots.specs.Held.{Bins, bins}
use Rattle.cells.specs.Cells.{State, state, Addr, cell_of, put_in, puts_in, stored, place_of, held_of}
use Rattle.rows.specs.Syntax.{Count, Fixed, Held, Value, Here, Let, Less, Plus, Minus, Item, Block, element, elements, span, mantissas, exponents, when, each, reject, reject_at, put, fill, derive, end, ◌⨾◌, count_of, amount_of, filled}
use Rattle.bounds.specs.Along.{Point}
use Rattle.bounds.specs.Bounds.{tags_most, Within}
use Rattle.cells.proofs.Cells.{cell_other}
use Rattle.bounds.proofs.Cells.{cell-zero, cell-put}
use Rattle.bounds.proofs.Bounds.{both, Test, may, may-room, Permitted, Changed, changed-none, changed_then, changed-more, puts, Known, Knows, up_to, forget, up-to, forgets, spread, spreads, place_base, value_at, value-at, held_least, held_most, held-range}
use Rattle.bounds.proofs.Derived.{fits_derived, derived-changes}
use Rattle.bounds.proofs.Walking.{Grows, grows-refl, grows-trans, Walks, Walked, walks-end, walks_next, walks-map, walked-element, walked-elements, walked-span, walked-mantissas, walked-exponents, walked-when, walked-reject, walked-reject-at, walked_put, walked-fill, walked-derive, walked-each}

-- the most that a loop counts to
unfoldable pub count_most : Count → Known → ℕ
count_most (Fixed n) ks = n
count_most (Held a) ks = value_at a ks

counts : (n : Count) (ks : Known) (m : List ℕ) → Within m → Knows ks m → count_of n m ≤ count_most n ks
unfolding count_most
counts (Fixed n) ks m w f = omega arith
counts (Held a) ks m w f = value-at a ks m w f

-- the counter k of a loop is below its end: so is its sum with a cell, where the sum of that cell and the end's is known
unfoldable pub sums_to : ℕ → ℕ → Known → Known
sums_to k e [] = []
sums_to k e (q ∷ ks) = cond (eqb q.0 e && (ltb 0 q.1 && ltb q.1 1024)) ((k, q.1, q.2 - 1) ∷ sums_to k e ks) (sums_to k e ks)

unfoldable pub loop_sums : ℕ → Count → Known → Known
loop_sums k (Fixed n) ks = []
loop_sums k (Held a) ks = cond (eqb (spread a ks) 0) (sums_to k a.base ks) []

-- while nothing is put into that cell
unfoldable pub apart : Known → Test → Test
apart [] permits = permits
apart (q ∷ ks) permits = λ j a z. not (eqb j q.1) && apart ks permits j a z

apart_more : (ks : Known) (permits : Test) (x y : List ℕ) → Changed (apart ks permits) x y → Changed permits x y
unfolding apart
apart_more [] permits x y g = g
apart_more (q ∷ ks) permits x y g =
    apart_more ks permits x y (changed-more (apart (q ∷ ks) permits) (apart ks permits) (λ j a z h. (both (not (eqb j q.1)) (apart ks permits j a z) h).1) x y g)

sums-known : (permits : Test) (k e : ℕ) (ks : Known) (x y : List ℕ) (j : ℕ) → Knows ks x → cell_of y k ≤ j → j < cell_of x e → Changed (apart (sums_to k e ks) permits) x y → Knows (sums_to k e ks) y
unfolding sums_to apart
sums-known permits k e [] x y j h i d g = tt
sums-known permits k e (q ∷ ks) x y j h i d g = go (eqb q.0 e) (ltb 0 q.1) (ltb q.1 1024) refl refl g (λ r. sums-known permits k e ks x y j h.1 i d r)
  where
    rest : Known
    rest = sums_to k e ks

    new : Known
    new = (k, q.1, q.2 - 1) ∷ rest

    stays : (cell_of y q.1 ≡ cell_of x q.1) ⊎ Permitted (apart new permits) q.1 (cell_of y q.1) → cell_of y q.1 ≡ cell_of x q.1
    stays (inl c) = c
    stays (inr a) =
        absurd (eqb-false q.1 q.1 (not-true (eqb q.1 q.1) (both (not (eqb q.1 q.1)) (apart rest permits q.1 a.least a.greatest) a.okay).0) refl)

    go : (a b c : Bool) → eqb q.0 e ≡ a → ltb q.1 1024 ≡ c → Changed (apart (cond (a && (b && c)) new rest) permits) x y → (Changed (apart rest permits) x y → Knows rest y)
        → Knows (cond (a && (b && c)) new rest) y
    go true true true u v g r =
        let t : cell_of y q.1 ≡ cell_of x q.1 = stays (g.each q.1 (ltb-true q.1 1024 v)) in
        let o : cell_of x q.0 ≡ cell_of x e = ap (cell_of x) (eqb-true q.0 e u) in
        let z = h.0 in
        (omega arith, r (changed-more (apart new permits) (apart rest permits) (λ j a z h. (both (not (eqb j q.1)) (apart rest permits j a z) h).1) x y g))
    go true true false u v g r = r g
    go true false c u v g r = r g
    go false b c u v g r = r g

loop-sums : (permits : Test) (k : ℕ) (n : Count) (ks : Known) (x y : List ℕ) (j : ℕ) → Within x → Knows ks x → cell_of y k ≤ j → j < count_of n x → Changed (apart (loop_sums k n ks) permits) x y
    → Knows (loop_sums k n ks) y
unfolding loop_sums
loop-sums permits k (Fixed n) ks x y j w h i d g = tt
loop-sums permits k (Held a) ks x y j w h i d g = go (eqb (spread a ks) 0) refl g
  where
    go : (c : Bool) → eqb (spread a ks) 0 ≡ c → Changed (apart (cond c (sums_to k a.base ks) []) permits) x y → Knows (cond c (sums_to k a.base ks) []) y
    go true e g = let t : held_of a x ≡ cell_of x a.base = ap (cell_of x) (place_base a ks x w h e) in sums-known permits k a.base ks x y j h i (omega arith) g
    go false e g = tt

-- what is known after a put of at most z
unfoldable pub learn : Addr → ℕ → Known → Known
learn a z ks = cond (eqb (spread a ks) 0) ((a.base, 0, z) ∷ forget a.base (spread a ks) ks) (forget a.base (spread a ks) ks)

-- and of a difference: its sum with what was taken off
unfoldable pub learn_sum : Addr → Value → Known → Known → Known
learn_sum a Here ks rest = rest
learn_sum a (Let x y b) ks rest = rest
learn_sum a (Less x y b) ks rest = rest
learn_sum a (Plus b k) ks rest = rest
learn_sum a (Minus b k) ks rest = cond (eqb (spread a ks) 0 && not (eqb (a.base % 1024) (k % 1024))) ((a.base, k, max (value_at b ks) (up_to ks k)) ∷ rest) rest

unfoldable pub next_of : Item → Known → Known
next_of (element name i w a) ks = learn a (2 ^ w - 1) ks
next_of (elements name i w a k f n) ks = []
next_of (span name k) ks = ks
next_of (mantissas name a) ks = []
next_of (exponents s name i) ks = ks
next_of (when c b) ks = []
next_of (each k i n b) ks = []
next_of (reject c n) ks = ks
next_of (reject_at c n k) ks = ks
next_of (put a v) ks = learn_sum a v ks (learn a (held_most v ks) ks)
next_of (fill k n x y a) ks = []
next_of (derive k) ks = []

learns : (a : Addr) (v z : ℕ) (ks : Known) (m : List ℕ) → Within m → Knows ks m → a.base + spread a ks < 1024 → v % 65536 ≤ z → Knows (learn a z ks) (put_in m (place_of a m) v)
unfolding learn
learns a v z ks m w f r h = go (eqb (spread a ks) 0) refl
  where
    s : (a.base ≤ place_of a m) × (place_of a m ≤ a.base + spread a ks)
    s = spreads a ks m w f

    rest : Knows (forget a.base (spread a ks) ks) (put_in m (place_of a m) v)
    rest = forgets ks m (place_of a m) v a.base (spread a ks) s.0 s.1 r f

    go : (c : Bool) → eqb (spread a ks) 0 ≡ c
        → Knows (cond c ((a.base, 0, z) ∷ forget a.base (spread a ks) ks) (forget a.base (spread a ks) ks)) (put_in m (place_of a m) v)
    go true e =
        let p : place_of a m ≡ a.base = place_base a ks m w f e in (
          subst (λ k. cell_of (put_in m (place_of a m) v) k + cell_of (put_in m (place_of a m) v) 0 ≤ z) p
              (let y = cell-put m (place_of a m) v w.sized in let o = cell-zero (put_in m (place_of a m) v) in omega arith),
          rest,
        )
    go false e = rest

learns-sum : (a : Addr) (v : Value) (ks rest : Known) (m : List ℕ) (p : ℕ) → Within m → Knows ks m → Knows rest (put_in m (place_of a m) (amount_of v p m))
    → Knows (learn_sum a v ks rest) (put_in m (place_of a m) (amount_of v p m))
unfolding learn_sum
learns-sum a Here ks rest m p w f h = h
learns-sum a (Let x y b) ks rest m p w f h = h
learns-sum a (Less x y b) ks rest m p w f h = h
learns-sum a (Plus b k) ks rest m p w f h = h
learns-sum a (Minus b k) ks rest m p w f h = go (eqb (spread a ks) 0) (eqb (a.base % 1024) (k % 1024)) refl refl
  where
    v : ℕ
    v = held_of b m - cell_of m k

    n : List ℕ
    n = put_in m (place_of a m) v

    go : (c d : Bool) → eqb (spread a ks) 0 ≡ c → eqb (a.base % 1024) (k % 1024) ≡ d → Knows (cond (c && not d) ((a.base, k, max (value_at b ks) (up_to ks k)) ∷ rest) rest) n
    go true false e d =
        let q : place_of a m ≡ a.base = place_base a ks m w f e in
        let t : cell_of n a.base ≤ v % 65536 = subst (λ x. cell_of n x ≤ v % 65536) q (cell-put m (place_of a m) v w.sized) in
        let o : cell_of n k ≡ cell_of m k = cell_other m (place_of a m) v k (λ z. eqb-false (a.base % 1024) (k % 1024) d (omega arith)) in
        let x = value-at b ks m w f in
        let y = up-to ks m k w f in
        (omega arith, h)
    go true true e d = h
    go false d e _ = h

-- n cells from k on
unfoldable pub may_fill : Test → ℕ → ℕ → ℕ → ℕ → Bool
may_fill permits k zero a z = true
may_fill permits k (suc n) a z = may permits k n a z

filled-changes : (permits : Test) (m : List ℕ) (k v n i a z : ℕ) → Within m → may permits k n a z ≡ true → i ≤ suc n → a ≤ v % 65536 → v % 65536 ≤ z → Changed permits m (filled i k v m)
unfolding filled
filled-changes permits m k v n zero a z w h b c d = changed-none permits m w
filled-changes permits m k v n (suc i) a z w h b c d =
    let g = filled-changes permits m k v n i a z w h (omega arith) c d in
    changed_then permits m (filled i k v m) (put_in (filled i k v m) (k + i) v) g (puts permits (filled i k v m) (k + i) v k n a z g.within h (omega arith) (omega arith) c d)

fill-changes : (permits : Test) (m : List ℕ) (k v n a z : ℕ) → Within m → may_fill permits k n a z ≡ true → a ≤ v % 65536 → v % 65536 ≤ z → Changed permits m (filled n k v m)
unfolding may_fill filled
fill-changes permits m k v zero a z w h c d = changed-none permits m w
fill-changes permits m k v (suc n) a z w h c d = filled-changes permits m k v n (suc n) a z w h (omega arith) c d

-- numbers put one after another: any, and those that the mantissas tell
listed-changes : (permits : Test) (m : List ℕ) (k : ℕ) (vs : List ℕ) (lo n : ℕ) → Within m → may permits lo n 0 65535 ≡ true → lo ≤ k → k + length vs ≤ suc (lo + n) → Changed permits m (puts_in m k vs)
unfolding puts_in
listed-changes permits m k [] lo n w h i j = changed-none permits m w
listed-changes permits m k (v ∷ vs) lo n w h i j =
    let g = puts permits m k v lo n 0 65535 w h i (omega arith) (omega arith) (omega arith) in
    changed_then permits m (put_in m k v) (puts_in (put_in m k v) (suc k) vs) g (listed-changes permits (put_in m k v) (suc k) vs lo n g.within h (omega arith) (omega arith))

pub told-changes : (permits : Test) (m : List ℕ) (k : ℕ) (vs : List ℕ) (lo n : ℕ) → Within m → length vs ≡ 8 → get_or vs 0 0 ≤ tags_most
    → may permits lo n 0 tags_most ≡ true → may permits (suc lo) (n + 6) 0 65535 ≡ true → lo ≤ k → k ≤ lo + n → Changed permits m (puts_in m k vs)
unfolding puts_in
told-changes permits m k [] lo n w e t h f i j = absurd (let z : ⊥ = omega arith in z)
told-changes permits m k (v ∷ vs) lo n w e t h f i j =
    let g = puts permits m k v lo n 0 tags_most w h i j (omega arith) (omega arith) in
    changed_then permits m (put_in m k v) (puts_in (put_in m k v) (suc k) vs) g (listed-changes permits (put_in m k v) (suc k) vs (suc lo) (n + 6) g.within f (omega arith) (omega arith))

-- the items of which what is asked along a reading follows from the bounds
module _ (by_bounds : Item → Bool) where
  unfoldable mutual
    pub fits_in : Test → Item → Known → Bool
    fits_in permits (element name i w a) ks = may permits a.base (spread a ks) 0 (2 ^ w - 1)
    fits_in permits (elements name i w a k f n) ks =
        by_bounds (element name i w a) && (may permits k 0 0 (up_to ks n - 1) && may permits a.base (spread a ((k, 0, up_to ks n - 1) ∷ [])) 0 (2 ^ w - 1))
    fits_in permits (span name k) ks = true
    fits_in permits (mantissas name a) ks = may permits a.base (spread a ks) 0 tags_most && may permits (suc a.base) (spread a ks + 6) 0 65535
    fits_in permits (exponents s name i) ks = true
    fits_in permits (when c b) ks = fits permits b ks
    fits_in permits (each k i n b) ks =
        may (apart (loop_sums k n ks) permits) k 0 0 (count_most n ks - 1)
        && fits (apart (loop_sums k n ks) permits) b ((k, 0, count_most n ks - 1) ∷ loop_sums k n ks)
    fits_in permits (reject c n) ks = true
    fits_in permits (reject_at c n k) ks = true
    fits_in permits (put a v) ks = may permits a.base (spread a ks) (held_least v ks) (held_most v ks)
    fits_in permits (fill k n x y a) ks = may_fill permits k n (held_least (Let x y a) ks) (held_most (Let x y a) ks)
    fits_in permits (derive k) ks = fits_derived permits k

    pub fits : Test → Block → Known → Bool
    fits permits end ks = true
    fits permits (i ⨾ b) ks = by_bounds i && (fits_in permits i ks && fits permits b (next_of i ks))

  module _ (s : List ℕ) (l : ℕ) (Q : Item → Point)
      (granted : (i : Item) (st : State) (p : ℕ) (es : List Entry) → by_bounds i ≡ true → Within st.cells → Q i st p es) where
    -- from some cells and records to others
    pub record Reached (permits : Test) (st : State) (es : List Entry) (a : State) (q : ℕ) (fs : List Entry) : Type 0 where
      pub changed : Changed permits st.cells a.cells
      pub grows : Grows es fs

    reached_then : (permits : Test) (x y z : State) (es fs gs : List Entry) (p q : ℕ) → Reached permits x es y p fs → Reached permits y fs z q gs → Reached permits x es z q gs
    reached_then permits x y z es fs gs p q c d = record {
      changed = changed_then permits x.cells y.cells z.cells c.changed d.changed;
      grows = grows-trans es fs gs c.grows d.grows;
    }

    record Next (permits : Test) (ks : Known) (st : State) (es : List Entry) (a : State) (q : ℕ) (fs : List Entry) : Type 0 where
      reached : Reached permits st es a q fs
      knows : Knows ks a.cells

    -- an item that puts nothing; one that puts a value
    next-same : (permits : Test) (ks : Known) (st : State) (b : Bins) (es fs : List Entry) (q : ℕ) → Within st.cells → Knows ks st.cells → Grows es fs → Next permits ks st es (state st.cells b) q fs
    next-same permits ks st b es fs q w f g = record { reached = record { changed = changed-none permits st.cells w; grows = g }; knows = f }

    next-put : (permits : Test) (a : Addr) (v y z : ℕ) (ks : Known) (st : State) (es fs : List Entry) (q : ℕ) → Within st.cells → Knows ks st.cells
        → may permits a.base (spread a ks) y z ≡ true → y ≤ v % 65536 → v % 65536 ≤ z → Grows es fs
        → Next permits (learn a z ks) st es (stored st (place_of a st.cells) v) q fs
    next-put permits a v y z ks st es fs q w f h i j g =
        let s = spreads a ks st.cells w f in
        record {
          reached = record { changed = puts permits st.cells (place_of a st.cells) v a.base (spread a ks) y z w h s.0 s.1 i j; grows = g };
          knows = learns a v z ks st.cells w f (may-room permits a.base (spread a ks) y z h) j;
        }

    mutual
      unfolding fits next_of

      fits-item : (permits : Test) (i : Item) (ks : Known) → fits_in permits i ks ≡ true → (st : State) (p : ℕ) (es : List Entry) → Within st.cells → Knows ks st.cells
          → Walked s l Q i st p es (Next permits (next_of i ks) st es)
      fits-item permits (element name i b a) ks h st p es w f =
          walked-element s l Q name i b a st p es
          (λ v fs k g _. next-put permits a v 0 (2 ^ b - 1) ks st es fs (p + b) w f h (omega arith) (omega arith) g)
      fits-item permits (elements name i b a k o n) ks h st p es w f =
          let m = both (by_bounds (element name i b a)) (may permits k 0 0 (up_to ks n - 1) && may permits a.base (spread a ((k, 0, up_to ks n - 1) ∷ [])) 0 (2 ^ b - 1)) h in
          let t = both (may permits k 0 0 (up_to ks n - 1)) (may permits a.base (spread a ((k, 0, up_to ks n - 1) ∷ [])) 0 (2 ^ b - 1)) m.1 in
          let c = up-to ks st.cells n w f in
          walked-elements s l Q name i b a k o n st p es (λ j x q fs. Reached permits st es x q fs)
          (record { changed = changed-none permits st.cells w; grows = grows-refl es })
          (λ j x q fs r d.
          let e : Changed permits x.cells (put_in x.cells k j) = puts permits x.cells k j k 0 0 (up_to ks n - 1) d.changed.within t.0 (omega arith) (omega arith) (omega arith) (omega arith) in
          let held = cell-put x.cells k j d.changed.within.sized in
          let o = cell-zero (put_in x.cells k j) in (
            granted (element name i b a) (stored x k j) q fs m.0 e.within,
            λ v gs u g.
                let y = next-put permits a v 0 (2 ^ b - 1) ((k, 0, up_to ks n - 1) ∷ []) (stored x k j) fs gs (q + b) e.within (omega arith, tt) t.1 (omega arith) (omega arith) g in
                reached_then permits st x _ es fs gs q (q + b) d (record { changed = changed_then permits x.cells (put_in x.cells k j) _ e y.reached.changed; grows = g }),
          ))
          (λ j x q fs r d. record { reached = d; knows = tt })
      fits-item permits (span name k) ks h st p es w f = walked-span s l Q name k st p es (λ q fs g. next-same permits ks st st.bins es fs q w f g)
      fits-item permits (mantissas name a) ks h st p es w f =
          let t = both (may permits a.base (spread a ks) 0 tags_most) (may permits (suc a.base) (spread a ks + 6) 0 65535) h in
          let s' = spreads a ks st.cells w f in
          walked-mantissas s l Q name a st p es
          (λ vs q fs n v g _ _ _ _. record {
            reached = record {
              changed = told-changes permits st.cells (place_of a st.cells) vs a.base (spread a ks) w n v t.0 t.1 s'.0 s'.1;
              grows = g;
            };
            knows = tt;
          })
      fits-item permits (exponents x name i) ks h st p es w f = walked-exponents s l Q x name i st p es (λ e q fs g. next-same permits ks st (bins e st.bins.baps) es fs q w f g)
      fits-item permits (when c b) ks h st p es w f =
          walked-when s l Q c b st p es
          (λ e. walks-map s l Q (λ a q fs d. record { reached = d; knows = tt }) (fits-block permits b ks h st p es w f))
          (λ e. next-same permits [] st st.bins es es p w tt (grows-refl es))
      fits-item permits (each k i n b) ks h st p es w f =
          let ss = loop_sums k n ks in
          let P = apart ss permits in
          let ns : Known = (k, 0, count_most n ks - 1) ∷ ss in
          let t = both (may P k 0 0 (count_most n ks - 1)) (fits P b ns) h in
          let c = counts n ks st.cells w f in
          walked-each s l Q k i n b st p es (λ j a q fs. Reached P st es a q fs)
          (record { changed = changed-none P st.cells w; grows = grows-refl es })
          (λ j a q fs r d.
          let g : Changed P a.cells (put_in a.cells k j) = puts P a.cells k j k 0 0 (count_most n ks - 1) d.changed.within t.0 (omega arith) (omega arith) (omega arith) (omega arith) in
          let held = cell-put a.cells k j d.changed.within.sized in
          let o = cell-zero (put_in a.cells k j) in
          let kn = loop-sums permits k n ks st.cells (put_in a.cells k j) j w f (omega arith) r (changed_then P st.cells a.cells (put_in a.cells k j) d.changed g) in
          walks-map s l Q
          (λ x u gs y. reached_then P st a x es fs gs q u d (record { changed = changed_then P a.cells (put_in a.cells k j) x.cells g y.changed; grows = y.grows }))
          (fits-block P b ns t.1 (stored a k j) q fs g.within (omega arith, kn)))
          (λ j a q fs r d. record { reached = record { changed = apart_more ss permits st.cells a.cells d.changed; grows = d.grows }; knows = tt })
      fits-item permits (reject c n) ks h st p es w f = walked-reject s l Q c n st p es (λ e. next-same permits ks st st.bins es es p w f (grows-refl es))
      fits-item permits (reject_at c n k) ks h st p es w f = walked-reject-at s l Q c n k st p es (λ e. next-same permits ks st st.bins es es p w f (grows-refl es))
      fits-item permits (put a v) ks h st p es w f =
          let r = held-range v ks st.cells p w f in
          let x = next-put permits a (amount_of v p st.cells) (held_least v ks) (held_most v ks) ks st es es p w f h r.0 r.1 (grows-refl es) in
          walked_put s l Q a v st p es (record { reached = x.reached; knows = learns-sum a v ks (learn a (held_most v ks) ks) st.cells p w f x.knows })
      fits-item permits (fill k n x y a) ks h st p es w f =
          let r = held-range (Let x y a) ks st.cells p w f in
          walked-fill s l Q k n x y a st p es
          (record { reached = record { changed = fill-changes permits st.cells k (x + y * held_of a st.cells) n (held_least (Let x y a) ks) (held_most (Let x y a) ks) w h r.0 r.1; grows = grows-refl es }; knows = tt })
      fits-item permits (derive k) ks h st p es w f =
          walked-derive s l Q k st p es (λ _. record { reached = record { changed = derived-changes permits k st w h; grows = grows-refl es }; knows = tt })

      pub fits-block : (permits : Test) (b : Block) (ks : Known) → fits permits b ks ≡ true → (st : State) (p : ℕ) (es : List Entry) → Within st.cells → Knows ks st.cells
          → Walks s l Q b st p es (Reached permits st es)
      fits-block permits end ks h st p es w f = walks-end s l Q st p es (record { changed = changed-none permits st.cells w; grows = grows-refl es })
      fits-block permits (i ⨾ b) ks h st p es w f =
          let t = both (by_bounds i) (fits_in permits i ks && fits permits b (next_of i ks)) h in
          let u = both (fits_in permits i ks) (fits permits b (next_of i ks)) t.1 in
          walks_next s l Q i b st p es (granted i st p es t.0 w) (fits-item permits i ks u.0 st p es w f)
          (λ a q fs d. walks-map s l Q (λ x r gs y. reached_then permits st a x es fs gs q r d.reached y)
          (fits-block permits b (next_of i ks) u.1 a q fs d.reached.changed.within d.knows))
