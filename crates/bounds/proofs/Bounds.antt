-- Cells within bounds, under puts that a test permits; and what is known of some cells besides. Assumes nothing.
use mathlib.Core.Path.{◌≡◌, refl, ap, sym, ◌∙◌, subst}
use mathlib.Core.Bool.{Bool, true, false, cond, not, ◌&&◌, ◌||◌, true≢false}
use mathlib.Core.List.{List, [], ◌∷◌}
use mathlib.Core.Logic.{◌⊎◌, inl, inr, by_cases}
use Prim.Native.Nat.{ℕ, zero, suc, ◌+◌, ◌-◌, ◌*◌, ◌%◌, min, max, ◌≤◌, ◌<◌}
use native.Mathlib.Omega.{arith}
use native.Mathlib.Decide.{ℕ_discrete}
use native.Mathlib.Nat.{mul-le-mul_left}
use lib.Dec.{eqb, leb, ltb}
use lib.ListN.{replicate, length-replicate}
use borrow.Author.Tests.{leb-true, leb-false, eqb-true, eqb-false, ltb-true}
use Rattle.cells.specs.Cells.{Addr, cell_of, put_in, place_of, held_of}
use Rattle.cells.specs.Names.{FRMSIZ, HELDEND, NUMBLKS}
use Rattle.rows.specs.Syntax.{Value, Here, Let, Less, Plus, Minus, amount_of}
use Rattle.bounds.specs.Bounds.{Bound, bounds, most_in, most, Within}
use Rattle.cells.proofs.Cells.{put-sized, cell_other, cell-none}
use Rattle.bounds.proofs.Cells.{cell-mod, put-zero, cell_at, cell-beside}

pub both : (x y : Bool) → (x && y) ≡ true → (x ≡ true) × (y ≡ true)
both true y h = (refl, h)
both false y h = absurd (true≢false (sym h))

-- no bound is above what a cell holds
all_words : List Bound → Bool
all_words [] = true
all_words (r ∷ rs) = leb r.2 65535 && all_words rs

most_in-word : (rs : List Bound) (k : ℕ) → all_words rs ≡ true → most_in rs k ≤ 65535
unfolding most_in all_words
most_in-word [] k h = omega arith
most_in-word (r ∷ rs) k h = go (leb r.0 k && leb k r.1) (most_in-word rs k (both (leb r.2 65535) (all_words rs) h).1)
  where
    go : (c : Bool) → most_in rs k ≤ 65535 → cond c r.2 (most_in rs k) ≤ 65535
    go true i = leb-true r.2 65535 (both (leb r.2 65535) (all_words rs) h).0
    go false i = i

pub most-word : (k : ℕ) → most k ≤ 65535
unfolding most bounds all_words
most-word k = most_in-word bounds (k % 1024) refl

-- a cell holds less than 65,536
pub word : (m : List ℕ) (j : ℕ) → Within m → cell_of m j < 65536
word m j w = omega (arith, w.below j, most-word j)

most-mod : (x k : ℕ) → x % 1024 ≡ k → most x ≡ most k
unfolding most
most-mod x k e = let y : x % 1024 ≡ k % 1024 = omega arith in ap (most_in bounds) y

lfe-most : most (HELDEND + 6) ≡ 7
unfolding most most_in bounds
lfe-most = refl

pub frmsiz-most : most FRMSIZ ≡ 2047
unfolding most most_in bounds
frmsiz-most = refl

pub numblks-most : most NUMBLKS ≡ 6
unfolding most most_in bounds
numblks-most = refl

-- nothing is read yet
pub none_within : Within (replicate 1024 0)
none_within = record {
  sized = length-replicate {A = ℕ} 1024 0;
  below = λ j. let e = cell-none j in omega arith;
  lfe = inl (cell-none _);
}

-- a test of puts: whether a value from a to z may be put into the cell j
abbrev pub Test : Type 0
Test = ℕ → ℕ → ℕ → Bool

module _ (permits : Test) where
  -- it is permitted, and within the bounds
  unfoldable pub allow : ℕ → ℕ → ℕ → Bool
  allow j a z = eqb j 0 || (leb z (most j) && ((not (eqb j (HELDEND + 6)) || leb 7 a) && permits j a z))

  -- into each of the n + 1 cells from j on
  unfoldable pub allow_each : ℕ → ℕ → ℕ → ℕ → Bool
  allow_each j zero a z = allow j a z
  allow_each j (suc n) a z = allow j a z && allow_each (suc j) n a z

  -- which are among the 1,024
  unfoldable pub may : ℕ → ℕ → ℕ → ℕ → Bool
  may j n a z = let r = allow_each j n a z in cond (ltb (j + n) 1024) r false

  -- the value v of the cell j is one that the test permits
  pub record Permitted (j v : ℕ) : Type 0 where
    pub least : ℕ
    pub greatest : ℕ
    pub okay : permits j least greatest ≡ true
    pub above : least ≤ v
    pub below : v ≤ greatest

  -- from some cells to others: each is as before, or has a value that the test permits
  pub record Changed (x y : List ℕ) : Type 0 where
    pub within : Within y
    pub each : (j : ℕ) → j < 1024 → (cell_of y j ≡ cell_of x j) ⊎ Permitted j (cell_of y j)

  pub changed-none : (x : List ℕ) → Within x → Changed x x
  changed-none x w = record { within = w; each = λ j _. inl refl }

  pub changed_then : (x y z : List ℕ) → Changed x y → Changed y z → Changed x z
  changed_then x y z g h = record { within = h.within; each = λ j i. go j (h.each j i) (g.each j i) }
    where
      go : (j : ℕ) → (cell_of z j ≡ cell_of y j) ⊎ Permitted j (cell_of z j) → (cell_of y j ≡ cell_of x j) ⊎ Permitted j (cell_of y j) → (cell_of z j ≡ cell_of x j) ⊎ Permitted j (cell_of z j)
      go j (inl e) (inl f) = inl (e ∙ f)
      go j (inl e) (inr a) = inr (subst (Permitted j) (sym e) a)
      go j (inr a) f = inr a

  each_at : (lo n a z j : ℕ) → allow_each lo n a z ≡ true → lo ≤ j → j ≤ lo + n → allow j a z ≡ true
  unfolding allow_each
  each_at lo zero a z j h i k = let e : lo ≡ j = omega arith in subst (λ x. allow x a z ≡ true) e h
  each_at lo (suc n) a z j h i k =
      by_cases (ℕ_discrete lo j)
      (λ e. subst (λ x. allow x a z ≡ true) e (both (allow lo a z) (allow_each (suc lo) n a z) h).0)
      (λ e. each_at (suc lo) n a z j (both (allow lo a z) (allow_each (suc lo) n a z) h).1 (omega arith) (omega arith))

  may_at : (lo n a z j : ℕ) → may lo n a z ≡ true → lo ≤ j → j ≤ lo + n → (j < 1024) × (allow j a z ≡ true)
  unfolding may
  may_at lo n a z j h i k = go (ltb (lo + n) 1024) refl h
    where
      go : (c : Bool) → ltb (lo + n) 1024 ≡ c → cond c (allow_each lo n a z) false ≡ true → (j < 1024) × (allow j a z ≡ true)
      go true e g = (let b = ltb-true (lo + n) 1024 e in omega arith, each_at lo n a z j g i k)
      go false e g = absurd (true≢false (sym g))

  pub may-room : (lo n a z : ℕ) → may lo n a z ≡ true → lo + n < 1024
  may-room lo n a z h = (may_at lo n a z (lo + n) h (omega arith) (omega arith)).0

  -- what the test of one cell says
  record Said (j a z : ℕ) : Type 0 where
    most-said : z ≤ most j
    lfe-said : j ≡ HELDEND + 6 → 7 ≤ a
    test-said : permits j a z ≡ true

  said : (j a z : ℕ) → 0 < j → allow j a z ≡ true → Said j a z
  unfolding allow
  said j a z h e = go (eqb j 0) refl e
    where
      inner : (c : Bool) → eqb j (HELDEND + 6) ≡ c → ((not c || leb 7 a) && permits j a z) ≡ true → z ≤ most j → Said j a z
      inner true q k i =
          let b = both (leb 7 a) (permits j a z) k in
          record { most-said = i; lfe-said = λ _. leb-true 7 a b.0; test-said = b.1 }
      inner false q k i = record { most-said = i; lfe-said = λ x. absurd (eqb-false j (HELDEND + 6) q x); test-said = k }

      go : (c : Bool) → eqb j 0 ≡ c → (c || (leb z (most j) && ((not (eqb j (HELDEND + 6)) || leb 7 a) && permits j a z))) ≡ true → Said j a z
      go true q k = absurd (let z : j ≡ 0 = eqb-true j 0 q in omega arith)
      go false q k =
          let b = both (leb z (most j)) ((not (eqb j (HELDEND + 6)) || leb 7 a) && permits j a z) k in
          inner (eqb j (HELDEND + 6)) refl b.1 (leb-true z (most j) b.0)

  -- a put that the test allows
  pub puts : (m : List ℕ) (k v lo n a z : ℕ) → Within m → may lo n a z ≡ true → lo ≤ k → k ≤ lo + n → a ≤ v % 65536 → v % 65536 ≤ z → Changed m (put_in m k v)
  puts m k v lo n a z w h i j g f =
      by_cases (ℕ_discrete k 0) (λ e. rw e (rw (put-zero m v) (changed-none m w))) (λ e. inner e (may_at lo n a z k h i j))
    where
      inner : ¬ (k ≡ 0) → (k < 1024) × (allow k a z ≡ true) → Changed m (put_in m k v)
      inner e q =
          let d : Said k a z = said k a z (omega arith) q.1 in
          let u : k < 1024 = q.0 in
          let s : cell_of (put_in m k v) k ≡ v % 65536 = cell_at m k v w.sized (omega arith) u in
          record {
            within = record {
              sized = put-sized m k v ∙ w.sized;
              below = λ x. by_cases (ℕ_discrete (x % 1024) k)
                  (λ y. let c : cell_of (put_in m k v) x ≡ cell_of (put_in m k v) k = cell-mod (put_in m k v) x ∙ ap (cell_of (put_in m k v)) y in
                  let r = most-mod x k y in
                  omega (arith, d.most-said))
                  (λ y. rw (cell_other m k v x (λ t. y (omega arith))) (w.below x));
              lfe = by_cases (ℕ_discrete (HELDEND + 6) k)
                  (λ y. let r : 7 ≤ a = d.lfe-said (sym y) in
                  let t : z ≤ most (HELDEND + 6) = subst (λ u. z ≤ most u) (sym y) d.most-said in
                  inr (subst (λ u. cell_of (put_in m k v) u ≡ 7) (sym y) (let b = lfe-most in omega arith)))
                  (λ y. subst (λ u. (u ≡ 0) ⊎ (u ≡ 7)) (sym (cell-beside m k v (HELDEND + 6) (omega arith) u y)) w.lfe);
            };
            each = λ x b. by_cases (ℕ_discrete x k)
                (λ y. inr (subst (λ t. Permitted t (cell_of (put_in m k v) t)) (sym y) (record { least = a; greatest = z; okay = d.test-said; above = omega arith; below = omega arith })))
                (λ y. inl (cell-beside m k v x b u y));
          }

-- a test that permits no less
pub changed-more : (u v : Test) → ((j a z : ℕ) → u j a z ≡ true → v j a z ≡ true) → (x y : List ℕ) → Changed u x y → Changed v x y
changed-more u v f x y g = record { within = g.within; each = λ j i. go j (g.each j i) }
  where
    go : (j : ℕ) → (cell_of y j ≡ cell_of x j) ⊎ Permitted u j (cell_of y j) → (cell_of y j ≡ cell_of x j) ⊎ Permitted v j (cell_of y j)
    go j (inl e) = inl e
    go j (inr a) = inr (record { least = a.least; greatest = a.greatest; okay = f j a.least a.greatest a.okay; above = a.above; below = a.below })

-- what is known of some cells besides their bounds: the sum of two is at most so much. Cell 0 holds 0
abbrev pub Known : Type 0
Known = List (ℕ × ℕ × ℕ)

abbrev pub Knows : Known → List ℕ → Type 0
Knows [] m = Unit {0}
Knows (q ∷ ks) m = (cell_of m q.0 + cell_of m q.1 ≤ q.2) × Knows ks m

unfoldable pub up_to : Known → ℕ → ℕ
up_to [] k = most k
up_to (q ∷ ks) k = cond (eqb q.0 k) (min q.2 (up_to ks k)) (up_to ks k)

pub up-to : (ks : Known) (m : List ℕ) (k : ℕ) → Within m → Knows ks m → cell_of m k ≤ up_to ks k
unfolding up_to
up-to [] m k w h = w.below k
up-to (q ∷ ks) m k w h = go (eqb q.0 k) refl (up-to ks m k w h.1)
  where
    go : (c : Bool) → eqb q.0 k ≡ c → cell_of m k ≤ up_to ks k → cell_of m k ≤ cond c (min q.2 (up_to ks k)) (up_to ks k)
    go true e r =
        let i : cell_of m k + cell_of m q.1 ≤ q.2 = subst (λ x. cell_of m x + cell_of m q.1 ≤ q.2) (eqb-true q.0 k e) h.0 in
        omega arith
    go false e r = r

-- a sum of two cells, that is d at most
unfoldable pub sum_to : Known → ℕ → ℕ → ℕ → ℕ
sum_to [] j k d = d
sum_to (q ∷ ks) j k d = cond (eqb q.0 j && eqb q.1 k) (min q.2 (sum_to ks j k d)) (sum_to ks j k d)

pub sum-to : (ks : Known) (m : List ℕ) (j k d : ℕ) → Knows ks m → cell_of m j + cell_of m k ≤ d → cell_of m j + cell_of m k ≤ sum_to ks j k d
unfolding sum_to
sum-to [] m j k d h i = i
sum-to (q ∷ ks) m j k d h i = go (eqb q.0 j) (eqb q.1 k) refl refl (sum-to ks m j k d h.1 i)
  where
    go : (a b : Bool) → eqb q.0 j ≡ a → eqb q.1 k ≡ b → cell_of m j + cell_of m k ≤ sum_to ks j k d
        → cell_of m j + cell_of m k ≤ cond (a && b) (min q.2 (sum_to ks j k d)) (sum_to ks j k d)
    go true true e f r =
        let x : cell_of m q.0 ≡ cell_of m j = ap (cell_of m) (eqb-true q.0 j e) in
        let y : cell_of m q.1 ≡ cell_of m k = ap (cell_of m) (eqb-true q.1 k f) in
        let t = h.0 in
        omega arith
    go true false e f r = r
    go false b e f r = r

-- a cell among the n + 1 from lo on
abbrev among : ℕ → ℕ → ℕ → Bool
among lo n k = leb lo (k % 1024) && leb (k % 1024) (lo + n)

-- all but what is known of the n + 1 cells from the cell lo on
unfoldable pub forget : ℕ → ℕ → Known → Known
forget lo n [] = []
forget lo n (q ∷ ks) = cond (among lo n q.0 || among lo n q.1) (forget lo n ks) (q ∷ forget lo n ks)

pub forgets : (ks : Known) (m : List ℕ) (k v lo n : ℕ) → lo ≤ k → k ≤ lo + n → lo + n < 1024 → Knows ks m → Knows (forget lo n ks) (put_in m k v)
unfolding forget
forgets [] m k v lo n i j u h = tt
forgets (q ∷ ks) m k v lo n i j u h = go (among lo n q.0) (among lo n q.1) refl refl (forgets ks m k v lo n i j u h.1)
  where
    apart : (x : ℕ) (c d : Bool) → leb lo (x % 1024) ≡ c → leb (x % 1024) (lo + n) ≡ d → (c && d) ≡ false → ¬ (x % 1024 ≡ k)
    apart x true true e f g y = true≢false g
    apart x true false e f g y = let z = leb-false (x % 1024) (lo + n) f in omega arith
    apart x false d e f g y = let z = leb-false lo (x % 1024) e in omega arith

    stays : (x : ℕ) → among lo n x ≡ false → cell_of (put_in m k v) x ≡ cell_of m x
    stays x e = cell_other m k v x (λ y. apart x (leb lo (x % 1024)) (leb (x % 1024) (lo + n)) refl refl e (omega arith))

    go : (a b : Bool) → among lo n q.0 ≡ a → among lo n q.1 ≡ b → Knows (forget lo n ks) (put_in m k v) → Knows (cond (a || b) (forget lo n ks) (q ∷ forget lo n ks)) (put_in m k v)
    go true b e f r = r
    go false true e f r = r
    go false false e f r = (let x = stays q.0 e in let y = stays q.1 f in let z = h.0 in omega arith, r)

-- an address: how many cells past its base it may come to; the value that it may have there
unfoldable pub spread : Addr → Known → ℕ
spread a ks = up_to ks a.by + 8 * up_to ks a.row

-- the most of the n + 1 cells from k on
unfoldable pub most_over : ℕ → ℕ → ℕ
most_over k zero = most k
most_over k (suc n) = max (most k) (most_over (suc k) n)

-- an array has at most 64 cells
unfoldable pub value_at : Addr → Known → ℕ
value_at a ks =
    let r = most_over a.base (spread a ks) in
    cond (eqb (spread a ks) 0) (up_to ks a.base) (cond (ltb (spread a ks) 64) r 65535)

pub spreads : (a : Addr) (ks : Known) (m : List ℕ) → Within m → Knows ks m → (a.base ≤ place_of a m) × (place_of a m ≤ a.base + spread a ks)
unfolding spread
spreads a ks m w h = let x = up-to ks m a.by w h in let y = up-to ks m a.row w h in omega arith

-- no counter picks it
pub place_base : (a : Addr) (ks : Known) (m : List ℕ) → Within m → Knows ks m → eqb (spread a ks) 0 ≡ true → place_of a m ≡ a.base
place_base a ks m w h e =
    let z : spread a ks ≡ 0 = eqb-true (spread a ks) 0 e in
    let s = spreads a ks m w h in
    omega arith

pub most-over : (lo n k : ℕ) → lo ≤ k → k ≤ lo + n → most k ≤ most_over lo n
unfolding most_over
most-over lo zero k i j = let e : lo ≡ k = omega arith in subst (λ x. most x ≤ most lo) e (omega arith)
most-over lo (suc n) k i j =
    by_cases (ℕ_discrete lo k)
    (λ e. subst (λ x. most x ≤ max (most lo) (most_over (suc lo) n)) e (omega arith))
    (λ e. omega (arith, most-over (suc lo) n k (omega arith) (omega arith)))

pub value-at : (a : Addr) (ks : Known) (m : List ℕ) → Within m → Knows ks m → held_of a m ≤ value_at a ks
unfolding value_at
value-at a ks m w h = go (eqb (spread a ks) 0) (ltb (spread a ks) 64) refl
  where
    go : (c d : Bool) → eqb (spread a ks) 0 ≡ c → held_of a m ≤ cond c (up_to ks a.base) (cond d (most_over a.base (spread a ks)) 65535)
    go true d e = rw (place_base a ks m w h e) (up-to ks m a.base w h)
    go false true e =
        let s = spreads a ks m w h in
        omega (arith, w.below (place_of a m), most-over a.base (spread a ks) (place_of a m) s.0 s.1)
    go false false e = omega (arith, w.below (place_of a m), most-word (place_of a m))

-- the least and the most that a value comes to
unfoldable pub least_of : Value → ℕ
least_of Here = 0
least_of (Let x y a) = x
least_of (Less x y a) = 0
least_of (Plus a k) = 0
least_of (Minus a k) = 0

unfoldable pub greatest_of : Value → Known → ℕ
greatest_of Here ks = 65536
greatest_of (Let x y a) ks = x + y * value_at a ks
greatest_of (Less x y a) ks = y * value_at a ks - x
greatest_of (Plus a k) ks = cond (eqb (spread a ks) 0) (sum_to ks a.base k (up_to ks a.base + up_to ks k)) (value_at a ks + up_to ks k)
greatest_of (Minus a k) ks = value_at a ks

-- as it is held: one that does not fit may be anything
unfoldable pub held_least : Value → Known → ℕ
held_least v ks = cond (leb (greatest_of v ks) 65535) (least_of v) 0

unfoldable pub held_most : Value → Known → ℕ
held_most v ks = min (greatest_of v ks) 65535

sums : (a : Addr) (k : ℕ) (ks : Known) (m : List ℕ) → Within m → Knows ks m
    → held_of a m + cell_of m k ≤ cond (eqb (spread a ks) 0) (sum_to ks a.base k (up_to ks a.base + up_to ks k)) (value_at a ks + up_to ks k)
sums a k ks m w h = go (eqb (spread a ks) 0) refl
  where
    go : (c : Bool) → eqb (spread a ks) 0 ≡ c → held_of a m + cell_of m k ≤ cond c (sum_to ks a.base k (up_to ks a.base + up_to ks k)) (value_at a ks + up_to ks k)
    go true e =
        rw (place_base a ks m w h e)
        (sum-to ks m a.base k (up_to ks a.base + up_to ks k) h (let x = up-to ks m a.base w h in let y = up-to ks m k w h in omega arith))
    go false e = let x = value-at a ks m w h in let y = up-to ks m k w h in omega arith

-- but for the present place, a value lies between them
pub ranges : (v : Value) (ks : Known) (m : List ℕ) (p : ℕ) → Within m → Knows ks m → greatest_of v ks ≤ 65535 → (least_of v ≤ amount_of v p m) × (amount_of v p m ≤ greatest_of v ks)
unfolding least_of greatest_of
ranges Here ks m p w h i = absurd (let z : ⊥ = omega arith in z)
ranges (Let x y a) ks m p w h i = let r = mul-le-mul_left y (value-at a ks m w h) in (omega arith, omega arith)
ranges (Less x y a) ks m p w h i = let r = mul-le-mul_left y (value-at a ks m w h) in (omega arith, omega arith)
ranges (Plus a k) ks m p w h i = (omega arith, sums a k ks m w h)
ranges (Minus a k) ks m p w h i = let t = value-at a ks m w h in (omega arith, omega arith)

pub held-range : (v : Value) (ks : Known) (m : List ℕ) (p : ℕ) → Within m → Knows ks m → (held_least v ks ≤ amount_of v p m % 65536) × (amount_of v p m % 65536 ≤ held_most v ks)
unfolding held_least held_most
held-range v ks m p w h = go (leb (greatest_of v ks) 65535) refl
  where
    x : ℕ
    x = amount_of v p m

    go : (c : Bool) → leb (greatest_of v ks) 65535 ≡ c → (cond c (least_of v) 0 ≤ x % 65536) × (x % 65536 ≤ min (greatest_of v ks) 65535)
    go true e =
        let i = leb-true (greatest_of v ks) 65535 e in
        let r = ranges v ks m p w h i in
        let z : x % 65536 ≡ x = omega arith in
        (omega arith, omega arith)
    go false e = let i = leb-false (greatest_of v ks) 65535 e in (omega arith, omega arith)
