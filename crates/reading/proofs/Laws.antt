-- Laws of every run: places only grow, the records tile, elements tell their bits, records lie within the run, an accepted run stays within the limit.
-- Assumes nothing.
use mathlib.Core.Path.{◌≡◌, refl}
use mathlib.Core.Bool.{Bool, true, false, not, cond, true≢false}
use mathlib.Core.List.{List, [], ◌∷◌, ◌++◌}
use Prim.Native.Nat.{ℕ, ◌+◌, ◌-◌, ◌≤◌}
use native.Mathlib.Omega.{arith}
use lib.Dec.{leb, T, leb→le}
use Rattle.bits.specs.Bits.{bits_at}
use Rattle.reading.specs.Tree.{Skim, stop, fail, at, take, Tree, done, refuse, ahead, here, read, span, scan}
use Rattle.reading.specs.Run.{Entry, end, Result, accepted, refused, Outcome, out, cons, skim, run, after, and_then}
use Rattle.reading.specs.Records.{All, Tiles, Whole, Tiled, Valued}

abbrev pub Ok : {A : Type 0} → Result A → Type 0
Ok (accepted a) = Unit {0}
Ok (refused n) = ⊥

-- a test, in any predicate of what it chooses between: two outcomes, two trees
pub test : {A : Type 0} (P : Outcome A → Type 0) (c : Bool) {o u : Outcome A} → (T c → P o) → (T (not c) → P u) → P (cond c o u)
test P true f g = f tt
test P false f g = g tt

pub choice : {A : Type 0} (P : Tree A → Type 0) (c : Bool) {t u : Tree A} → (T c → P t) → (T (not c) → P u) → P (cond c t u)
choice P true f g = f tt
choice P false f g = g tt

-- reading inside a span makes no record, and its place grows
pub record Skimmed {A : Type 0} (p : ℕ) (o : Outcome A) : Type 0 where
  pub bare : o.records ≡ []
  pub ahead : p ≤ o.place

pub skimmed : {A : Type 0} (s : Skim A) (b : List ℕ) (p l : ℕ) → Skimmed p (skim s b p l)
unfolding skim
skimmed (stop a) b p l = record { bare = refl; ahead = omega arith }
skimmed (fail n) b p l = record { bare = refl; ahead = omega arith }
skimmed (at k) b p l = skimmed (k p) b p l
skimmed (take w k) b p l =
    test (Skimmed p) (leb (p + w) l)
    (λ _. let r = skimmed (k (bits_at b p w)) b (p + w) l in record { bare = r.bare; ahead = omega (arith, r.ahead) })
    (λ _. record { bare = refl; ahead = omega arith })

-- a property of what follows a span's inside
pub after-skim : {A B : Type 0} (P : Outcome B → Type 0) {p : ℕ} (o : Outcome A) (f : A → ℕ → Outcome B) → Skimmed p o
    → ((a : A) (e : ℕ) → p ≤ e → P (f a e)) → ((n e : ℕ) → p ≤ e → P (out (refused n) e [])) → P (after o f)
unfolding after
after-skim {A} P o f s k g = go o.result
  where
    go : (r : Result A) → P (and_then r o.place o.records f)
    go (accepted a) = rw s.bare (k a o.place s.ahead)
    go (refused n) = rw s.bare (g n o.place s.ahead)

pub grows : {A : Type 0} (t : Tree A) (b : List ℕ) (p l : ℕ) → p ≤ (run t b p l).place
unfolding run
grows (done a) b p l = omega arith
grows (refuse n) b p l = omega arith
grows (ahead n w) b p l = omega arith
grows (here k) b p l = grows (k p) b p l
grows (read q w k) b p l =
    test (λ o. p ≤ o.place) (leb (p + w) l) (λ _. omega (arith, grows (k (bits_at b p w)) b (p + w) l)) (λ _. omega arith)
grows (span q w t) b p l = test (λ o. p ≤ o.place) (leb (p + w) l) (λ _. omega (arith, grows t b (p + w) l)) (λ _. omega arith)
grows (scan q s k) b p l =
    after-skim (λ o. p ≤ o.place) (skim s b p l) _ (skimmed s b p l) (λ v e h. omega (arith, grows (k v) b e l)) (λ n e h. h)

pub tiles-append : (p m n : ℕ) (es fs : List Entry) → Tiles p es m → Tiles m fs n → Tiles p (es ++ fs) n
tiles-append p m n [] fs h k = rw h k
tiles-append p m n (e ∷ es) fs h k = (h.0, tiles-append (end e.field) m n es fs h.1 k)

pub all_map : {P Q : Entry → Type 0} (es : List Entry) → ((e : Entry) → P e → Q e) → All P es → All Q es
all_map [] f h = tt
all_map (e ∷ es) f h = (f e h.0, all_map es f h.1)

pub all_append : (P : Entry → Type 0) (es fs : List Entry) → All P es → All P fs → All P (es ++ fs)
all_append P [] fs h k = k
all_append P (e ∷ es) fs h k = (h.0, all_append P es fs h.1 k)

pub tiles-le : (p m : ℕ) (es : List Entry) → Tiles p es m → p ≤ m
tiles-le p m [] h = omega arith
tiles-le p m (e ∷ es) h = omega (arith, tiles-le (end e.field) m es h.1)

-- each record begins at or after p and ends at or before m
pub tiles-within : (p m : ℕ) (es : List Entry) → Tiles p es m → All (λ e. (p ≤ e.field.first) × (end e.field ≤ m)) es
tiles-within p m [] h = tt
tiles-within p m (e ∷ es) h =
    ((omega arith, tiles-le (end e.field) m es h.1), all_map es (λ f k. (omega arith, k.1)) (tiles-within (end e.field) m es h.1))

tiled-stop : {A : Type 0} (n q p : ℕ) → q ≤ p → Tiled {A = A} q (out (refused n) p [])
tiled-stop n q p h = record { upto = q; tiles = refl; whole = h }

tiled-cons : {A : Type 0} {q : ℕ} {o : Outcome A} (e : Entry) → e.field.first ≡ q → Tiled (end e.field) o → Tiled q (cons e o)
tiled-cons e h r = record { upto = r.upto; tiles = (h, r.tiles); whole = r.whole }

pub tiled : {A : Type 0} (t : Tree A) (b : List ℕ) (p l : ℕ) → Tiled p (run t b p l)
unfolding run
tiled (done a) b p l = record { upto = p; tiles = refl; whole = refl }
tiled (refuse n) b p l = tiled-stop n p p (omega arith)
tiled (ahead n w) b p l = tiled-stop n p (p + w) (omega arith)
tiled (here k) b p l = tiled (k p) b p l
tiled (read r w k) b p l =
    test (Tiled p) (leb (p + w) l) (λ _. tiled-cons _ refl (tiled (k (bits_at b p w)) b (p + w) l)) (λ _. tiled-stop 8 p p (omega arith))
tiled (span r w t) b p l = test (Tiled p) (leb (p + w) l) (λ _. tiled-cons _ refl (tiled t b (p + w) l)) (λ _. tiled-stop 8 p p (omega arith))
tiled (scan r s k) b p l =
    after-skim (Tiled p) (skim s b p l) _ (skimmed s b p l)
    (λ v e h. tiled-cons _ refl (let i : p + (e - p) ≡ e = omega arith in rw i (tiled (k v) b e l)))
    (λ n e h. tiled-stop n p e h)

pub valued : {A : Type 0} (t : Tree A) (b : List ℕ) (p l : ℕ) → All (Valued b) (run t b p l).records
unfolding run
valued (done a) b p l = tt
valued (refuse n) b p l = tt
valued (ahead n w) b p l = tt
valued (here k) b p l = valued (k p) b p l
valued (read q w k) b p l =
    test (λ o. All (Valued b) o.records) (leb (p + w) l) (λ _. (λ _. refl, valued (k (bits_at b p w)) b (p + w) l)) (λ _. tt)
valued (span q w t) b p l =
    test (λ o. All (Valued b) o.records) (leb (p + w) l) (λ _. (λ e. absurd (true≢false e), valued t b (p + w) l)) (λ _. tt)
valued (scan q s k) b p l =
    after-skim (λ o. All (Valued b) o.records) (skim s b p l) _ (skimmed s b p l) (λ v e h. (λ c. absurd (true≢false c), valued (k v) b e l)) (λ n e h. tt)

pub tiled-after : {A B : Type 0} {q : ℕ} (o : Outcome A) (f : A → ℕ → Outcome B) → ((a : A) (p : ℕ) → Tiled p (f a p)) → Tiled q o → Tiled q (after o f)
unfolding after
tiled-after {A} {B} {q} o f k s = go o.result s.whole
  where
    go : (r : Result A) → Whole r s.upto o.place → Tiled q (and_then r o.place o.records f)
    go (accepted a) w =
        let n = k a o.place in
        record {
          upto = n.upto;
          tiles = tiles-append q s.upto n.upto o.records (f a o.place).records s.tiles (rw w n.tiles);
          whole = n.whole;
        }
    go (refused n) w = record { upto = s.upto; tiles = s.tiles; whole = w }

pub valued-after : {A B : Type 0} (b : List ℕ) (o : Outcome A) (f : A → ℕ → Outcome B) → ((a : A) (p : ℕ) → All (Valued b) (f a p).records)
    → All (Valued b) o.records → All (Valued b) (after o f).records
unfolding after
valued-after {A} b o f k s = go o.result
  where
    go : (r : Result A) → All (Valued b) (and_then r o.place o.records f).records
    go (accepted a) = all_append (Valued b) o.records (f a o.place).records s (k a o.place)
    go (refused n) = s

-- each record that `run` makes begins at or after the place that it starts from, and ends at or before the place that it comes to
pub within : {A : Type 0} (t : Tree A) (b : List ℕ) (p l : ℕ) → All (λ e. (p ≤ e.field.first) × (end e.field ≤ (run t b p l).place)) (run t b p l).records
within {A} t b p l = all_map o.records (λ e k. (k.0, omega (arith, short o.result r.whole))) (tiles-within p r.upto o.records r.tiles)
  where
    o : Outcome A
    o = run t b p l

    r : Tiled p (run t b p l)
    r = tiled t b p l

    short : (s : Result A) → Whole s r.upto o.place → r.upto ≤ o.place
    short (accepted a) h = omega arith
    short (refused n) h = h

-- where a run is accepted its place is within the limit; a refusal ahead may lie past it
abbrev pub Inside : {A : Type 0} → ℕ → Result A → ℕ → Type 0
Inside l (accepted a) p = p ≤ l
Inside l (refused n) p = Unit {0}

skim-inside : {A : Type 0} (s : Skim A) (b : List ℕ) (p l : ℕ) → p ≤ l → Inside l (skim s b p l).result (skim s b p l).place
unfolding skim
skim-inside (stop a) b p l h = h
skim-inside (fail n) b p l h = tt
skim-inside (at k) b p l h = skim-inside (k p) b p l h
skim-inside (take w k) b p l h =
    test (λ o. Inside l o.result o.place) (leb (p + w) l) (λ c. skim-inside (k (bits_at b p w)) b (p + w) l (leb→le (p + w) l c)) (λ _. tt)

pub after-inside : {A B : Type 0} (o : Outcome A) (f : A → ℕ → Outcome B) (l : ℕ) → Inside l o.result o.place
    → ((a : A) (p : ℕ) → p ≤ l → Inside l (f a p).result (f a p).place) → Inside l (after o f).result (after o f).place
unfolding after
after-inside {A} o f l h k = go o.result h
  where
    go : (r : Result A) → Inside l r o.place → let u = and_then r o.place o.records f in Inside l u.result u.place
    go (accepted a) h = k a o.place h
    go (refused n) h = tt

pub inside : {A : Type 0} (t : Tree A) (b : List ℕ) (p l : ℕ) → p ≤ l → Inside l (run t b p l).result (run t b p l).place
unfolding run
inside (done a) b p l h = h
inside (refuse n) b p l h = tt
inside (ahead n w) b p l h = tt
inside (here k) b p l h = inside (k p) b p l h
inside (read q w k) b p l h =
    test (λ o. Inside l o.result o.place) (leb (p + w) l) (λ c. inside (k (bits_at b p w)) b (p + w) l (leb→le (p + w) l c)) (λ _. tt)
inside (span q w t) b p l h =
    test (λ o. Inside l o.result o.place) (leb (p + w) l) (λ c. inside t b (p + w) l (leb→le (p + w) l c)) (λ _. tt)
inside (scan q s k) b p l h = after-inside (skim s b p l) _ l (skim-inside s b p l h) (λ v e i. inside (k v) b e l i)
