-- Laws of the room: an answer other than 33 is the answer with unlimited room; an execution is a run cut at the room; one execution after another;
-- entries past the count stay. Assumes nothing.
use mathlib.Core.Path.{◌≡◌, refl, ap, sym, ◌∙◌}
use mathlib.Core.Bool.{Bool, true, false, cond}
use mathlib.Core.List.{List, [], ◌∷◌}
use Prim.Native.Nat.{ℕ, zero, suc, ◌+◌, ◌-◌, ◌≤◌}
use native.Mathlib.Omega.{arith}
use native.Mathlib.Nat.{add-zero}
use lib.Dec.{leb}
use lib.IntN.{ℤ}
use lib.ListN.{length, length-set, get_or}
use lib.Seq.{get_or-set_other}
use borrow.Author.Tests.{leb-true, leb-false}
use Rattle.bits.specs.Bits.{bits_at}
use Rattle.reading.specs.Tree.{Tree, done, refuse, ahead, here, read, span, scan, ◌>>=◌}
use Rattle.reading.specs.Run.{Field, Entry, element, region, Result, accepted, refused, Outcome, out, cons, and_then, after, skim, run}
use Rattle.reading.specs.Room.{cut_at, cut, Room, size, pushed, fill, Out, got, into, record_in, skimmed_by, exec}
use Rattle.reading.proofs.Laws.{Skimmed, skimmed}

-- an answer other than 33 is the answer with unlimited room
pub cut-same : {A : Type 0} (n : ℕ) (o : Outcome A) → ¬ ((cut n o).result ≡ refused 33) → cut n o ≡ o
unfolding cut
cut-same {A} n o = go n o.records
  where
    go : (n : ℕ) (es : List Entry) → ¬ ((cut_at n o.result o.place es).result ≡ refused 33) → cut_at n o.result o.place es ≡ out o.result o.place es
    go n [] h = refl
    go zero (e ∷ es) h = absurd (h refl)
    go (suc n) (e ∷ es) h = ap (cons e) (go n es h)

-- what follows: a refusal stays
unfoldable pub go_on : {A B : Type 0} → Result A → ℕ → ℕ → Room → (A → ℕ → ℕ → Room → Out B) → Out B
go_on (accepted a) p n m k = k a p n m
go_on (refused r) p n m k = got (refused r) p n m

infixl 10 ◌then◌
abbrev pub ◌then◌ : {A B : Type 0} → Out A → (A → ℕ → ℕ → Room → Out B) → Out B
o then k = go_on o.result o.place o.count o.left k

-- a refusal stays, and what is there already is followed
pub then-done : {A : Type 0} (o : Out A) → (o then (λ a p n m. got (accepted a) p n m)) ≡ o
unfolding go_on
then-done {A} o = go o.result
  where
    go : (r : Result A) → go_on r o.place o.count o.left (λ a p n m. got (accepted a) p n m) ≡ got r o.place o.count o.left
    go (accepted a) = refl
    go (refused k) = refl

then-test : {A B : Type 0} (c : Bool) (n k p : ℕ) (m : Room) (o : Out A) (f : A → ℕ → ℕ → Room → Out B) (u : Out B)
    → u ≡ (o then f) → cond c u (got (refused k) p n m) ≡ (cond c o (got (refused k) p n m) then f)
unfolding go_on
then-test true n k p m o f u h = h
then-test false n k p m o f u h = refl

then-room : {A B : Type 0} (c : Bool) (n k p : ℕ) (m : Room) (o : Out A) (f : A → ℕ → ℕ → Room → Out B) (u : Out B)
    → u ≡ (o then f) → cond c (got (refused k) p n m) u ≡ (cond c (got (refused k) p n m) o then f)
unfolding go_on
then-room true n k p m o f u h = refl
then-room false n k p m o f u h = h

then-skim : {A B C : Type 0} (r : Result A) (p n : ℕ) (m : Room) (g : A → ℕ → Out B) (f : B → ℕ → ℕ → Room → Out C) (h : A → ℕ → Out C)
    → ((a : A) (e : ℕ) → h a e ≡ (g a e then f)) → skimmed_by r p n m h ≡ (skimmed_by r p n m g then f)
unfolding go_on skimmed_by
then-skim (accepted a) p n m g f h e = e a p
then-skim (refused k) p n m g f h e = refl

module _ (s : List ℕ) (l : ℕ) where
  pub exec-bind : {A B : Type 0} (t : Tree A) (f : A → Tree B) (p n : ℕ) (m : Room)
      → exec s l (t >>= f) p n m ≡ (exec s l t p n m then (λ a p n m. exec s l (f a) p n m))
  unfolding exec ◌>>=◌ go_on
  exec-bind (done a) f p n m = refl
  exec-bind (refuse k) f p n m = refl
  exec-bind (ahead k w) f p n m = refl
  exec-bind (here k) f p n m = exec-bind (k p) f p n m
  exec-bind (read q w k) f p n m =
      then-test (leb (p + w) l) n 8 p m _ _ _ (then-room (leb (size m) n) n 33 p m _ _ _ (exec-bind (k (bits_at s p w)) f (p + w) (n + 1) _))
  exec-bind (span q w t) f p n m =
      then-test (leb (p + w) l) n 8 p m _ _ _ (then-room (leb (size m) n) n 33 p m _ _ _ (exec-bind t f (p + w) (n + 1) _))
  exec-bind (scan q k g) f p n m =
      then-skim (skim k s p l).result (skim k s p l).place n m _ _ _ (λ v e. then-room (leb (size m) n) n 33 p m _ _ _ (exec-bind (g v) f e (n + 1) _))

size-pushed : (m : Room) (n : ℕ) (f : Field) → size (pushed m n f) ≡ size m
unfolding size pushed
size-pushed m n f = simp length-set

got-at : {A : Type 0} (r : Result A) (p i j : ℕ) (m : Room) → i ≡ j → got r p i m ≡ got r p j m
got-at r p i j m e = ap (λ k. got r p k m) e

record_is : {A : Type 0} (e : Entry) (n : ℕ) (m : Room) (k : ℕ → Room → Out A) (o : Outcome A)
    → ((i : ℕ) (r : Room) → k i r ≡ into i r (cut (size r - i) o)) → record_in e.field n m k ≡ into n m (cut (size m - n) (cons e o))
unfolding fill cut
record_is {A} e n m k o h = go (leb (size m) n) refl
  where
    full : (j : ℕ) → j ≡ 0 → got {A = A} (refused 33) e.field.first n m ≡ into n m (cut j (cons e o))
    full j ej = rw ej (got-at _ _ _ _ _ (sym (add-zero n)))

    more : (j i : ℕ) → j ≡ suc i → size m - (n + 1) ≡ i → k (n + 1) (pushed m n e.field) ≡ into n m (cut j (cons e o))
    more j i ej ei =
        let z : size (pushed m n e.field) - (n + 1) ≡ i = ap (λ z. z - (n + 1)) (size-pushed m n e.field) ∙ ei in
        rw ej (h (n + 1) (pushed m n e.field)
        ∙ ap (λ j. into (n + 1) (pushed m n e.field) (cut j o)) z
        ∙ got-at _ _ _ _ _ (omega arith))

    go : (c : Bool) → leb (size m) n ≡ c
        → cond c (got (refused 33) e.field.first n m) (k (n + 1) (pushed m n e.field)) ≡ into n m (cut (size m - n) (cons e o))
    go true q = let h = leb-true (size m) n q in full (size m - n) (omega arith)
    go false q = let h = leb-false (size m) n q in more (size m - n) (size m - (n + 1)) (omega arith) refl

into-none : {A : Type 0} (r : Result A) (p j n : ℕ) (m : Room) → got r p n m ≡ into n m (cut j (out r p []))
unfolding fill cut
into-none r p j n m = got-at _ _ _ _ _ (sym (add-zero n))

into-test : {A : Type 0} (c : Bool) (k p j n : ℕ) (m : Room) (o : Out A) (u : Outcome A)
    → o ≡ into n m (cut j u) → cond c o (got (refused k) p n m) ≡ into n m (cut j (cond c u (out (refused k) p [])))
into-test true k p j n m o u h = h
into-test false k p j n m o u h = into-none (refused k) p j n m

into-skim : {A B : Type 0} {p : ℕ} (u : Outcome A) (j n : ℕ) (m : Room) (g : A → ℕ → Out B) (f : A → ℕ → Outcome B) → Skimmed p u
    → ((a : A) (e : ℕ) → g a e ≡ into n m (cut j (f a e))) → skimmed_by u.result u.place n m g ≡ into n m (cut j (after u f))
unfolding after skimmed_by
into-skim {A} {B} u j n m g f k h = go u.result
  where
    go : (r : Result A) → skimmed_by r u.place n m g ≡ into n m (cut j (and_then r u.place u.records f))
    go (accepted a) = rw k.bare (h a u.place)
    go (refused i) = rw k.bare (into-none (refused i) u.place j n m)

-- the execution of a tree is its run, cut at the room that is left
pub exec-is : {A : Type 0} (s : List ℕ) (l : ℕ) (t : Tree A) (p n : ℕ) (m : Room) → exec s l t p n m ≡ into n m (cut (size m - n) (run t s p l))
unfolding exec run
exec-is s l (done a) p n m = into-none (accepted a) p (size m - n) n m
exec-is s l (refuse k) p n m = into-none (refused k) p (size m - n) n m
exec-is s l (ahead k w) p n m = into-none (refused k) (p + w) (size m - n) n m
exec-is s l (here k) p n m = exec-is s l (k p) p n m
exec-is s l (read q w k) p n m =
    into-test (leb (p + w) l) 8 p (size m - n) n m _ _
    (record_is (element q p w (bits_at s p w)) n m _ _ (λ i r. exec-is s l (k (bits_at s p w)) (p + w) i r))
exec-is s l (span q w t) p n m =
    into-test (leb (p + w) l) 8 p (size m - n) n m _ _ (record_is (region q p w) n m _ _ (λ i r. exec-is s l t (p + w) i r))
exec-is s l (scan q k f) p n m =
    into-skim (skim k s p l) (size m - n) n m _ _ (skimmed k s p l) (λ v e. record_is (region q p (e - p)) n m _ _ (λ i r. exec-is s l (f v) e i r))

bare : {A B : Type 0} (t : Result A) (p : ℕ) (f : A → ℕ → Outcome B) (n : ℕ) (m : Room)
    → into n m (cut (size m - n) (and_then t p [] f)) ≡ (into n m (cut (size m - n) (out t p [])) then (λ a p i r. into i r (cut (size r - i) (f a p))))
unfolding go_on cut fill
bare (accepted a) p f n m = ap (λ i. into i m (cut (size m - i) (f a p))) (sym (add-zero n))
bare (refused k) p f n m = refl

-- an outcome and what follows it, cut at the room, one after the other
pub into-after : {A B : Type 0} (o : Outcome A) (f : A → ℕ → Outcome B) (n : ℕ) (m : Room)
    → into n m (cut (size m - n) (after o f)) ≡ (into n m (cut (size m - n) o) then (λ a p i r. into i r (cut (size r - i) (f a p))))
unfolding after
into-after {A} {B} o f = go o.records
  where
    K : A → ℕ → ℕ → Room → Out B
    K a p i r = into i r (cut (size r - i) (f a p))

    step : (t : Result A) (e : Entry) (es : List Entry) → and_then t o.place (e ∷ es) f ≡ cons e (and_then t o.place es f)
    step (accepted a) e es = refl
    step (refused k) e es = refl

    go : (es : List Entry) (n : ℕ) (m : Room)
        → into n m (cut (size m - n) (and_then o.result o.place es f)) ≡ (into n m (cut (size m - n) (out o.result o.place es)) then K)
    go [] n m = bare o.result o.place f n m
    go (e ∷ es) n m =
        rw (step o.result e es)
        (sym (record_is e n m (λ i r. into i r (cut (size r - i) (and_then o.result o.place es f))) _ (λ i r. refl))
        ∙ then-room (leb (size m) n) n 33 e.field.first m _ _ _ (go es (n + 1) (pushed m n e.field))
        ∙ ap (λ (u : Out A). u then K) (record_is e n m (λ i r. into i r (cut (size r - i) (out o.result o.place es))) _ (λ i r. refl)))

-- the six lists hold the same at i
pub record Alike (x y : Room) (i : ℕ) : Type 0 where
  pub name : get_or x.names i 0 ≡ get_or y.names i 0
  pub block : (d : ℤ) → get_or x.blocks i d ≡ get_or y.blocks i d
  pub index : (d : ℤ) → get_or x.indexes i d ≡ get_or y.indexes i d
  pub first : get_or x.firsts i 0 ≡ get_or y.firsts i 0
  pub width : get_or x.widths i 0 ≡ get_or y.widths i 0
  pub value : get_or x.values i 0 ≡ get_or y.values i 0

alike-trans : (x y z : Room) (i : ℕ) → Alike x y i → Alike y z i → Alike x z i
alike-trans x y z i p q = record {
  name = p.name ∙ q.name;
  block = λ d. p.block d ∙ q.block d;
  index = λ d. p.index d ∙ q.index d;
  first = p.first ∙ q.first;
  width = p.width ∙ q.width;
  value = p.value ∙ q.value;
}

pushed-alike : (m : Room) (k : ℕ) (f : Field) (i : ℕ) → ¬ (i ≡ k) → Alike (pushed m k f) m i
unfolding pushed
pushed-alike m k f i h = record {
  name = get_or-set_other m.names k i f.name 0 h;
  block = λ d. get_or-set_other m.blocks k i f.block d h;
  index = λ d. get_or-set_other m.indexes k i f.index d h;
  first = get_or-set_other m.firsts k i f.first 0 h;
  width = get_or-set_other m.widths k i f.width 0 h;
  value = get_or-set_other m.values k i f.value 0 h;
}

-- past the count nothing is touched
pub fill-past : (m : Room) (k : ℕ) (es : List Entry) (i : ℕ) → k + length es ≤ i → Alike (fill m k es) m i
unfolding fill
fill-past m k [] i h = record { name = refl; block = λ d. refl; index = λ d. refl; first = refl; width = refl; value = refl }
fill-past m k (e ∷ es) i h =
    alike-trans _ _ _ i (fill-past (pushed m k e.field) (k + 1) es i (omega arith)) (pushed-alike m k e.field i (λ q. omega arith))
