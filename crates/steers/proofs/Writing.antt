-- Two records written over whose names steer nothing. Assumes nothing.
use mathlib.Core.Path.{◌≡◌, refl, ap, ap₂, sym, ◌∙◌, subst}
use mathlib.Core.Bool.{Bool, true, false, cond, ◌&&◌, ◌||◌, true≢false}
use mathlib.Core.List.{List, [], ◌∷◌}
use mathlib.Core.Logic.{◌⊎◌, inl, inr}
use mathlib.Core.Option.{some}
use Prim.Native.Nat.{ℕ, zero, suc, ◌+◌, ◌<◌}
use native.Mathlib.Omega.{arith}
use native.Mathlib.Nat.{add-zero, zero-add}
use lib.Dec.{eqb}
use lib.ListN.{length, get_elem?, set}
use lib.Seq.{set-set, set_comm}
use borrow.Author.Tests.{eq-eqb, ne_eqb}
use Rattle.bits.specs.Bits.{bits_at}
use Rattle.reading.specs.Run.{Field, Entry, Result, accepted, refused, Outcome, out}
use Rattle.reading.specs.Records.{All}
use Rattle.reading.specs.Room.{Room, room, size, pushed, fill, got, into}
use Rattle.reading.specs.Frame.{Format, parse}
use Rattle.reading.specs.CommonReading.{answer}
use Rattle.reading.proofs.Rooms.{cut-same}
use Rattle.steers.specs.Blind.{BlindTo}
use Rattle.steers.specs.Steering.{with_value, bits_in, reread, Off, Outside, reread_in}
use Rattle.steers.specs.Writing.{with_value_at, patched, Writes, rewritten, patched_by, Rewrites}
use Rattle.steers.proofs.Elements.{Element, parse-elements}
use Rattle.steers.proofs.Theorem.{steers-nothing}

-- the record at the place i, if its name is of the set
abbrev one : (ℕ → Bool) → ℕ → ℕ → Entry → Bool
one N i k e = eqb k i && N e.field.name

module _ (N : ℕ → Bool) (i : ℕ) where
  -- nothing is chosen past the place i
  none-past : (y : List ℕ) (es : List Entry) (k : ℕ) → i < k → reread_in (one N i) k y es ≡ es
  none-past y [] k h = refl
  none-past y (a ∷ es) k h = rw (ne_eqb k i (λ q. omega arith)) (ap (a ∷◌) (none-past y es (suc k) (omega arith)))

  module _ (e : Entry) (named : N e.field.name ≡ true) where
    -- what is chosen is the record at the place i
    chosen : (k : ℕ) (a : Entry) → i ≡ k + 0 → a ≡ e → one N i k a ≡ true
    chosen k a q w = let z : k ≡ i = omega arith in ap₂ ◌&&◌ (eq-eqb k i z) (ap (λ (f : Entry). N f.field.name) w ∙ named)

    outside-at : (es : List Entry) (k j b : ℕ) → i ≡ k + j → get_elem? es j ≡ some e → Outside (one N i) k es b → Off e.field b
    outside-at [] k j b q g h = absurd (let z : ◌≡◌ {A = ℕ} 0 1 = cc in omega arith)
    outside-at (a ∷ es) k zero b q g h = let w : a ≡ e = cc in subst (λ (f : Entry). Off f.field b) w (h.0 (chosen k a q w))
    outside-at (a ∷ es) k (suc j) b q g h = outside-at es (suc k) j b (omega arith) g h.1

    reread-at : (y : List ℕ) → e.spans ≡ false → (es : List Entry) (k j : ℕ) → i ≡ k + j → get_elem? es j ≡ some e → reread_in (one N i) k y es ≡ with_value_at j (bits_in y e) es
    reread-at y s [] k j q g = refl
    reread-at y s (a ∷ es) k zero q g =
        let w : a ≡ e = cc in
        ap₂ ◌∷◌ (ap (λ c. cond c (reread y a) a) (chosen k a q w) ∙ reread-is w) (none-past y es (suc k) (omega arith))
      where
        reread-is : a ≡ e → reread y a ≡ with_value (bits_in y e) a
        reread-is w = rw w (ap (λ c. with_value (cond c e.field.value (bits_in y e)) e) s)
    reread-at y s (a ∷ es) k (suc j) q g = rw (ne_eqb k i (λ z. omega arith)) (ap (a ∷◌) (reread-at y s es (suc k) j (omega arith) g))

-- two records, one after the other
abbrev two : (ℕ → Bool) → ℕ → ℕ → ℕ → Entry → Bool
two N i j k e = one N i k e || one N j k e

reread-twice : (y : List ℕ) (e : Entry) → reread y (reread y e) ≡ reread y e
reread-twice y e = ap (λ v. with_value v e) (go e.spans)
  where
    go : (s : Bool) → cond s (cond s e.field.value (bits_in y e)) (bits_in y e) ≡ cond s e.field.value (bits_in y e)
    go true = refl
    go false = refl

reread-two : (N : ℕ → Bool) (i j : ℕ) (y : List ℕ) (es : List Entry) (k : ℕ) → reread_in (two N i j) k y es ≡ reread_in (one N j) k y (reread_in (one N i) k y es)
reread-two N i j y [] k = refl
reread-two N i j y (e ∷ es) k = ap₂ ◌∷◌ (go (one N i k e)) (reread-two N i j y es (suc k))
  where
    last : (d : Bool) → reread y e ≡ cond d (reread y (reread y e)) (reread y e)
    last true = sym (reread-twice y e)
    last false = refl

    go : (c : Bool) → cond (c || one N j k e) (reread y e) e ≡ cond (one N j k (cond c (reread y e) e)) (reread y (cond c (reread y e) e)) (cond c (reread y e) e)
    go true = last (one N j k e)
    go false = refl

-- the record at a place has another value at most
record Keeps (es : List Entry) (j : ℕ) (c : Entry) : Type 0 where
  now : Entry
  at : get_elem? es j ≡ some now
  name : now.field.name ≡ c.field.name
  first : now.field.first ≡ c.field.first
  width : now.field.width ≡ c.field.width
  spans : now.spans ≡ c.spans

value_keeps : (es : List Entry) (i j v : ℕ) (c : Entry) → get_elem? es j ≡ some c → Keeps (with_value_at i v es) j c
value_keeps [] i j v c g = absurd (let z : ◌≡◌ {A = ℕ} 0 1 = cc in omega arith)
value_keeps (a ∷ es) zero zero v c g =
    let w : a ≡ c = cc in
    record {
      now = with_value v a;
      at = refl;
      name = ap (λ (e : Entry). e.field.name) w;
      first = ap (λ (e : Entry). e.field.first) w;
      width = ap (λ (e : Entry). e.field.width) w;
      spans = ap (λ (e : Entry). e.spans) w;
    }
value_keeps (a ∷ es) zero (suc j) v c g = record { now = c; at = g; name = refl; first = refl; width = refl; spans = refl }
value_keeps (a ∷ es) (suc i) zero v c g = record { now = c; at = g; name = refl; first = refl; width = refl; spans = refl }
value_keeps (a ∷ es) (suc i) (suc j) v c g =
    let k = value_keeps es i j v c g in record { now = k.now; at = k.at; name = k.name; first = k.first; width = k.width; spans = k.spans }

-- what holds of every record of a list holds of the record at a place
all-at : (P : Entry → Type 0) (es : List Entry) → All P es → (j : ℕ) (e : Entry) → get_elem? es j ≡ some e → P e
all-at P [] h j e q = absurd (let z : ◌≡◌ {A = ℕ} 0 1 = cc in omega arith)
all-at P (a ∷ es) h zero e q = let w : a ≡ e = cc in subst P w h.0
all-at P (a ∷ es) h (suc j) e q = all-at P es h.1 j e q

-- a room with a record pushed, and then its value; the value of an earlier one
pushed-value : (m : Room) (n v : ℕ) (e : Entry) → pushed m n (with_value v e).field ≡ patched n v (pushed m n e.field)
unfolding pushed patched
pushed-value m n v e =
    ap (room (set m.names n e.field.name) (set m.blocks n e.field.block) (set m.indexes n e.field.index) (set m.firsts n e.field.first) (set m.widths n e.field.width))
    (sym (set-set m.values n e.field.value v))

pushed-patched : (m : Room) (k v n : ℕ) (f : Field) → k < n → pushed (patched k v m) n f ≡ patched k v (pushed m n f)
unfolding pushed patched
pushed-patched m k v n f h =
    ap (room (set m.names n f.name) (set m.blocks n f.block) (set m.indexes n f.index) (set m.firsts n f.first) (set m.widths n f.width))
    (set_comm m.values k n v f.value (λ q. omega arith))

fill-patched : (es : List Entry) (m : Room) (k v n : ℕ) → k < n → fill (patched k v m) n es ≡ patched k v (fill m n es)
unfolding fill
fill-patched [] m k v n h = refl
fill-patched (e ∷ es) m k v n h =
    ap (λ r. fill r (n + 1) es) (pushed-patched m k v n e.field h) ∙ fill-patched es (pushed m n e.field) k v (n + 1) (omega arith)

-- a room filled with the list that has another value
fill-value : (es : List Entry) (m : Room) (n i v : ℕ) → i < length es → fill m n (with_value_at i v es) ≡ patched (n + i) v (fill m n es)
unfolding fill
fill-value [] m n i v h = absurd (let z : ⊥ = omega arith in z)
fill-value (e ∷ es) m n zero v h =
    ap (λ r. fill r (n + 1) es) (pushed-value m n v e)
    ∙ fill-patched es (pushed m n e.field) n v (n + 1) (omega arith)
    ∙ ap (λ k. patched k v (fill (pushed m n e.field) (n + 1) es)) (sym (add-zero n))
fill-value (e ∷ es) m n (suc i) v h =
    let q : n + 1 + i ≡ n + suc i = omega arith in
    fill-value es (pushed m n e.field) (n + 1) i v (omega arith) ∙ ap (λ k. patched k v (fill (pushed m n e.field) (n + 1) es)) q

-- a place that holds a record is within the list
place-lt : (es : List Entry) (j : ℕ) (e : Entry) → get_elem? es j ≡ some e → j < length es
place-lt [] j e q = absurd (let z : ◌≡◌ {A = ℕ} 0 1 = cc in omega arith)
place-lt (a ∷ es) zero e q = omega arith
place-lt (a ∷ es) (suc j) e q = let h = place-lt es j e q in omega arith

value-long : (es : List Entry) (i v : ℕ) → length (with_value_at i v es) ≡ length es
value-long [] i v = refl
value-long (e ∷ es) zero v = refl
value-long (e ∷ es) (suc i) v = ap suc (value-long es i v)

or-one : (a b : Bool) → (a || b) ≡ true → (a ≡ true) ⊎ (b ≡ true)
or-one true b h = inl refl
or-one false b h = inr h

left-of : (a b : Bool) → a ≡ true → (a || b) ≡ true
left-of true b h = refl
left-of false b h = absurd (true≢false (sym h))

right_of : (a b : Bool) → b ≡ true → (a || b) ≡ true
right_of true b h = refl
right_of false b h = h

-- what lies outside of more lies outside of less
outside-less : (C D : ℕ → Entry → Bool) (es : List Entry) (k b : ℕ) → ((k : ℕ) (e : Entry) → D k e ≡ true → C k e ≡ true) → Outside C k es b → Outside D k es b
outside-less C D [] k b h o = tt
outside-less C D (e ∷ es) k b h o = (λ q. o.0 (h k e q), outside-less C D es (suc k) b h o.1)

accepted-not : {A : Type 0} {r : Result A} {a : A} {k : ℕ} → r ≡ accepted a → r ≡ refused k → ◌≡◌ {A = ℕ} 0 1
accepted-not e f = cc

module _ (N : ℕ → Bool) where
  one-named : (i k : ℕ) (e : Entry) → one N i k e ≡ true → N e.field.name ≡ true
  one-named i k e = go (eqb k i)
    where
      go : (c : Bool) → (c && N e.field.name) ≡ true → N e.field.name ≡ true
      go true h = h
      go false h = absurd (true≢false (sym h))

  two-named : (i j k : ℕ) (e : Entry) → two N i j k e ≡ true → N e.field.name ≡ true
  two-named i j k e h = go (or-one (one N i k e) (one N j k e) h)
    where
      go : (one N i k e ≡ true) ⊎ (one N j k e ≡ true) → N e.field.name ≡ true
      go (inl h) = one-named i k e h
      go (inr h) = one-named j k e h

  module _ {H A : Type 0} (F : Format H A) (blind : BlindTo N F) where
    reads : (x y : List ℕ) (n i j : ℕ) (e c : Entry) → Writes N F x y n i j e c → answer F n y ≡ rewritten N F y i j e c (answer F n x)
    reads x y n i j e c w =
        let o = answer F n x in
        let es = o.records in
        let u : o ≡ parse F x = cut-same n (parse F x) (λ q. let z : ◌≡◌ {A = ℕ} 0 1 = accepted-not w.accepts q in omega arith) in
        let p : All (Element N) es = subst (λ (o : Outcome A). All (Element N) o.records) (sym u) (parse-elements N F blind x) in
        let s : e.spans ≡ false = all-at (Element N) es p i e w.one w.named.0 in
        let t : c.spans ≡ false = all-at (Element N) es p j c w.other w.named.1 in
        let d = value_keeps es i j (bits_in y e) c w.other in
        (steers-nothing N F blind).roomed (two N i j) (two-named i j) x y n w.frame w.accepts
        (record {
          long = w.long;
          elsewhere = λ b _ h. w.elsewhere b
              (outside-at N i e w.named.0 es 0 i b (sym (zero-add i)) w.one (outside-less _ _ es 0 b (λ k f. left-of (one N i k f) (one N j k f)) h))
              (outside-at N j c w.named.1 es 0 j b (sym (zero-add j)) w.other (outside-less _ _ es 0 b (λ k f. right_of (one N i k f) (one N j k f)) h));
        })
        ∙ ap (out o.result o.place)
        (reread-two N i j y es 0
        ∙ ap (reread_in (one N j) 0 y) (reread-at N i e w.named.0 y s es 0 i (sym (zero-add i)) w.one)
        ∙ reread-at N j d.now (ap N d.name ∙ w.named.1) y (d.spans ∙ t) (with_value_at i (bits_in y e) es) 0 j (sym (zero-add j)) d.at
        ∙ ap (λ v. with_value_at j v (with_value_at i (bits_in y e) es)) (ap₂ (bits_at y) d.first d.width))

    fills : (x y : List ℕ) (m : Room) (i j : ℕ) (e c : Entry) → Writes N F x y (size m) i j e c
        → into 0 m (answer F (size m) y) ≡ patched_by N F y i j e c (into 0 m (answer F (size m) x))
    fills x y m i j e c w =
        let o = answer F (size m) x in
        let es = o.records in
        let fs = with_value_at i (bits_in y e) es in
        let h : i < length es = place-lt es i e w.one in
        let k : j < length es = place-lt es j c w.other in
        let l : j < length fs = let z = value-long es i (bits_in y e) in omega arith in
        ap (into 0 m) (reads x y (size m) i j e c w)
        ∙ ap₂ (λ n r. got o.result o.place (0 + n) r) (value-long fs j (bits_in y c) ∙ value-long es i (bits_in y e))
        (fill-value fs m 0 j (bits_in y c) l
        ∙ ap (patched (0 + j) (bits_in y c)) (fill-value es m 0 i (bits_in y e) h)
        ∙ ap₂ (λ a b. patched a (bits_in y c) (patched b (bits_in y e) (fill m 0 es))) (zero-add j) (zero-add i))

    pub rewrites : Rewrites N F
    rewrites = record { reading = reads; roomed = fills }
