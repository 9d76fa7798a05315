-- Laws of a whole frame: its records tile and tell their bits; two buffers that agree below bit d split at d. Assumes nothing.
use mathlib.Core.Path.{◌≡◌, refl, ap, sym, ◌∙◌, subst, subst₂}
use mathlib.Core.Bool.{Bool, true, false}
use mathlib.Core.List.{List, [], ◌∷◌, ◌++◌, map}
use mathlib.Core.Logic.{by_cases, ◌⊎◌, inl, inr}
use mathlib.Core.Option.{some}
use Prim.Native.Nat.{ℕ, zero, suc, ◌+◌, ◌*◌, ◌-◌, ◌≤◌, ◌<◌}
use native.Mathlib.Omega.{arith}
use native.Mathlib.Decide.{dec_lt}
use lib.ListN.{length, get_elem?}
use borrow.Author.Tests.{le-leb}
use Rattle.bits.specs.Bits.{bits_at, SameBits}
use Rattle.reading.specs.Tree.{Tree, ◌>>=◌}
use Rattle.reading.specs.Run.{Field, Entry, end, Result, accepted, refused, Outcome, out, and_then, after, run}
use Rattle.reading.specs.Records.{All, Tiled, Valued}
use Rattle.reading.specs.Frame.{Format, behind, header_by, seen, headed, Announces, auxdatae_at, tail, finish, framed, sized, parse}
use Rattle.reading.specs.CommonReading.{Holds, list, Excepted, Stand}
use Rattle.reading.proofs.Laws.{Ok, tiled, valued, tiled-after, valued-after}
use Rattle.reading.proofs.Runs.{run_bind, after-after}
use Rattle.reading.proofs.Lockstep.{Past, Side, Split, Common, same, split, side-prefix, side-map, beyond, reading, agree-bits, side_after}
use Rattle.reading.proofs.Heads.{barrier, clear, barred, good_of, ok-first}
use Rattle.reading.proofs.Tails.{LateOrAux, tail-late, finish-ends}

-- what holds of every record of a list holds of the record at a place
all-at : (P : Field → Type 0) (r : List Entry) → All (λ e. P e.field) r → (i : ℕ) (f : Field) → get_elem? (map (λ (e : Entry). e.field) r) i ≡ some f → P f
all-at P [] h i f q = absurd (let z : ◌≡◌ {A = ℕ} 0 1 = cc in omega arith)
all-at P (a ∷ r) h zero f q = let w : a.field ≡ f = cc in subst P w h.0
all-at P (a ∷ r) h (suc i) f q = all-at P r h.1 i f q

-- of two lists that begin alike, a record of the one stands in the other or is among the rest
stays : (P : Field → Type 0) (c r s : List Entry) → All (λ e. P e.field) r
    → (i : ℕ) (f : Field) → get_elem? (map (λ (e : Entry). e.field) (c ++ r)) i ≡ some f
    → (get_elem? (map (λ (e : Entry). e.field) (c ++ s)) i ≡ some f) ⊎ P f
stays P [] r s h i f q = inr (all-at P r h i f q)
stays P (a ∷ c) r s h zero f q = inl q
stays P (a ∷ c) r s h (suc i) f q = stays P c r s h i f q

after_same : {A B : Type 0} (o : Outcome A) (f g : A → ℕ → Outcome B) → ((a : A) → o.result ≡ accepted a → f a o.place ≡ g a o.place) → after o f ≡ after o g
unfolding after
after_same {A} o f g h = go o.result refl
  where
    go : (r : Result A) → o.result ≡ r → and_then r o.place o.records f ≡ and_then r o.place o.records g
    go (accepted a) q = rw (h a q) refl
    go (refused n) q = refl

module _ {H A : Type 0} (F : Format H A) where
  -- the reading of a buffer that holds its frame
  abbrev pub whole : List ℕ → Outcome A
  whole b = after (headed F b) (framed F b)

  pub parse-whole : Announces F → (b : List ℕ) → Holds F b → parse F b ≡ whole b
  unfolding parse sized
  parse-whole n b h =
      rw (le-leb 6 (length b) h.six)
      (after_same (headed F b) _ _
      (λ a q. let k : F.bytes a ≤ length b = omega (arith, n b a q, h.whole) in rw (le-leb (F.bytes a) (length b) k) refl))

  finish-tiled : (b : List ℕ) (l : ℕ) (a : A) (p : ℕ) → Tiled p (finish F.names b l a p)
  unfolding finish
  finish-tiled b l a p = tiled (tail F.names (bits_at b (auxdatae_at l) 1) l a) b p l

  framed-tiled : (b : List ℕ) (h : H) (p : ℕ) → Tiled p (framed F b h p)
  unfolding framed
  framed-tiled b h p = tiled-after (run (F.body h) b p (8 * F.bytes h)) _ (finish-tiled b (8 * F.bytes h)) (tiled (F.body h) b p (8 * F.bytes h))

  pub whole-tiled : (b : List ℕ) → Tiled 0 (whole b)
  whole-tiled b = tiled-after (headed F b) _ (framed-tiled b) (tiled (header_by F (seen F b)) b 0 48)

  framed-claims : (b : List ℕ) (h : H) (p : ℕ) → All (Valued b) (framed F b h p).records
  unfolding framed finish
  framed-claims b h p =
      valued-after b (run (F.body h) b p (8 * F.bytes h)) _
      (λ a p. valued (tail F.names (bits_at b (auxdatae_at (8 * F.bytes h)) 1) (8 * F.bytes h) a) b p (8 * F.bytes h))
      (valued (F.body h) b p (8 * F.bytes h))

  pub whole-valued : (b : List ℕ) → All (Valued b) (whole b).records
  whole-valued b = valued-after b (headed F b) _ (framed-claims b) (valued (header_by F (seen F b)) b 0 48)

  -- an accepted frame ends where its buffer announces
  pub whole-ends : Announces F → (b : List ℕ) (c : A) → (whole b).result ≡ accepted c → (whole b).place ≡ 8 * F.announced b
  unfolding framed after
  whole-ends n b c = go O.result refl
    where
      O : Outcome H
      O = headed F b

      inner : (l : ℕ) (o : Outcome A) (r : Result A) → (and_then r o.place o.records (finish F.names b l)).result ≡ accepted c
          → (and_then r o.place o.records (finish F.names b l)).place ≡ l
      inner l o (accepted a) e = (finish-ends F.names b l a c o.place e).0
      inner l o (refused n) e = absurd (let z : ◌≡◌ {A = ℕ} 0 1 = cc in omega arith)

      go : (r : Result H) → O.result ≡ r → (and_then r O.place O.records (framed F b)).result ≡ accepted c
          → (and_then r O.place O.records (framed F b)).place ≡ 8 * F.announced b
      go (accepted h) q e =
          let o = run (F.body h) b O.place (8 * F.bytes h) in
          inner (8 * F.bytes h) o o.result e ∙ ap (λ k. 8 * k) (n b h q)
      go (refused k) q e = absurd (let z : ◌≡◌ {A = ℕ} 0 1 = cc in omega arith)

  -- what may differ: records that end after d; auxbits and auxdatal, where d is at or before auxdatae of a frame that ends at l
  abbrev pub Late : ℕ → ℕ → Entry → Type 0
  Late d l e = (d < end e.field) ⊎ (((e.field.name ≡ F.names.auxbits) ⊎ (e.field.name ≡ F.names.auxdatal)) × (d + 18 ≤ l))

  -- the second's records are common ones and late ones; the first's are the common ones and others, late ones too where the second is accepted
  pub record Parted (d l : ℕ) (o u : Outcome A) : Type 0 where
    pub common : List Entry
    pub others : List Entry
    pub is : o.records ≡ common ++ others
    pub late : Ok u.result → All (Late d l) others
    pub second : Side (Late d l) d common u

  -- x is accepted, and its frame ends at l, after d
  module _ (x y : List ℕ) (d : ℕ) (agree : SameBits x y 0 d) (c : A) (l : ℕ) (inside : d < l) where
    late : (e : Entry) → Past d e → Late d l e
    late e h = inl h

    -- a split goes through what follows
    split_after : {B : Type 0} (o u : Outcome B) (f g : B → ℕ → Outcome A) → Common d o u
        → ((a : B) (p : ℕ) → p ≤ d → (f a p).result ≡ accepted c → (f a p).place ≡ l → Split (Late d l) d (f a p) (g a p))
        → ((a : B) (p : ℕ) → d < p → Side (Past d) d [] (f a p)) → ((a : B) (p : ℕ) → d < p → Side (Past d) d [] (g a p))
        → (after o f).result ≡ accepted c → (after o f).place ≡ l → Split (Late d l) d (after o f) (after u g)
    unfolding after
    split_after {B} o u f g (same q h) k i j = rw (← q) (go o.result)
      where
        go : (r : Result B) → (and_then r o.place o.records f).result ≡ accepted c → (and_then r o.place o.records f).place ≡ l
            → Split (Late d l) d (and_then r o.place o.records f) (and_then r o.place o.records g)
        go (accepted a) e n =
            let s = k a o.place h e n in
            (o.records ++ s.0, side-prefix o.records s.1, side-prefix o.records s.2)
        go (refused n) e m = absurd (let z : ◌≡◌ {A = ℕ} 0 1 = cc in omega arith)
    split_after o u f g (split s) k i j =
        λ e n. (s.0, side-map late (side_after o f i s.1), side-map late (side_after u g j s.2))

    finish-split : (m : ℕ) (a : A) (p : ℕ) → p ≤ d → (finish F.names x m a p).result ≡ accepted c → (finish F.names x m a p).place ≡ l
        → Split (Late d l) d (finish F.names x m a p) (finish F.names y m a p)
    unfolding finish
    finish-split m a p h e n = by_cases (dec_lt (auxdatae_at m) d) near far
      where
        ends : ((finish F.names x m a p).place ≡ m) × (p + 18 ≤ m)
        ends = finish-ends F.names x m a c p e

        near : auxdatae_at m < d → Split (Late d l) d (finish F.names x m a p) (finish F.names y m a p)
        near i = rw (agree-bits x y d agree (auxdatae_at m) 1 (omega arith)) (go (reading x y d agree (tail F.names (bits_at x (auxdatae_at m) 1) m a) p m h))
          where
            go : {u : Outcome A} → Common d (finish F.names x m a p) u → Split (Late d l) d (finish F.names x m a p) u
            go (same q j) = absurd (let z : ⊥ = omega arith in z)
            go (split s) = (s.0, side-map late s.1, side-map late s.2)

        far : ¬ (auxdatae_at m < d) → Split (Late d l) d (finish F.names x m a p) (finish F.names y m a p)
        far i = ([], side x, side y)
          where
            weaker : (e : Entry) → LateOrAux F.names d e → Late d l e
            weaker e (inl r) = inl r
            weaker e (inr r) = inr (r, omega (arith, ends))

            side : (b : List ℕ) → Side (Late d l) d [] (run (tail F.names (bits_at b (auxdatae_at m) 1) m a) b p m)
            side b = side-map weaker (tail-late F.names b (bits_at b (auxdatae_at m) 1) a p m d ends.1 (omega (arith, ends)))

    finish-side : (b : List ℕ) (m : ℕ) (a : A) (p : ℕ) → d < p → Side (Past d) d [] (finish F.names b m a p)
    unfolding finish
    finish-side b m a p h = beyond (tail F.names (bits_at b (auxdatae_at m) 1) m a) b d p m h

    framed-side : (b : List ℕ) (h : H) (p : ℕ) → d < p → Side (Past d) d [] (framed F b h p)
    unfolding framed
    framed-side b h p k =
        side_after (run (F.body h) b p (8 * F.bytes h)) (finish F.names b (8 * F.bytes h)) (finish-side b (8 * F.bytes h)) (beyond (F.body h) b d p (8 * F.bytes h) k)

    -- two readings with the same header
    same-header : (t : Tree H) → (after (run t x 0 48) (framed F x)).result ≡ accepted c → (after (run t x 0 48) (framed F x)).place ≡ l
        → Split (Late d l) d (after (run t x 0 48) (framed F x)) (after (run t y 0 48) (framed F y))
    unfolding framed
    same-header t =
        split_after (run t x 0 48) (run t y 0 48) (framed F x) (framed F y) (reading x y d agree t 0 48 (omega arith))
        (λ h p k. split_after (run (F.body h) x p (8 * F.bytes h)) (run (F.body h) y p (8 * F.bytes h)) _ _
        (reading x y d agree (F.body h) p (8 * F.bytes h) k)
        (finish-split (8 * F.bytes h)) (finish-side x (8 * F.bytes h)) (finish-side y (8 * F.bytes h)))
        (framed-side x) (framed-side y)

    parted : {o u : Outcome A} → Split (Late d l) d o u → Parted d l o u
    parted s = record { common = s.0; others = s.1.rest; is = s.1.is; late = λ _. s.1.late; second = s.2 }

    -- what follows the opening
    abbrev next : Tree H → List ℕ → ℕ → Outcome A
    next t b p = after (run t b p 48) (framed F b)

    opened : (g : H → Tree H) (b : List ℕ) → after (run (F.opening >>= g) b 0 48) (framed F b) ≡ after (run F.opening b 0 48) (λ h p. next (g h) b p)
    opened g b = ap (λ (o : Outcome H). after o (framed F b)) (run_bind F.opening g b 0 48) ∙ sym (after-after (run F.opening b 0 48) _ (framed F b) _ (λ h p. refl))

    next-side : (t : Tree H) (b : List ℕ) (p : ℕ) → d < p → Side (Past d) d [] (next t b p)
    next-side t b p k = side_after (run t b p 48) (framed F b) (framed-side b) (beyond t b d p 48 k)

    -- the second is refused behind what was seen
    stopped : (h : H) (p : ℕ) → next (barrier F h) y p ≡ out (refused F.look.number) (p + (behind F.look - p)) []
    unfolding run after
    stopped h p = refl

    bar : d < behind F.look → (after (run F.opening x 0 48) (λ h p. next (F.rest h) x p)).result ≡ accepted c
        → Parted d l (after (run F.opening x 0 48) (λ h p. next (F.rest h) x p)) (after (run F.opening y 0 48) (λ h p. next (barrier F h) y p))
    unfolding after
    bar k = go (reading x y d agree F.opening 0 48 (omega arith))
      where
        O : Outcome H
        O = run F.opening x 0 48

        U : Outcome H
        U = run F.opening y 0 48

        f : H → ℕ → Outcome A
        f h p = next (F.rest h) x p

        g : H → ℕ → Outcome A
        g h p = next (barrier F h) y p

        both : (r : Result H) → (and_then r O.place O.records f).result ≡ accepted c → O.place ≤ d
            → Parted d l (and_then r O.place O.records f) (and_then r O.place O.records g)
        both (accepted h) e i =
            rw (stopped h O.place)
            (record {
              common = O.records;
              others = (f h O.place).records;
              is = refl;
              late = λ k. absurd k;
              second = record { rest = []; is = refl; late = tt; stands = let z : d < O.place + (behind F.look - O.place) = omega arith in z };
            })
        both (refused n) e i = absurd (let z : ◌≡◌ {A = ℕ} 0 1 = cc in omega arith)

        go : Common d O U → (after O f).result ≡ accepted c → Parted d l (after O f) (after U g)
        go (same q h) e = rw (← q) (both O.result e h)
        go (split s) e =
            parted (s.0, side-map late (side_after O f (λ h p. next-side (F.rest h) x p) s.1), side-map late (side_after U g (λ h p. next-side (barrier F h) y p) s.2))

    pub whole-parted : (whole x).result ≡ accepted c → (whole x).place ≡ l → Parted d l (whole x) (whole y)
    whole-parted e n = by_cases (dec_lt d (behind F.look)) early later
      where
        -- what is looked at lies before d
        later : ¬ (d < behind F.look) → Parted d l (whole x) (whole y)
        later h = rw (agree-bits x y d agree F.look.first F.look.width (omega arith)) (parted (same-header (header_by F (seen F x)) e n))

        sees : F.look.good (seen F x) ≡ true
        sees = good_of F x (seen F x) (ok-first (headed F x) (framed F x) (subst Ok (sym e) tt))

        early : d < behind F.look → Parted d l (whole x) (whole y)
        early h = go (F.look.good (seen F y)) refl
          where
            go : (r : Bool) → F.look.good (seen F y) ≡ r → Parted d l (whole x) (whole y)
            go true k = rw (clear F (seen F y) k ∙ sym (clear F (seen F x) sees)) (parted (same-header (header_by F (seen F x)) e n))
            go false k =
                let u : whole x ≡ after (run F.opening x 0 48) (λ h p. next (F.rest h) x p) = ap (λ t. after (run t x 0 48) (framed F x)) (clear F (seen F x) sees) ∙ opened F.rest x in
                let v : whole y ≡ after (run F.opening y 0 48) (λ h p. next (barrier F h) y p) = ap (λ t. after (run t y 0 48) (framed F y)) (barred F (seen F y) k) ∙ opened (barrier F) y in
                subst₂ (Parted d l) (sym u) (sym v) (bar h (subst (λ (o : Outcome A). o.result ≡ accepted c) u e))

  -- a record of the one that ends at or before d stands in the other, or is excepted
  stand : (x : List ℕ) (d : ℕ) (c r s : List Entry) (o u : Outcome A) → o.records ≡ c ++ r → u.records ≡ c ++ s
      → All (Late d (8 * F.announced x)) r → Stand F x d (list o) (list u)
  stand x d c r s o u eo eu late i f q h = rw eu (go (stays P c r s late i f (rw eo at q)))
    where
      P : Field → Type 0
      P f = (d < end f) ⊎ (((f.name ≡ F.names.auxbits) ⊎ (f.name ≡ F.names.auxdatal)) × (d + 18 ≤ 8 * F.announced x))

      go : {X : Type 0} → X ⊎ P f → X ⊎ Excepted F x d f
      go (inl a) = inl a
      go (inr (inl a)) = absurd (let z : ⊥ = omega arith in z)
      go (inr (inr a)) = inr (record { aux = a.0; early = a.1 })

  -- the records of the second in the first, and those of the first in a second that is accepted
  pub stand-second : (x : List ℕ) (d : ℕ) {o u : Outcome A} → Parted d (8 * F.announced x) o u → Stand F x d (list u) (list o)
  stand-second x d {o} {u} s = stand x d s.common s.second.rest s.others u o s.second.is s.is s.second.late

  pub stand-first : (x : List ℕ) (d : ℕ) {o u : Outcome A} → Parted d (8 * F.announced x) o u → Ok u.result → Stand F x d (list o) (list u)
  stand-first x d {o} {u} s k = stand x d s.common s.others s.second.rest o u s.is s.second.is (s.late k)
