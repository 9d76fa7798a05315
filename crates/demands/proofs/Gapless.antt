-- Every record list of the reader runs from bit 0 without a gap. Assumes nothing.
use mathlib.Core.Path.{◌≡◌, refl, ap, sym, ◌∙◌}
use mathlib.Core.Bool.{Bool, true, false, cond}
use mathlib.Core.List.{List, [], ◌∷◌, map}
use mathlib.Core.Option.{some}
use Prim.Native.Nat.{ℕ, zero, suc, ◌+◌, ◌*◌, ◌/◌, ◌≤◌, ◌<◌}
use native.Mathlib.Omega.{arith}
use lib.Dec.{leb}
use lib.ListN.{length, get_elem?}
use borrow.Author.Tests.{leb-true}
use Rattle.reading.specs.Run.{Field, Entry, end, Result, accepted, refused, Outcome, out, and_then, after, run}
use Rattle.reading.specs.Room.{size, cut_at, cut}
use Rattle.reading.specs.Records.{Tiles, Whole, Tiled}
use Rattle.reading.specs.Frame.{Format, header_by, seen, headed, Announces, auxdatae_at, tail, finish, framed, sized, parse}
use Rattle.bits.specs.Bits.{bits_at}
use Rattle.reading.specs.CommonReading.{Holds}
use Rattle.reading.proofs.Laws.{tiled, tiled-after}
use Rattle.reading.proofs.Rooms.{cut-same}
use Rattle.reading.proofs.Frames.{whole, parse-whole, whole-ends}
use Rattle.cells.specs.Cells.{State}
use Rattle.annex.specs.Frame.{eac3}
use Rattle.annex.proofs.Header.{tells}
use Rattle.demands.specs.Calls.{CallBy, Call, count, nth}
use Rattle.demands.specs.Gapless.{Gapless}
use Rattle.demands.proofs.Calls.{outcome, accepts, counts, bytes, holds}

-- records that tile, one by one
tile-first : (es : List Entry) (q m : ℕ) (f : Field) → Tiles q es m → get_elem? (map (λ (e : Entry). e.field) es) 0 ≡ some f → f.first ≡ q
tile-first [] q m f t e = absurd (let z : ◌≡◌ {A = ℕ} 0 1 = cc in omega arith)
tile-first (x ∷ es) q m f t e = let z : x.field ≡ f = cc in ap (λ (g : Field). g.first) (sym z) ∙ t.0

tile-next : (es : List Entry) (q m i : ℕ) (f g : Field) → Tiles q es m → get_elem? (map (λ (e : Entry). e.field) es) i ≡ some f
    → get_elem? (map (λ (e : Entry). e.field) es) (suc i) ≡ some g → g.first ≡ end f
tile-next [] q m i f g t e k = absurd (let z : ◌≡◌ {A = ℕ} 0 1 = cc in omega arith)
tile-next (x ∷ es) q m zero f g t e k = let z : x.field ≡ f = cc in tile-first es (end x.field) m g t.1 k ∙ ap end z
tile-next (x ∷ es) q m (suc i) f g t e k = tile-next es (end x.field) m i f g t.1 e k

tile-last : (es : List Entry) (q m i : ℕ) (f : Field) → Tiles q es m → get_elem? (map (λ (e : Entry). e.field) es) i ≡ some f → suc i ≡ length es → end f ≡ m
tile-last [] q m i f t e k = absurd (let z : ⊥ = omega arith in z)
tile-last (x ∷ []) q m zero f t e k = let z : x.field ≡ f = cc in ap end (sym z) ∙ t.1
tile-last (x ∷ y ∷ es) q m zero f t e k = absurd (let z : ⊥ = omega arith in z)
tile-last (x ∷ es) q m (suc i) f t e k = tile-last es (end x.field) m i f t.1 e (omega arith)

-- a cut keeps the records side by side
cut-tiled : {A : Type 0} (n q : ℕ) (o : Outcome A) → Tiled q o → Tiled q (cut n o)
unfolding cut
cut-tiled {A} n q o h = go n q o.records h.upto h.tiles h.whole
  where
    go : (n q : ℕ) (es : List Entry) (m : ℕ) → Tiles q es m → Whole o.result m o.place → Tiled q (cut_at n o.result o.place es)
    go n q [] m t w = record { upto = m; tiles = t; whole = w }
    go zero q (e ∷ es) m t w = record { upto = q; tiles = refl; whole = let z : q ≤ e.field.first = omega (arith, t.0) in z }
    go (suc n) q (e ∷ es) m t w = let k = go n (end e.field) es m t.1 w in record { upto = k.upto; tiles = (t.0, k.tiles); whole = k.whole }

module _ {H A : Type 0} (F : Format H A) where
  none-tiled : (k p : ℕ) → Tiled {A = A} p (out (refused k) p [])
  none-tiled k p = record { upto = p; tiles = refl; whole = let z : p ≤ p = omega arith in z }

  cond-tiled : (b : Bool) (p k : ℕ) (o : Outcome A) → Tiled p o → Tiled p (cond b o (out (refused k) p []))
  cond-tiled true p k o h = h
  cond-tiled false p k o h = none-tiled k p

  finish-tiled : (b : List ℕ) (l : ℕ) (a : A) (p : ℕ) → Tiled p (finish F.names b l a p)
  unfolding finish
  finish-tiled b l a p = tiled (tail F.names (bits_at b (auxdatae_at l) 1) l a) b p l

  framed-tiled : (b : List ℕ) (h : H) (p : ℕ) → Tiled p (framed F b h p)
  unfolding framed
  framed-tiled b h p = tiled-after (run (F.body h) b p (8 * F.bytes h)) _ (finish-tiled b (8 * F.bytes h)) (tiled (F.body h) b p (8 * F.bytes h))

  sized-tiled : (b : List ℕ) (h : H) (p : ℕ) → Tiled p (sized F b h p)
  unfolding sized
  sized-tiled b h p = cond-tiled (leb (F.bytes h) (length b)) p 4 (framed F b h p) (framed-tiled b h p)

  pub parse-tiled : (b : List ℕ) → Tiled 0 (parse F b)
  unfolding parse
  parse-tiled b = cond-tiled (leb 6 (length b)) 0 1 _ (tiled-after (headed F b) _ (sized-tiled b) (tiled (header_by F (seen F b)) b 0 48))

  -- an accepted buffer holds its frame
  accepted-holds : Announces F → (b : List ℕ) (c : A) → (parse F b).result ≡ accepted c → Holds F b
  unfolding parse sized after
  accepted-holds n b c = six (leb 6 (length b)) refl
    where
      O : Outcome H
      O = headed F b

      whole_by : (t : Bool) (h : H) → leb (F.bytes h) (length b) ≡ t → (cond t (framed F b h O.place) (out (refused 4) O.place [])).result ≡ accepted c → F.bytes h ≤ length b
      whole_by true h q e = leb-true _ _ q
      whole_by false h q e = absurd (let z : ◌≡◌ {A = ℕ} 0 1 = cc in omega arith)

      head : (r : Result H) → O.result ≡ r → (and_then r O.place O.records (λ h p. cond (leb (F.bytes h) (length b)) (framed F b h p) (out (refused 4) p []))).result ≡ accepted c
          → F.announced b ≤ length b
      head (accepted h) q e = let z = whole_by (leb (F.bytes h) (length b)) h refl e in let w = n b h q in omega arith
      head (refused k) q e = absurd (let z : ◌≡◌ {A = ℕ} 0 1 = cc in omega arith)

      six : (t : Bool) → leb 6 (length b) ≡ t
          → (cond t (and_then O.result O.place O.records (λ h p. cond (leb (F.bytes h) (length b)) (framed F b h p) (out (refused 4) p []))) (out (refused 1) 0 [])).result ≡ accepted c
          → Holds F b
      six true q e = record { six = leb-true _ _ q; whole = head O.result refl e }
      six false q e = absurd (let z : ◌≡◌ {A = ℕ} 0 1 = cc in omega arith)

  -- and ends where it announces
  pub accepted-ends : Announces F → (n : ℕ) (b : List ℕ) (c : A) → (cut n (parse F b)).result ≡ accepted c → (cut n (parse F b)).place ≡ 8 * F.announced b
  accepted-ends t n b c e =
      let u : cut n (parse F b) ≡ parse F b = cut-same n (parse F b) (λ q. let z : ◌≡◌ {A = ℕ} 0 1 = cc in omega arith) in
      let a : (parse F b).result ≡ accepted c = ap (λ (o : Outcome A). o.result) (sym u) ∙ e in
      let w : parse F b ≡ whole F b = parse-whole F t b (accepted-holds t b c a) in
      ap (λ (o : Outcome A). o.place) (u ∙ w) ∙ whole-ends F t b c (ap (λ (o : Outcome A). o.result) (sym w) ∙ a)

reach : {A : Type 0} (r : Result A) (a : A) {m p : ℕ} → r ≡ accepted a → Whole r m p → m ≡ p
reach (accepted b) a e w = w
reach (refused k) a e w = absurd (let z : ◌≡◌ {A = ℕ} 0 1 = cc in omega arith)

pub gapless-by : (F : Format State State) → Announces F → (s : List ℕ) (c : CallBy F s) → Gapless s c
gapless-by F told s c = record {
  begins = λ h. tile-first (outcome c).records 0 T.upto (nth c 0) T.tiles (holds c 0 h);
  goes_on = λ i h.
      let k : i < count c = omega arith in
      let e : i + 1 ≡ suc i = omega arith in
      tile-next (outcome c).records 0 T.upto i (nth c i) (nth c (i + 1)) T.tiles (holds c i k) (ap (λ j. get_elem? (map (λ (e : Entry). e.field) (outcome c).records) j) (sym e) ∙ holds c (i + 1) h);
  ends = λ a i h.
      let k : i < count c = omega arith in
      let u = accepts c a in
      let l : suc i ≡ length (outcome c).records = omega (arith, counts c) in
      let p = accepted-ends F told (size c.lent) s u.0 u.1 in
      let e : end (nth c i) ≡ T.upto = tile-last (outcome c).records 0 T.upto i (nth c i) T.tiles (holds c i k) l in
      let w : T.upto ≡ (outcome c).place = reach (outcome c).result u.0 u.1 T.whole in
      let b = bytes c a in
      let z : end (nth c i) ≡ 8 * ((outcome c).place / 8) = omega (arith, p, e, w) in
      z ∙ ap (λ n. 8 * n) (sym b);
}
  where
    T : Tiled 0 (outcome c)
    T = cut-tiled _ 0 (parse F s) (parse-tiled F s)

pub gapless : (s : List ℕ) (c : Call s) → Gapless s c
gapless = gapless-by eac3 tells
