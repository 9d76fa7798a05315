-- The end of an accepted frame. Assumes nothing.
use mathlib.Core.Path.{◌≡◌, refl, ap, sym, ◌∙◌, subst}
use mathlib.Core.List.{List, [], ◌∷◌, ◌++◌}
use mathlib.Core.Option.{some}
use Prim.Native.Nat.{ℕ, zero, suc, ◌+◌, ◌*◌, ◌-◌, ◌≤◌}
use native.Mathlib.Omega.{arith}
use lib.Dec.{leb, eqb, leb→le, nleb→lt}
use lib.ListN.{length, length-append, get_elem?}
use Rattle.bits.specs.Bits.{bits_at}
use Rattle.reading.specs.Tree.{Tree}
use Rattle.reading.specs.Run.{Entry, end, element, Result, accepted, refused, Outcome, and_then, after, run}
use Rattle.reading.specs.Records.{All, Tiles}
use Rattle.reading.specs.Frame.{Format, headed, TailNames, plain, ending, auxdatae_at, tail, finish, framed, sized, parse}
use Rattle.reading.specs.CommonReading.{answer}
use Rattle.reading.proofs.Laws.{Ok, test, choice}
use Rattle.reading.proofs.Rooms.{cut-same}
use Rattle.reading.proofs.Frames.{whole, whole-tiled}
use Rattle.steers.specs.Closing.{Closes, Closing}
use Rattle.steers.proofs.Theorem.{accepted-whole, framed-place}

ruleset tests = (arith, leb→le, nleb→lt)

-- the last record is crc2, and ends at the bit l
record Ends (crc2 l : ℕ) (es : List Entry) : Type 0 where
  before : List Entry
  value : ℕ
  is : es ≡ before ++ (element (plain crc2) (l - 16) 16 value ∷ [])

module _ (crc2 l : ℕ) where
  ends-cons : (e : Entry) {es : List Entry} → Ends crc2 l es → Ends crc2 l (e ∷ es)
  ends-cons e h = record { before = e ∷ h.before; value = h.value; is = ap (e ∷◌) h.is }

  ends-append : (es : List Entry) {fs : List Entry} → Ends crc2 l fs → Ends crc2 l (es ++ fs)
  ends-append [] h = h
  ends-append (e ∷ es) h = ends-cons e (ends-append es h)

  -- where the outcome is accepted
  abbrev Ended : {A : Type 0} → Outcome A → Type 0
  Ended o = Ok o.result → Ends crc2 l o.records

  ended-after : {A B : Type 0} (o : Outcome A) (f : A → ℕ → Outcome B) → ((a : A) (p : ℕ) → Ended (f a p)) → Ended (after o f)
  unfolding after
  ended-after {A} o f h = go o.result
    where
      go : (r : Result A) → Ended (and_then r o.place o.records f)
      go (accepted a) k = ends-append o.records (h a o.place k)
      go (refused n) k = absurd k

module _ (names : TailNames) (b : List ℕ) where
  ending-ended : {A : Type 0} (a : A) (q l : ℕ) → q + 18 ≡ l → Ended names.crc2 l (run (ending names a) b q l)
  unfolding run ending
  ending-ended {A} a q l e =
      test S (leb (q + 1) l)
      (λ _ k. ends-cons _ l _ (test S (leb (q + 1 + 1) l)
      (λ _ k. ends-cons _ l _ (test S (leb (q + 1 + 1 + 16) l)
      (λ _ _. record { before = []; value = bits_at b (q + 1 + 1) 16; is = let z : q + 1 + 1 ≡ l - 16 = omega arith in ap (λ p. element (plain names.crc2) p 16 (bits_at b (q + 1 + 1) 16) ∷ []) z })
      (λ _. absurd) k))
      (λ _. absurd) k))
      (λ _. absurd)
    where
      S : Outcome A → Type 0
      S = Ended names.crc2 l

  tail-ended : {A : Type 0} (v : ℕ) (a : A) (p l : ℕ) → Ended names.crc2 l (run (tail names v l a) b p l)
  unfolding tail run
  tail-ended {A} v a p l =
      choice G (leb (p + 18) l)
      (λ h. choice G (eqb v 1)
      (λ _. choice G (leb (p + 32) l)
      (λ f. test S (leb (p + (l - 32 - p)) l)
      (λ _ k. ends-cons _ l _ (test S (leb (p + (l - 32 - p) + 14) l)
      (λ _ k. ends-cons _ l _ (choice (λ t. S (run t b (p + (l - 32 - p) + 14) l)) (leb (bits_at b (p + (l - 32 - p)) 14) (l - 32 - p))
      (λ _. ending-ended a (p + (l - 32 - p) + 14) l (omega tests))
      (λ _. absurd) k))
      (λ _. absurd) k))
      (λ _. absurd))
      (λ f. absurd))
      (λ _. test S (leb (p + (auxdatae_at l - p)) l)
      (λ _ k. ends-cons _ l _ (ending-ended a (p + (auxdatae_at l - p)) l (omega tests) k))
      (λ _. absurd)))
      (λ _. absurd)
    where
      S : Outcome A → Type 0
      S = Ended names.crc2 l

      G : Tree A → Type 0
      G t = S (run t b p l)

-- of records side by side, those before the last end where it begins
tiles-before : (q m : ℕ) (es : List Entry) (e : Entry) → Tiles q (es ++ (e ∷ [])) m → All (λ f. end f.field ≤ e.field.first) es
tiles-before q m [] e t = tt
tiles-before q m (f ∷ es) e t = (from (end f.field) es t.1, tiles-before (end f.field) m es e t.1)
  where
    from : (q : ℕ) (es : List Entry) → Tiles q (es ++ (e ∷ [])) m → q ≤ e.field.first
    from q [] t = omega (arith, t.0)
    from q (g ∷ es) t = let h = from (end g.field) es t.1 in omega (arith, t.0)

module _ {H A : Type 0} (F : Format H A) where
  -- a frame that is accepted from the header on: its bytes, and its last record
  record Framed (b : List ℕ) (o : Outcome A) : Type 0 where
    bytes : ℕ
    place : o.place ≡ 8 * bytes
    held : bytes ≤ length b
    ends : Ends F.names.crc2 (8 * bytes) o.records

  abbrev Closed : List ℕ → Outcome A → Type 0
  Closed b o = Ok o.result → Framed b o

  framed-ended : (b : List ℕ) (h : H) (p : ℕ) → Ended F.names.crc2 (8 * F.bytes h) (framed F b h p)
  unfolding framed finish
  framed-ended b h p =
      ended-after F.names.crc2 (8 * F.bytes h) (run (F.body h) b p (8 * F.bytes h)) _
      (λ a q. tail-ended F.names b (bits_at b (auxdatae_at (8 * F.bytes h)) 1) a q (8 * F.bytes h))

  sized-closed : (b : List ℕ) (h : H) (p : ℕ) → Closed b (sized F b h p)
  unfolding sized
  sized-closed b h p =
      test (Closed b) (leb (F.bytes h) (length b))
      (λ c k. record { bytes = F.bytes h; place = framed-place F b h p k; held = leb→le (F.bytes h) (length b) c; ends = framed-ended b h p k })
      (λ _. absurd)

  closed_after : (b : List ℕ) (o : Outcome H) (f : H → ℕ → Outcome A) → ((h : H) (p : ℕ) → Closed b (f h p)) → Closed b (after o f)
  unfolding after
  closed_after b o f h = go o.result
    where
      go : (r : Result H) → Closed b (and_then r o.place o.records f)
      go (accepted a) k =
          let c = h a o.place k in
          record { bytes = c.bytes; place = c.place; held = c.held; ends = ends-append F.names.crc2 (8 * c.bytes) o.records c.ends }
      go (refused n) k = absurd k

  parse-closed : (b : List ℕ) → Closed b (parse F b)
  unfolding parse
  parse-closed b = test (Closed b) (leb 6 (length b)) (λ _. closed_after b (headed F b) (sized F b) (sized-closed b)) (λ _. absurd)

  pub closing : Closing F
  closing b n a e =
      let u : answer F n b ≡ parse F b = cut-same n (parse F b) (λ q. let z : ◌≡◌ {A = ℕ} 0 1 = cc in omega arith) in
      let k : Ok (parse F b).result = subst (λ (o : Outcome A). Ok o.result) u (subst Ok (sym e) tt) in
      subst (Closes F b) (sym u) (of (parse-closed b k) (accepted-whole F b k))
    where
      of : Framed b (parse F b) → parse F b ≡ whole F b → Closes F b (parse F b)
      of c w =
          let t = whole-tiled F b in
          let s : Tiles 0 (c.ends.before ++ (element (plain F.names.crc2) (8 * c.bytes - 16) 16 c.ends.value ∷ [])) t.upto = subst (λ es. Tiles 0 es t.upto) (ap (λ (o : Outcome A). o.records) (sym w) ∙ c.ends.is) t.tiles in
          record {
            bytes = c.bytes;
            place = c.place;
            held = c.held;
            before = c.ends.before;
            value = c.ends.value;
            last = c.ends.is;
            others = tiles-before 0 t.upto c.ends.before _ s;
          }

last-at : (es : List Entry) (e : Entry) → get_elem? (es ++ (e ∷ [])) (length (es ++ (e ∷ [])) - 1) ≡ some e
last-at es e = ap (get_elem? (es ++ (e ∷ []))) (long es) ∙ there es
  where
    long : (es : List Entry) → length (es ++ (e ∷ [])) - 1 ≡ length es
    long es = let h = length-append es (e ∷ []) in omega arith

    there : (es : List Entry) → get_elem? (es ++ (e ∷ [])) (length es) ≡ some e
    there [] = refl
    there (f ∷ es) = there es

other_at : (P : Entry → Type 0) (es : List Entry) (c : Entry) → All P es → (i : ℕ) (e : Entry) → get_elem? (es ++ (c ∷ [])) i ≡ some e → ¬ (e.field.name ≡ c.field.name) → P e
other_at P [] c h zero e q n = absurd (n (let w : c ≡ e = cc in ap (λ (f : Entry). f.field.name) (sym w)))
other_at P [] c h (suc i) e q n = absurd (let z : ◌≡◌ {A = ℕ} 0 1 = cc in omega arith)
other_at P (f ∷ es) c h zero e q n = let w : f ≡ e = cc in subst P w h.0
other_at P (f ∷ es) c h (suc i) e q n = other_at P es c h.1 i e q n

module _ {H A : Type 0} (F : Format H A) {b : List ℕ} {o : Outcome A} (c : Closes F b o) where
  -- the record at the last place
  pub closes-last : get_elem? o.records (length o.records - 1) ≡ some (element (plain F.names.crc2) (8 * c.bytes - 16) 16 c.value)
  closes-last = rw c.last (last-at c.before _)

  -- a record with another name
  pub closes-other : (i : ℕ) (e : Entry) → get_elem? o.records i ≡ some e → ¬ (e.field.name ≡ F.names.crc2) → end e.field ≤ 8 * c.bytes - 16
  closes-other i e q n = other_at _ c.before _ c.others i e (rw c.last at q) n
