-- In every accepted reading the bits that are looked at ahead are those of a record bsid, before crc2. Assumes nothing.
use mathlib.Core.Path.{◌≡◌, refl, ap, sym, ◌∙◌, subst}
use mathlib.Core.Bool.{Bool, true, false, cond, ◌&&◌, true≢false}
use mathlib.Core.List.{List, [], ◌∷◌, ◌++◌}
use mathlib.Core.Logic.{◌⊎◌, inl, inr}
use Prim.Native.Nat.{ℕ, ◌+◌, ◌*◌, ◌-◌, ◌≤◌}
use native.Mathlib.Omega.{arith}
use lib.Dec.{leb, eqb}
use lib.ListN.{length}
use borrow.Author.Tests.{eqb-true}
use Rattle.bits.specs.Bits.{bits_at}
use Rattle.names.specs.Names.{bsid}
use Rattle.reading.specs.Tree.{◌>>=◌}
use Rattle.reading.specs.Run.{Entry, end as end_of, Result, accepted, refused, Outcome, and_then, after, run}
use Rattle.reading.specs.Records.{All}
use Rattle.reading.specs.Frame.{headed, framed, sized, parse}
use Rattle.reading.specs.CommonReading.{answer}
use Rattle.reading.proofs.Laws.{Ok, test, choice}
use Rattle.reading.proofs.Rooms.{cut-same}
use Rattle.cells.specs.Cells.{State, stored, place_of}
use Rattle.derivations.specs.Derivations.{derived}
use Rattle.rows.specs.Syntax.{Block, element, elements, span, mantissas, exponents, when, each, reject, reject_at, put, fill, derive, end, ◌⨾◌, holds_of, item, meaning}
use Rattle.annex.specs.Annex.{body}
use Rattle.annex.specs.Frame.{bytes_of, eac3}
use Rattle.annex.proofs.Header.{headed_is, headed-gives, sized-is}
use Rattle.bounds.proofs.Bounds.{both}
use Rattle.unmet.proofs.Bsid.{lacks, shows, body-shows}
use Rattle.steers.specs.Blind.{Some}
use Rattle.steers.specs.Closing.{Closes}

some_left : (P : Entry → Type 0) (es fs : List Entry) → Some P es → Some P (es ++ fs)
some_left P [] fs x = elim x [ ]
some_left P (e ∷ es) fs (inl h) = inl h
some_left P (e ∷ es) fs (inr h) = inr (some_left P es fs h)

some_right : (P : Entry → Type 0) (es fs : List Entry) → Some P fs → Some P (es ++ fs)
some_right P [] fs h = h
some_right P (e ∷ es) fs h = inr (some_right P es fs h)

-- the record bsid
abbrev pub Bsid : Entry → Type 0
Bsid e = (e.field.name ≡ bsid) × ((e.field.first ≡ 40) × (e.field.width ≡ 5))

-- an accepted outcome has it
abbrev Has : {A : Type 0} → Outcome A → Type 0
Has o = Ok o.result → Some Bsid o.records

-- where what it follows has it, and where what follows has it
has_first : {A B : Type 0} (o : Outcome A) (f : A → ℕ → Outcome B) → Has o → Has (after o f)
unfolding after
has_first {A} o f h = go o.result refl
  where
    go : (r : Result A) → o.result ≡ r → Has (and_then r o.place o.records f)
    go (accepted a) e k = some_left Bsid o.records (f a o.place).records (h (subst Ok (sym e) tt))
    go (refused n) e k = absurd k

has-next : {A B : Type 0} (o : Outcome A) (f : A → ℕ → Outcome B) → ((a : A) → o.result ≡ accepted a → Has (f a o.place)) → Has (after o f)
unfolding after
has-next {A} o f h = go o.result refl
  where
    go : (r : Result A) → o.result ≡ r → Has (and_then r o.place o.records f)
    go (accepted a) e k = some_right Bsid o.records (f a o.place).records (h a e k)
    go (refused n) e k = absurd k

module _ (s : List ℕ) (l : ℕ) where
  shown-has : (b : Block) (p : ℕ) → shows p b ≡ true → (st : State) → Has (run (meaning b st) s p l)
  unfolding shows item meaning run ◌>>=◌
  shown-has end p h st = absurd (true≢false (sym h))
  shown-has (element name i w a ⨾ b) p h st =
      test Has (leb (p + w) l) (λ _ k. go (eqb name bsid) refl h (λ d. shown-has b (p + w) d (stored st (place_of a st.cells) (bits_at s p w)) k)) (λ _. absurd)
    where
      go : {X : Type 0} (c : Bool) → eqb name bsid ≡ c → cond c ((eqb p 40 && eqb w 5) && lacks b) (shows (p + w) b) ≡ true → (shows (p + w) b ≡ true → X)
          → ((name ≡ bsid) × ((p ≡ 40) × (w ≡ 5))) ⊎ X
      go true e d f =
          let g = both (eqb p 40) (eqb w 5) (both (eqb p 40 && eqb w 5) (lacks b) d).0 in
          inl (eqb-true name bsid e, (eqb-true p 40 g.0, eqb-true w 5 g.1))
      go false e d f = inr (f d)
  shown-has (elements name i w a c f n ⨾ b) p h st = absurd (true≢false (sym h))
  shown-has (span name c ⨾ b) p h st = absurd (true≢false (sym h))
  shown-has (mantissas name a ⨾ b) p h st = absurd (true≢false (sym h))
  shown-has (exponents x name i ⨾ b) p h st = absurd (true≢false (sym h))
  shown-has (when c x ⨾ b) p h st = absurd (true≢false (sym h))
  shown-has (each c i n x ⨾ b) p h st = absurd (true≢false (sym h))
  shown-has (reject c n ⨾ b) p h st =
      choice (λ t. Has (run (t >>= (λ x. meaning b x)) s p l)) (holds_of c st.cells) (λ _. absurd) (λ _. shown-has b p h st)
  shown-has (reject_at c n j ⨾ b) p h st = absurd (true≢false (sym h))
  shown-has (put a v ⨾ b) p h st = absurd (true≢false (sym h))
  shown-has (fill j n x y a ⨾ b) p h st = absurd (true≢false (sym h))
  shown-has (derive j ⨾ b) p h st =
      choice (λ t. Has (run (t >>= (λ x. meaning b x)) s p l)) (eqb (derived j st).number 0) (λ _. shown-has b p h (derived j st).st) (λ _. absurd)

module _ (s : List ℕ) where
  sized-has : (h : State) (p : ℕ) → p ≡ 32 → Has (sized eac3 s h p)
  unfolding sized framed eac3
  sized-has h p e =
      test Has (leb (bytes_of h) (length s))
      (λ _. has_first (run (meaning body h) s p (8 * bytes_of h)) _ (shown-has s (8 * bytes_of h) body p (rw e body-shows) h))
      (λ _. absurd)

  pub parse-has : Ok (parse eac3 s).result → Some Bsid (parse eac3 s).records
  unfolding parse
  parse-has =
      test Has (leb 6 (length s))
      (λ _. has-next (headed eac3 s) (sized eac3 s)
      (λ h e. sized-has h _ (ap (λ (o : Outcome State). o.place) (headed_is s h e) ∙ ((sized-is s).gives h (headed-gives s h e)).ends)))
      (λ _. absurd)

-- a record bsid that is not the last ends before it
some-before : (m : ℕ) (es : List Entry) (c : Entry) → All (λ e. end_of e.field ≤ m) es → ¬ (c.field.name ≡ bsid) → Some Bsid (es ++ (c ∷ [])) → 45 ≤ m
some-before m [] c h n (inl k) = absurd (n k.0)
some-before m [] c h n (inr k) = absurd k
some-before m (e ∷ es) c h n (inl k) = omega (arith, h.0, k.1)
some-before m (e ∷ es) c h n (inr k) = some-before m es c h.1 n k

-- an accepted frame has 8 bytes or more
pub frame-long : (s : List ℕ) (n : ℕ) (a : State) → (answer eac3 n s).result ≡ accepted a → (c : Closes eac3 s (answer eac3 n s)) → 8 ≤ c.bytes
unfolding eac3
frame-long s n a e c =
    let u : answer eac3 n s ≡ parse eac3 s = cut-same n (parse eac3 s) (λ q. let z : ◌≡◌ {A = ℕ} 0 1 = cc in omega arith) in
    let k : Ok (parse eac3 s).result = subst (λ (o : Outcome State). Ok o.result) u (subst Ok (sym e) tt) in
    let h : Some Bsid (answer eac3 n s).records = subst (λ (o : Outcome State). Some Bsid o.records) (sym u) (parse-has s k) in
    let z : 45 ≤ 8 * c.bytes - 16 = some-before (8 * c.bytes - 16) c.before _ c.others (λ q. omega arith) (subst (Some Bsid) c.last h) in
    omega arith
