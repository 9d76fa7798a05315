-- Names that steer nothing, of every format that looks at none of them. Assumes nothing.
use mathlib.Core.Path.{◌≡◌, refl, ap, sym, ◌∙◌, subst}
use mathlib.Core.Bool.{Bool, true, false, cond}
use mathlib.Core.List.{List, [], ◌∷◌}
use mathlib.Core.Logic.{inl, inr}
use Prim.Native.Nat.{ℕ, ◌+◌, ◌*◌, ◌-◌, ◌≤◌}
use native.Mathlib.Omega.{arith}
use lib.Dec.{leb, eqb, leb→le, nleb→lt}
use lib.ListN.{length}
use borrow.Author.Tests.{le-leb}
use Rattle.bits.specs.Bits.{bits_at, SameBits}
use Rattle.bits.proofs.BitLaws.{bits_at-cong}
use Rattle.reading.specs.Tree.{Tree}
use Rattle.reading.specs.Run.{Entry, Result, accepted, refused, Outcome, out, and_then, after, run}
use Rattle.reading.specs.Records.{All, Whole, Tiled, Valued}
use Rattle.reading.specs.Room.{cut}
use Rattle.reading.specs.Frame.{Format, behind, header_by, seen, headed, TailNames, ending, auxdatae_at, tail, finish, framed, sized, parse}
use Rattle.reading.specs.CommonReading.{answer}
use Rattle.reading.proofs.Laws.{Ok, test, choice}
use Rattle.reading.proofs.Rooms.{cut-same}
use Rattle.reading.proofs.Frames.{whole, whole-tiled, whole-valued}
use Rattle.reading.proofs.Tails.{finish-ends}
use Rattle.steers.specs.Blind.{Some, Other, BlindTo}
use Rattle.steers.specs.Steering.{Rewritten, RewrittenFrame, renewed, Named, SteersNothing}
use Rattle.steers.proofs.Blinds.{blind-header, blind-tail}
use Rattle.steers.proofs.Follows.{Spared, reread-all, Follows, follows-after, run-follows}
use Rattle.steers.proofs.Chosen.{kept_of, kept-spared, reread-kept, cut-renewed}

ruleset tests = (arith, leb→le, nleb→lt)

module _ {H A : Type 0} (F : Format H A) where
  -- what is accepted holds its frame
  accepted-sized : (b : List ℕ) (h : H) (p : ℕ) → Ok (sized F b h p).result → sized F b h p ≡ framed F b h p
  unfolding sized
  accepted-sized b h p = go (leb (F.bytes h) (length b))
    where
      go : (c : Bool) → Ok (cond c (framed F b h p) (out (refused 4) p [])).result → cond c (framed F b h p) (out (refused 4) p []) ≡ framed F b h p
      go true k = refl
      go false k = absurd k

  accepted-after : (b : List ℕ) → Ok (after (headed F b) (sized F b)).result → after (headed F b) (sized F b) ≡ whole F b
  unfolding after
  accepted-after b = go (headed F b).result
    where
      go : (r : Result H) → Ok (and_then r (headed F b).place (headed F b).records (sized F b)).result
          → and_then r (headed F b).place (headed F b).records (sized F b) ≡ and_then r (headed F b).place (headed F b).records (framed F b)
      go (accepted h) k = rw (accepted-sized b h (headed F b).place k) refl
      go (refused n) k = absurd k

  pub accepted-whole : (b : List ℕ) → Ok (parse F b).result → parse F b ≡ whole F b
  unfolding parse
  accepted-whole b = go (leb 6 (length b)) (accepted-after b)
    where
      go : (c : Bool) → (Ok (after (headed F b) (sized F b)).result → after (headed F b) (sized F b) ≡ whole F b)
          → Ok (cond c (after (headed F b) (sized F b)) (out (refused 1) 0 [])).result → cond c (after (headed F b) (sized F b)) (out (refused 1) 0 []) ≡ whole F b
      go true f k = f k
      go false f k = absurd k

  accepted-is : (r : Result A) → Ok r → (a : A) × (r ≡ accepted a)
  accepted-is (accepted a) k = (a, refl)
  accepted-is (refused n) k = absurd k

  -- an accepted frame ends where its bytes end
  pub framed-place : (b : List ℕ) (h : H) (p : ℕ) → Ok (framed F b h p).result → (framed F b h p).place ≡ 8 * F.bytes h
  unfolding framed after
  framed-place b h p = go o.result
    where
      o : Outcome A
      o = run (F.body h) b p (8 * F.bytes h)

      f : A → ℕ → Outcome A
      f = finish F.names b (8 * F.bytes h)

      go : (r : Result A) → Ok (and_then r o.place o.records f).result → (and_then r o.place o.records f).place ≡ 8 * F.bytes h
      go (accepted a) k = let c = accepted-is (f a o.place).result k in (finish-ends F.names b (8 * F.bytes h) a c.0 o.place c.1).0
      go (refused n) k = absurd k

  -- what holds an accepted frame, and 6 bytes, is accepted
  held_after : (b : List ℕ) → Ok (whole F b).result → (whole F b).place ≤ 8 * length b → after (headed F b) (sized F b) ≡ whole F b
  unfolding after sized
  held_after b = go (headed F b).result
    where
      go : (r : Result H) → Ok (and_then r (headed F b).place (headed F b).records (framed F b)).result
          → (and_then r (headed F b).place (headed F b).records (framed F b)).place ≤ 8 * length b
          → and_then r (headed F b).place (headed F b).records (sized F b) ≡ and_then r (headed F b).place (headed F b).records (framed F b)
      go (accepted h) k l =
          let e = framed-place b h (headed F b).place k in
          let n : F.bytes h ≤ length b = omega arith in
          rw (le-leb (F.bytes h) (length b) n) refl
      go (refused n) k l = refl

  held_whole : (b : List ℕ) → 6 ≤ length b → Ok (whole F b).result → (whole F b).place ≤ 8 * length b → parse F b ≡ whole F b
  unfolding parse
  held_whole b n k l = rw (le-leb 6 (length b) n) (held_after b k l)

  -- and what is accepted holds them
  abbrev Held : List ℕ → Outcome A → Type 0
  Held b o = Ok o.result → (6 ≤ length b) × (o.place ≤ 8 * length b)

  abbrev Fits : List ℕ → Outcome A → Type 0
  Fits b o = Ok o.result → o.place ≤ 8 * length b

  sized-fits : (b : List ℕ) (h : H) (p : ℕ) → Fits b (sized F b h p)
  unfolding sized
  sized-fits b h p =
      test (Fits b) (leb (F.bytes h) (length b)) (λ c k. let n = leb→le (F.bytes h) (length b) c in omega (arith, framed-place b h p k)) (λ _ k. absurd k)

  after-fits : (b : List ℕ) → Fits b (after (headed F b) (sized F b))
  unfolding after
  after-fits b = go (headed F b).result
    where
      go : (r : Result H) → Fits b (and_then r (headed F b).place (headed F b).records (sized F b))
      go (accepted h) = sized-fits b h (headed F b).place
      go (refused n) = λ k. absurd k

  accepted-held : (b : List ℕ) → Held b (parse F b)
  unfolding parse
  accepted-held b = test (Held b) (leb 6 (length b)) (λ c k. (leb→le 6 (length b) c, after-fits b k)) (λ _ k. absurd k)

module _ (N : ℕ → Bool) (x y : List ℕ) where
  -- an accepted tail has auxdatae as a record, so that the bit is the same in both
  abbrev Looks : {A : Type 0} → ℕ → Outcome A → Type 0
  Looks l o = Ok o.result → Spared N x y o.records → SameBits x y (auxdatae_at l) (auxdatae_at l + 1)

  module _ (names : TailNames) (auxdatae : N names.auxdatae ≡ false) where
    ending-looks : {A : Type 0} (a : A) (q l : ℕ) → q ≡ auxdatae_at l → Looks l (run (ending names a) x q l)
    unfolding run ending
    ending-looks a q l e = test (Looks l) (leb (q + 1) l) (λ _ i s j a c. s.0 auxdatae j (omega arith) (omega arith)) (λ _ i. absurd i)

    tail-looks : {A : Type 0} (v : ℕ) (a : A) (p l : ℕ) → Looks l (run (tail names v l a) x p l)
    unfolding tail run
    tail-looks {A} v a p l =
        choice G (leb (p + 18) l)
        (λ h. choice G (eqb v 1)
        (λ _. choice G (leb (p + 32) l)
        (λ f. test S (leb (p + (l - 32 - p)) l)
        (λ _ i s. test S (leb (p + (l - 32 - p) + 14) l)
        (λ _ i s. choice (λ t. S (run t x (p + (l - 32 - p) + 14) l)) (leb (bits_at x (p + (l - 32 - p)) 14) (l - 32 - p))
        (λ _. ending-looks a (p + (l - 32 - p) + 14) l (omega tests))
        (λ _. absurd)
        i s.1)
        (λ _. absurd)
        i s.1)
        (λ _. absurd))
        (λ f. absurd))
        (λ _. test S (leb (p + (auxdatae_at l - p)) l)
        (λ _ i s. ending-looks a (p + (auxdatae_at l - p)) l (omega tests) i s.1)
        (λ _. absurd)))
        (λ _. absurd)
      where
        S : Outcome A → Type 0
        S = Looks l

        G : Tree A → Type 0
        G t = S (run t x p l)

  finish-follows : {A : Type 0} (names : TailNames) → N names.auxbits ≡ false → N names.auxdatae ≡ false → N names.auxdatal ≡ false
      → (l : ℕ) (a : A) (p : ℕ) → Follows N x y (finish names x l a p) (finish names y l a p)
  unfolding finish
  finish-follows names b e f l a p = record {
    follows = λ i s.
        let v : bits_at y (auxdatae_at l) 1 ≡ bits_at x (auxdatae_at l) 1 = sym (bits_at-cong x y (auxdatae_at l) 1 (tail-looks names e _ a p l i s)) in
        ap (λ v. run (tail names v l a) y p l) v ∙ (run-follows N x y _ (blind-tail N names b f (bits_at x (auxdatae_at l) 1) l a) p l).follows i s;
  }

  -- the bits of a record with another name are the same in both
  other-same : (es : List Entry) (f m : ℕ) → Some (Other N f m) es → Spared N x y es → SameBits x y f m
  other-same [] f m x5 s i a b = elim x5 [ ]
  other-same (e ∷ es) f m (inl h) s i a b = s.0 h.name i (omega (arith, h.from)) (omega (arith, h.upto))
  other-same (e ∷ es) f m (inr h) s i a b = other-same es f m h s.1 i a b

  module _ {H A : Type 0} (F : Format H A) (blind : BlindTo N F) where
    framed-follows : (h : H) (p : ℕ) → Follows N x y (framed F x h p) (framed F y h p)
    unfolding framed
    framed-follows h p =
        follows-after N x y _ _ _ _ (run-follows N x y (F.body h) (blind.body h) p (8 * F.bytes h))
        (finish-follows F.names blind.auxbits blind.auxdatae blind.auxdatal (8 * F.bytes h))

    -- the reading, where the number v is seen ahead
    whole_by : ℕ → List ℕ → Outcome A
    whole_by v b = after (run (header_by F v) b 0 48) (framed F b)

    whole_by-follows : (v : ℕ) → Follows N x y (whole_by v x) (whole_by v y)
    unfolding whole_by
    whole_by-follows v = follows-after N x y _ _ _ _ (run-follows N x y (header_by F v) (blind-header N F blind.opening blind.rest v) 0 48) framed-follows

    whole-follows : (a : A) → (parse F x).result ≡ accepted a → Spared N x y (parse F x).records → whole F y ≡ reread-all N x y (parse F x)
    unfolding whole_by
    whole-follows a e s =
        let b : SameBits x y F.look.first (behind F.look) = other-same (parse F x).records F.look.first (behind F.look) (blind.look x a e) s in
        let v : seen F y ≡ seen F x = sym (bits_at-cong x y F.look.first F.look.width b) in
        let u : parse F x ≡ whole F x = accepted-whole F x (subst Ok (sym e) tt) in
        ap (λ v. whole_by v y) v
        ∙ (whole_by-follows (seen F x)).follows (subst (λ (o : Outcome A). Ok o.result) u (subst Ok (sym e) tt)) (subst (λ (o : Outcome A). Spared N x y o.records) u s)
        ∙ ap (reread-all N x y) (sym u)

    parse-follows : (a : A) → (parse F x).result ≡ accepted a → Spared N x y (parse F x).records → 6 ≤ length y → (parse F x).place ≤ 8 * length y
        → parse F y ≡ reread-all N x y (parse F x)
    parse-follows a e s six h =
        let w = whole-follows a e s in
        held_whole F y six (subst (λ (o : Outcome A). Ok o.result) (sym w) (subst Ok (sym e) tt)) (subst (λ (o : Outcome A). o.place ≤ 8 * length y) (sym w) h) ∙ w

module _ (N : ℕ → Bool) {H A : Type 0} (F : Format H A) (blind : BlindTo N F) where
  frame-renewed : (C : ℕ → Entry → Bool) → Named N F C → (x y : List ℕ) (a : A) → (parse F x).result ≡ accepted a → RewrittenFrame C (parse F x) x y
      → parse F y ≡ renewed C y (parse F x)
  frame-renewed C named x y a e r =
      let o = parse F x in
      let u : o ≡ whole F x = accepted-whole F x (subst Ok (sym e) tt) in
      let t = subst (λ o. Tiled 0 o) (sym u) (whole-tiled F x) in
      let w : t.upto ≡ o.place = subst (λ (z : Result A). Whole z t.upto o.place) e t.whole in
      let k = kept_of C x y o.records 0 0 t.upto t.tiles (λ i _ l h. r.elsewhere i (omega (arith, w)) h) in
      parse-follows N x y F blind a e (kept-spared C x y N named o.records 0 k) r.six r.holds
      ∙ ap (out o.result o.place) (reread-kept C x y o.records 0 (subst (λ (o : Outcome A). All (Valued x) o.records) (sym u) (whole-valued F x)) k)

  -- a buffer that is as long holds the frame
  parse-renewed : (C : ℕ → Entry → Bool) → Named N F C → (x y : List ℕ) (a : A) → (parse F x).result ≡ accepted a → Rewritten C (parse F x) x y
      → parse F y ≡ renewed C y (parse F x)
  parse-renewed C named x y a e r =
      let h = accepted-held F x (subst Ok (sym e) tt) in
      frame-renewed C named x y a e (record { six = omega (arith, r.long, h.0); holds = omega (arith, r.long, h.1); elsewhere = r.elsewhere })

  pub steers-nothing : SteersNothing N F
  steers-nothing = record {
    frame = frame-renewed;
    whole = parse-renewed;
    roomed = λ C named x y n a e r.
        let u : answer F n x ≡ parse F x = cut-same n (parse F x) (λ q. let z : ◌≡◌ {A = ℕ} 0 1 = cc in omega arith) in
        let v = parse-renewed C named x y a (subst (λ (o : Outcome A). o.result ≡ accepted a) u e) (subst (λ o. Rewritten C o x y) u r) in
        ap (cut n) v ∙ cut-renewed C y n (parse F x);
  }
