-- Laws of a format that takes short frames only. Assumes nothing.
use mathlib.Core.Path.{◌≡◌, refl, ap, sym, ◌∙◌}
use mathlib.Core.Bool.{Bool, true, false, cond}
use mathlib.Core.List.{List, [], append-nil}
use mathlib.Core.Logic.{by_cases}
use Prim.Native.Nat.{ℕ, ◌+◌, ◌*◌, ◌-◌, ◌/◌, ◌%◌, ◌^◌, ◌≤◌, ◌<◌, min}
use native.Mathlib.Omega.{arith}
use native.Mathlib.Decide.{dec_le}
use lib.Dec.{leb}
use lib.ListN.{length, length-take, take}
use lib.Seq.{get_or-take}
use borrow.Author.Tests.{le-leb, lt-leb, leb-true}
use Rattle.bits.specs.Bits.{bit_at, bits_at, SameBits}
use Rattle.bits.proofs.BitLaws.{bits_at-cong}
use Rattle.reading.specs.Tree.{Skim, stop, fail, at, take as takes, Tree, done, refuse, ahead, here, read, span, scan, ◌>>=◌}
use Rattle.reading.specs.Run.{Result, accepted, refused, Outcome, out, cons, prefix, element, region, and_then, after, skim, run}
use Rattle.reading.specs.Frame.{Format, behind, header_by, seen, headed, Announces, auxdatae_at, tail, finish, framed, sized, parse}
use Rattle.reading.proofs.Trees.{bind_assoc}
use Rattle.reading.proofs.Runs.{run_bind, after-after}
use Rattle.reading.proofs.Heads.{barrier, clear, barred}
use Rattle.reading.proofs.Theorem.{common-reading}
use Rattle.short_frames.specs.ShortFrames.{short, up_to, ShortFrames}
use Rattle.short_frames.specs.Tested.{tested}

after_same : {A B : Type 0} (o : Outcome A) (f g : A → ℕ → Outcome B) → ((a : A) → o.result ≡ accepted a → f a o.place ≡ g a o.place) → after o f ≡ after o g
unfolding after
after_same {A} o f g h = go o.result refl
  where
    go : (r : Result A) → o.result ≡ r → and_then r o.place o.records f ≡ and_then r o.place o.records g
    go (accepted a) q = rw (h a q) refl
    go (refused n) q = refl

-- a header that is refused is followed by nothing
after-refused : {A B : Type 0} (o : Outcome A) (f g : A → ℕ → Outcome B) (k : ℕ) → o.result ≡ refused k → after o f ≡ after o g
after-refused o f g k e = after_same o f g (λ a q. absurd (let z : ◌≡◌ {A = ℕ} 0 1 = cc in omega arith))

after-accepted : {A B : Type 0} (o : Outcome A) (f : A → ℕ → Outcome B) (a : A) → o.result ≡ accepted a → after o f ≡ prefix o.records (f a o.place)
unfolding after
after-accepted o f a e = rw e refl

-- the same size by a buffer and by its first bytes
leb-min : (k n l : ℕ) → k ≤ n → leb k (min n l) ≡ leb k l
leb-min k n l h = by_cases (dec_le k l)
    (λ i. let z : k ≤ min n l = omega arith in le-leb k (min n l) z ∙ sym (le-leb k l i))
    (λ i. let y : l < k = omega arith in let z : min n l < k = omega arith in lt-leb k (min n l) z ∙ sym (lt-leb k l y))

-- a run looks at nothing behind its limit
module _ (x y : List ℕ) (l : ℕ) (agree : SameBits x y 0 l) where
  same_bits : (p w : ℕ) → p + w ≤ l → bits_at y p w ≡ bits_at x p w
  same_bits p w h = sym (bits_at-cong x y p w (λ i a c. agree i (omega arith) (omega arith)))

  within : {A : Type 0} (c : Bool) (p w : ℕ) (f : ℕ → Outcome A) (n : Outcome A) → leb (p + w) l ≡ c
      → cond c (f (bits_at x p w)) n ≡ cond c (f (bits_at y p w)) n
  within true p w f n e = ap f (sym (same_bits p w (leb-true _ _ e)))
  within false p w f n e = refl

  pub skims-alike : {A : Type 0} (s : Skim A) (p : ℕ) → skim s x p l ≡ skim s y p l
  unfolding skim
  skims-alike (stop a) p = refl
  skims-alike (fail n) p = refl
  skims-alike (at k) p = skims-alike (k p) p
  skims-alike (takes w k) p =
      ap (λ o. cond (leb (p + w) l) o (out (refused 8) p [])) (skims-alike (k (bits_at x p w)) (p + w))
      ∙ within (leb (p + w) l) p w (λ v. skim (k v) y (p + w) l) _ refl

  pub runs-alike : {A : Type 0} (t : Tree A) (p : ℕ) → run t x p l ≡ run t y p l
  unfolding run
  runs-alike (done a) p = refl
  runs-alike (refuse n) p = refl
  runs-alike (ahead n w) p = refl
  runs-alike (here k) p = runs-alike (k p) p
  runs-alike (read q w k) p =
      ap (λ o. cond (leb (p + w) l) (cons (element q p w (bits_at x p w)) o) (out (refused 8) p [])) (runs-alike (k (bits_at x p w)) (p + w))
      ∙ within (leb (p + w) l) p w (λ v. cons (element q p w v) (run (k v) y (p + w) l)) _ refl
  runs-alike (span q w t) p = ap (λ o. cond (leb (p + w) l) (cons (region q p w) o) (out (refused 8) p [])) (runs-alike t (p + w))
  runs-alike (scan q s k) p =
      ap (λ o. after o (λ v e. cons (region q p (e - p)) (run (k v) x e l))) (skims-alike s p)
      ∙ after_same (skim s y p l) _ _ (λ v _. ap (cons (region q p ((skim s y p l).place - p))) (runs-alike (k v) (skim s y p l).place))

module _ {H A : Type 0} (n : ℕ) (F : Format H A) where
  -- the header, and then the test
  header_is : (v : ℕ) → header_by (up_to n F) v ≡ (header_by F v >>= short n F)
  unfolding up_to ◌>>=◌
  header_is v = go (F.look.good v) refl
    where
      go : (c : Bool) → F.look.good v ≡ c → header_by (up_to n F) v ≡ (header_by F v >>= short n F)
      go true e = clear (up_to n F) v e ∙ sym (bind_assoc F.opening F.rest (short n F)) ∙ ap (λ t. t >>= short n F) (sym (clear F v e))
      go false e = barred (up_to n F) v e ∙ sym (bind_assoc F.opening (barrier F) (short n F)) ∙ ap (λ t. t >>= short n F) (sym (barred F v e))

  tests : List ℕ → H → ℕ → Outcome H
  tests b h p = run (short n F h) b p 48

  headed_is : (b : List ℕ) → headed (up_to n F) b ≡ after (headed F b) (tests b)
  unfolding tests up_to
  headed_is b = ap (λ t. run t b 0 48) (header_is (seen F b)) ∙ run_bind (header_by F (seen F b)) (short n F) b 0 48

  tested-is : (b : List ℕ) (h : H) (p : ℕ) → tested n F b h p ≡ after (tests b h p) (sized (up_to n F) b)
  unfolding tested tests up_to sized framed after run
  tested-is b h p = go (leb (F.bytes h) n)
    where
      go : (c : Bool) → cond c (sized F b h p) (out (refused 46) p []) ≡ after (run (cond c (done h) (refuse 46)) b p 48) (sized (up_to n F) b)
      go true = refl
      go false = refl

  -- a reading, by F's header
  pub parse-is : (b : List ℕ) → parse (up_to n F) b ≡ cond (leb 6 (length b)) (after (headed F b) (tested n F b)) (out (refused 1) 0 [])
  unfolding parse
  parse-is b =
      ap (λ o. cond (leb 6 (length b)) o (out (refused 1) 0 []))
      (ap (λ o. after o (sized (up_to n F) b)) (headed_is b) ∙ sym (after-after (headed F b) (tests b) (sized (up_to n F) b) (tested n F b) (tested-is b)))

  abbrev read_by : List ℕ → (H → ℕ → Outcome A) → Outcome A
  read_by b f = cond (leb 6 (length b)) (after (headed F b) f) (out (refused 1) 0 [])

  parse-by : (b : List ℕ) → parse F b ≡ read_by b (sized F b)
  unfolding parse
  parse-by b = refl

  -- where both follow the header alike
  follow-alike : (b : List ℕ) → ((h : H) → (headed F b).result ≡ accepted h → tested n F b h (headed F b).place ≡ sized F b h (headed F b).place) → parse (up_to n F) b ≡ parse F b
  follow-alike b e = parse-is b ∙ ap (λ o. cond (leb 6 (length b)) o (out (refused 1) 0 [])) (after_same (headed F b) (tested n F b) (sized F b) e) ∙ sym (parse-by b)

  fits-tested : (b : List ℕ) (h : H) (p : ℕ) → F.bytes h ≤ n → tested n F b h p ≡ sized F b h p
  unfolding tested
  fits-tested b h p i = rw (le-leb (F.bytes h) n i) refl

  long-tested : (b : List ℕ) (h : H) (p : ℕ) → n < F.bytes h → tested n F b h p ≡ out (refused 46) p []
  unfolding tested
  long-tested b h p i = rw (lt-leb (F.bytes h) n i) refl

  pub parse-alike : Announces F → (b : List ℕ) → F.announced b ≤ n → parse (up_to n F) b ≡ parse F b
  parse-alike t b i = follow-alike b (λ h e. fits-tested b h (headed F b).place (let z : F.bytes h ≤ n = omega (arith, t b h e) in z))

  -- an accepted header of the one is the other's
  headed-before : (b : List ℕ) (h : H) → (headed (up_to n F) b).result ≡ accepted h → (headed F b).result ≡ accepted h
  unfolding tests run after
  headed-before b h e = go (headed F b).result (ap (λ (o : Outcome H). o.result) (sym (headed_is b)) ∙ e)
    where
      test : (c : Bool) (a : H) → (run (cond c (done a) (refuse 46)) b (headed F b).place 48).result ≡ accepted h → a ≡ h
      test true a q = let z : a ≡ h = cc in z
      test false a q = absurd (let z : ◌≡◌ {A = ℕ} 0 1 = cc in omega arith)

      go : (r : Result H) → (and_then r (headed F b).place (headed F b).records (tests b)).result ≡ accepted h → r ≡ accepted h
      go (accepted a) q = ap accepted (test (leb (F.bytes a) n) a q)
      go (refused k) q = absurd (let z : ◌≡◌ {A = ℕ} 0 1 = cc in omega arith)

  pub announces : Announces F → Announces (up_to n F)
  unfolding up_to
  announces t b h e = t b h (headed-before b h e)

  -- the first n bytes are all that is looked at
  module _ (six : 6 ≤ n) (near : behind F.look ≤ 48) (b : List ℕ) where
    same : SameBits (take n b) b 0 (8 * n)
    unfolding bit_at
    same i h k = let j : i / 8 < n = omega arith in ap (λ v. v / 2 ^ (7 - i % 8) % 2) (get_or-take n b (i / 8) 0 j)

    below : (l : ℕ) → l ≤ 8 * n → SameBits (take n b) b 0 l
    below l h i j k = same i j (omega arith)

    head_first : headed F (take n b) ≡ headed F b
    head_first =
        let s : seen F b ≡ seen F (take n b) = same_bits (take n b) b (8 * n) same F.look.first F.look.width (omega arith) in
        runs-alike (take n b) b 48 (below 48 (omega arith)) (header_by F (seen F (take n b))) 0 ∙ ap (λ v. run (header_by F v) b 0 48) (sym s)

    finish-first : (l : ℕ) (a : A) (p : ℕ) → l ≤ 8 * n → finish F.names (take n b) l a p ≡ finish F.names b l a p
    unfolding finish
    finish-first l a p h =
        let s : bits_at b (auxdatae_at l) 1 ≡ bits_at (take n b) (auxdatae_at l) 1 = same_bits (take n b) b (8 * n) same (auxdatae_at l) 1 (omega arith) in
        runs-alike (take n b) b l (below l h) (tail F.names (bits_at (take n b) (auxdatae_at l) 1) l a) p ∙ ap (λ v. run (tail F.names v l a) b p l) (sym s)

    framed-first : (h : H) (p : ℕ) → F.bytes h ≤ n → framed F (take n b) h p ≡ framed F b h p
    unfolding framed
    framed-first h p i =
        let l = 8 * F.bytes h in
        let j : 8 * F.bytes h ≤ 8 * n = omega arith in
        ap (λ o. after o (finish F.names (take n b) l)) (runs-alike (take n b) b l (below l j) (F.body h) p)
        ∙ after_same (run (F.body h) b p l) _ _ (λ a _. finish-first l a (run (F.body h) b p l).place j)

    sized-first : (h : H) (p : ℕ) → F.bytes h ≤ n → sized F (take n b) h p ≡ sized F b h p
    unfolding sized
    sized-first h p i =
        ap (λ o. cond (leb (F.bytes h) (length (take n b))) o (out (refused 4) p [])) (framed-first h p i)
        ∙ ap (λ c. cond c (framed F b h p) (out (refused 4) p [])) (ap (leb (F.bytes h)) (length-take n b) ∙ leb-min (F.bytes h) n (length b) i)

    tested-first : (h : H) (p : ℕ) → tested n F (take n b) h p ≡ tested n F b h p
    tested-first h p = by_cases (dec_le (F.bytes h) n)
        (λ i. fits-tested (take n b) h p i ∙ sized-first h p i ∙ sym (fits-tested b h p i))
        (λ i. let j : n < F.bytes h = omega arith in long-tested (take n b) h p j ∙ sym (long-tested b h p j))

    pub parse-first : parse (up_to n F) (take n b) ≡ parse (up_to n F) b
    parse-first =
        parse-is (take n b)
        ∙ ap (λ c. cond c (after (headed F (take n b)) (tested n F (take n b))) (out (refused 1) 0 [])) (ap (leb 6) (length-take n b) ∙ leb-min 6 n (length b) six)
        ∙ ap (λ o. cond (leb 6 (length b)) o (out (refused 1) 0 []))
        (ap (λ o. after o (tested n F (take n b))) head_first ∙ after_same (headed F b) _ _ (λ h _. tested-first h (headed F b).place))
        ∙ sym (parse-is b)

pub short-frames : {H A : Type 0} (n : ℕ) (F : Format H A) → Announces F → 6 ≤ n → behind F.look ≤ 48 → ShortFrames n F
short-frames n F t six near = record {
  alike = λ b i. parse-alike n F t b i;
  before = λ b k e. follow-alike n F b (λ h q. absurd (let z : ◌≡◌ {A = ℕ} 0 1 = cc in omega arith));
  tiny = λ b i. parse-is n F b ∙ tiny b i ∙ sym (parse-by n F b);
  longer = λ b h i e j. parse-is n F b ∙ long b h i e (omega (arith, j));
  first = λ b. parse-first n F six near b;
  common = common-reading (up_to n F) (announces n F t);
}
  where
    tiny : (b : List ℕ) → length b < 6 → read_by n F b (tested n F b) ≡ read_by n F b (sized F b)
    tiny b i = rw (lt-leb 6 (length b) i) refl

    long : (b : List ℕ) (h : _) → 6 ≤ length b → (headed F b).result ≡ accepted h → n < F.bytes h → read_by n F b (tested n F b) ≡ out (refused 46) (headed F b).place (headed F b).records
    long b h i e j = rw (le-leb 6 (length b) i) (after-accepted (headed F b) (tested n F b) h e ∙ ap (prefix (headed F b).records) (long-tested n F b h (headed F b).place j) ∙ ap (out (refused 46) (headed F b).place) (append-nil (headed F b).records))
