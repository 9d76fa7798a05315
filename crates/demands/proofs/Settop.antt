-- The settop entry, beside the full one. Assumes nothing.
use mathlib.Core.Path.{◌≡◌, refl, ap, sym, ◌∙◌, subst}
use mathlib.Core.Bool.{Bool, true, false, cond, ◌||◌, true≢false}
use mathlib.Core.List.{List, [], ◌∷◌, ◌++◌, map}
use mathlib.Core.Logic.{by_cases, ◌⊎◌, inl, inr}
use mathlib.Core.Option.{some}
use Prim.Native.Nat.{ℕ, zero, suc, ◌+◌, ◌%◌, ◌≤◌, ◌<◌}
use native.Mathlib.Omega.{arith}
use native.Mathlib.Decide.{dec_le}
use lib.Dec.{eqb}
use lib.ListN.{length, get_elem?}
use borrow.Author.Tests.{eqb-true, eq-eqb, le-leb, lt-leb}
use Rattle.bits.specs.Bits.{bits_at}
use Rattle.bits.proofs.BitLaws.{bits_at-lt}
use Rattle.reading.specs.Tree.{Tree, done, refuse, ◌>>=◌}
use Rattle.reading.specs.Run.{Entry, Result, accepted, refused, Outcome, out, cons, after, run}
use Rattle.reading.specs.Room.{size, cut_at, cut, into}
use Rattle.reading.specs.Records.{All}
use Rattle.reading.specs.Frame.{seen, headed, Announces, sized, parse}
use Rattle.reading.specs.CommonReading.{list}
use Rattle.reading.proofs.Trees.{bind-right}
use Rattle.reading.proofs.Heads.{barrier, clear, barred}
use Rattle.short_frames.specs.ShortFrames.{up_to, ShortFrames}
use Rattle.short_frames.proofs.ShortFrames.{announces, short-frames}
use Rattle.cells.specs.Cells.{State, Addr, Sum, place_of, stored, cell_of, put_in}
use Rattle.cells.specs.Names.{SYNCWORD}
use Rattle.rows.specs.Syntax.{Cond, holds_of, Block, end, ◌⨾◌, element, reject, among, item, meaning}
use Rattle.annex.specs.Syncinfo.{syncinfo, bsi_size}
use Rattle.annex.specs.Frame.{start, bytes_of, announced_by, eac3}
use Rattle.annex.proofs.Header.{headed_is, headed-gives, sized-is, tells}
use Rattle.outcomes.specs.Outcomes.{refusals, Numbered, Named, AtMost}
use Rattle.outcomes.proofs.Outcomes.{all_keep, keep-by-size}
use Rattle.outcomes.proofs.Room.{cut-none, enough-room}
use Rattle.answer.specs.Answer.{answer_by, number_of}
use Rattle.answer.specs.declared.Answer.{Answer}
use Rattle.eac3.specs.Called.{settop}
use Rattle.demands.specs.Calls.{Call, SettopCall, count, nth, Refuses}
use Rattle.demands.specs.Answers.{numbers}
use Rattle.demands.specs.Settop.{Alike, Beside, settop_numbers, settop_enough, Settop}
use Rattle.demands.proofs.Rooms.{cut_fits}
use Rattle.demands.proofs.Calls.{outcome, is, counts, holds}
use Rattle.demands.proofs.Answers.{NumberedBy, all_among, answers_by}
use Rattle.demands.proofs.Gapless.{gapless-by}
use Rattle.demands.proofs.Common.{common-by}

-- what the header makes: four records where it is accepted, and then strmtyp is not 3; fewer where it is refused, or strmtyp is 3
record Heads (s : List ℕ) (n : ℕ) (o : Outcome State) : Type 0 where
  accepts : (h : State) → o.result ≡ accepted h → (n + length o.records ≡ 4) × ¬ (bits_at s 16 2 ≡ 3)
  refuses : (k : ℕ) → o.result ≡ refused k → (n + length o.records < 4) ⊎ (bits_at s 16 2 ≡ 3)
  most : n + length o.records ≤ 4

left : {A B X : Type 0} → (A → B) → A ⊎ X → B ⊎ X
left f (inl a) = inl (f a)
left f (inr x) = inr x

module _ (s : List ℕ) where
  narrow : bits_at s 16 2 % 65536 ≡ bits_at s 16 2
  narrow = let h : bits_at s 16 2 < 4 = bits_at-lt s 16 2 in omega arith

  never : {k : ℕ} {h : State} → ◌≡◌ {A = Result State} (refused k) (accepted h) → ⊥
  never e = let z : ◌≡◌ {A = ℕ} 0 1 = cc in omega arith

  heads-refused : (n k p : ℕ) → (n < 4) ⊎ (bits_at s 16 2 ≡ 3) → n ≤ 4 → Heads s n (out (refused k) p [])
  heads-refused n k p h i = record { accepts = λ _ e. absurd (never e); refuses = λ _ _. (let z : n + 0 ≡ n = omega arith in rw z h); most = omega arith }

  -- item by item, and then what follows the block
  module _ (f : State → Tree State) where
    heads-element : (name : ℕ) (i : Sum) (w : ℕ) (a : Addr) (c : Block) (st : State) (p n : ℕ) → p + w ≤ 48
        → Heads s (suc n) (run (meaning c (stored st (place_of a st.cells) (bits_at s p w)) >>= f) s (p + w) 48) → Heads s n (run (meaning (element name i w a ⨾ c) st >>= f) s p 48)
    unfolding meaning item run ◌>>=◌
    heads-element name i w a c st p n h r =
        rw (le-leb (p + w) 48 h)
        (record {
          accepts = λ x e. let z = r.accepts x e in (omega (arith, z.0), z.1);
          refuses = λ k e. left (λ z. omega (arith, z)) (r.refuses k e);
          most = omega (arith, r.most);
        })

    heads-reject : (c : Cond) (k : ℕ) (b : Block) (st : State) (p n : ℕ) → (holds_of c st.cells ≡ true → Heads s n (out (refused k) p []))
        → (holds_of c st.cells ≡ false → Heads s n (run (meaning b st >>= f) s p 48)) → Heads s n (run (meaning (reject c k ⨾ b) st >>= f) s p 48)
    unfolding meaning item run ◌>>=◌
    heads-reject c k b st p n y g = go (holds_of c st.cells) refl
      where
        go : (x : Bool) → holds_of c st.cells ≡ x → Heads s n (run ((cond x (refuse k) (done st) >>= (λ t. meaning b t)) >>= f) s p 48)
        go true e = y e
        go false e = g e

    heads-end : (st : State) (p n : ℕ) → Heads s n (run (f st) s p 48) → Heads s n (run (meaning end st >>= f) s p 48)
    unfolding meaning ◌>>=◌
    heads-end st p n h = h

  -- bsi up to frmsiz, after the word v
  heads-sized : (v : ℕ) → Heads s 1 (run (meaning bsi_size (stored start SYNCWORD v)) s 16 48)
  unfolding bsi_size run start cell_of put_in
  heads-sized v = subst (λ t. Heads s 1 (run t s 16 48)) (bind-right (meaning bsi_size (stored start SYNCWORD v)))
      (heads-element done _ _ _ _ _ (stored start SYNCWORD v) 16 1 (omega arith)
      (heads-element done _ _ _ _ _ _ 18 2 (omega arith)
      (heads-element done _ _ _ _ _ _ 21 3 (omega arith)
      (heads-reject done _ _ _ _ 32 4
      (λ q. heads-refused 4 3 32 (inr (sym narrow ∙ eqb-true (bits_at s 16 2 % 65536) 3 q)) (omega arith))
      (λ q. heads-end done _ 32 4
      (record {
        accepts = λ h e. (refl, λ z. true≢false (sym (eq-eqb (bits_at s 16 2 % 65536) 3 (narrow ∙ z)) ∙ q));
        refuses = λ k e. absurd (never (sym e));
        most = omega arith;
      }))))))

  -- the sync word, and what follows it
  heads-word : (f : State → Tree State) → ((v : ℕ) → Heads s 1 (run (f (stored start SYNCWORD v)) s 16 48)) → Heads s 0 (run (meaning syncinfo start >>= f) s 0 48)
  unfolding syncinfo cell_of
  heads-word f r =
      heads-element f _ _ _ _ _ start 0 0 (omega arith)
      (heads-reject f _ _ _ _ 16 1
      (λ q. heads-refused 1 2 16 (inl (omega arith)) (omega arith))
      (λ q. heads-end f _ 16 1 (r (bits_at s 0 16))))

  heads : Heads s 0 (headed eac3 s)
  unfolding eac3 run
  heads = go (eac3.look.good (seen eac3 s)) refl
    where
      go : (c : Bool) → eac3.look.good (seen eac3 s) ≡ c → Heads s 0 (headed eac3 s)
      go true e = rw (clear eac3 (seen eac3 s) e) (heads-word (meaning bsi_size) heads-sized)
      go false e = rw (barred eac3 (seen eac3 s) e) (heads-word (barrier eac3) (λ v. heads-refused 1 6 45 (inl (omega arith)) (omega arith)))

-- what the settop entry's definition makes of a buffer
data Reads (s : List ℕ) : Type 0 where
  alike : AtMost 1536 s → parse settop s ≡ parse eac3 s → Reads s
  tiny : parse settop s ≡ out (refused 1) 0 [] → parse settop s ≡ parse eac3 s → Reads s
  longer : (h : State) → 6 ≤ length s → (headed eac3 s).result ≡ accepted h → 1536 < bytes_of h → parse settop s ≡ out (refused 46) 32 (headed eac3 s).records → Reads s

laws : ShortFrames 1536 eac3
unfolding eac3
laws = short-frames 1536 eac3 tells (omega arith) (omega arith)

module _ (s : List ℕ) where
  told : (h : State) → (headed eac3 s).result ≡ accepted h → bytes_of h ≡ announced_by s
  unfolding eac3
  told h e = tells s h e

  ends : (h : State) → (headed eac3 s).result ≡ accepted h → (headed eac3 s).place ≡ 32
  ends h e = ap (λ (o : Outcome State). o.place) (headed_is s h e) ∙ ((sized-is s).gives h (headed-gives s h e)).ends

  short-is : length s < 6 → parse eac3 s ≡ out (refused 1) 0 []
  unfolding parse
  short-is i = rw (lt-leb 6 (length s) i) refl

  reads : Reads s
  unfolding eac3
  reads = by_cases (dec_le 6 (length s)) (λ i. go i (headed eac3 s).result refl) (λ i. let j : length s < 6 = omega arith in tiny (laws.tiny s j ∙ short-is j) (laws.tiny s j))
    where
      go : 6 ≤ length s → (r : Result State) → (headed eac3 s).result ≡ r → Reads s
      go i (refused k) e = alike (λ h q. absurd (let z : ◌≡◌ {A = ℕ} 0 1 = cc in omega arith)) (laws.before s k e)
      go i (accepted h) e = by_cases (dec_le (bytes_of h) 1536)
          (λ j. alike (λ x q. let z : h ≡ x = cc in subst (λ y. bytes_of y ≤ 1536) z j) (laws.alike s (let z : announced_by s ≤ 1536 = omega (arith, told h e) in z)))
          (λ j. let k : 1536 < bytes_of h = omega arith in longer h i e k (laws.longer s h i e k ∙ ap (λ p. out (refused 46) p (headed eac3 s).records) (ends h e)))

-- a list and its beginning, with room for less than the beginning, and with room for it
cut-before : {A : Type 0} (n : ℕ) (r q : Result A) (p e : ℕ) (es more : List Entry) → n < length es → cut_at n r p (es ++ more) ≡ cut_at n q e es
cut-before n r q p e [] more h = absurd (let z : ⊥ = omega arith in z)
cut-before zero r q p e (x ∷ es) more h = refl
cut-before (suc n) r q p e (x ∷ es) more h = ap (cons x) (cut-before n r q p e es more (omega arith))

cut-begins : {A : Type 0} (n i : ℕ) (r : Result A) (p : ℕ) (es more : List Entry) → length es ≤ n → i < length es
    → get_elem? (map (λ (e : Entry). e.field) (cut_at n r p (es ++ more)).records) i ≡ get_elem? (map (λ (e : Entry). e.field) es) i
cut-begins n i r p [] more h k = absurd (let z : ⊥ = omega arith in z)
cut-begins zero i r p (x ∷ es) more h k = absurd (let z : ⊥ = omega arith in z)
cut-begins (suc n) zero r p (x ∷ es) more h k = refl
cut-begins (suc n) (suc i) r p (x ∷ es) more h k = cut-begins n i r p es more (omega arith) (omega arith)

cut-long : {A : Type 0} (n : ℕ) (r : Result A) (p : ℕ) (es more : List Entry) → length es ≤ n → length es ≤ length (cut_at n r p (es ++ more)).records
cut-long n r p [] more h = omega arith
cut-long zero r p (x ∷ es) more h = absurd (let z : ⊥ = omega arith in z)
cut-long (suc n) r p (x ∷ es) more h = let k = cut-long n r p es more (omega arith) in omega arith

cut-shorter : {A : Type 0} (n : ℕ) (o : Outcome A) → length (cut n o).records ≤ length o.records
unfolding cut
cut-shorter n o = go n o.records
  where
    go : (n : ℕ) (es : List Entry) → length (cut_at n o.result o.place es).records ≤ length es
    go n [] = omega arith
    go zero (e ∷ es) = omega arith
    go (suc n) (e ∷ es) = let h = go n es in omega arith

-- a reading, by its header
record Begins (s : List ℕ) : Type 0 where
  result : Result State
  place : ℕ
  more : List Entry
  is : parse eac3 s ≡ out result place ((headed eac3 s).records ++ more)

begins : (s : List ℕ) (h : State) → 6 ≤ length s → (headed eac3 s).result ≡ accepted h → Begins s
unfolding parse after
begins s h i e =
    let o = sized eac3 s h (headed eac3 s).place in
    record { result = o.result; place = o.place; more = o.records; is = rw (le-leb 6 (length s) i, e) refl }

refused-is : (s : List ℕ) (k : ℕ) → 6 ≤ length s → (headed eac3 s).result ≡ refused k → parse eac3 s ≡ out (refused k) (headed eac3 s).place (headed eac3 s).records
unfolding parse after
refused-is s k i e = rw (le-leb 6 (length s) i, e) refl

-- equal outcomes, by equal rooms
told-alike : (s : List ℕ) (f : Call s) (g : SettopCall s) → f.lent ≡ g.lent → outcome g ≡ outcome f → Alike f g
told-alike s f g l e = record {
  answer = is g ∙ ap (λ (o : Outcome State). answer_by o.result o.place (0 + length o.records)) e ∙ sym (is f);
  left = g.called.left ∙ ap (λ (o : Outcome State). (into 0 g.lent o).left) e ∙ ap (λ m. (into 0 m (outcome f)).left) (sym l) ∙ sym f.called.left;
}

module _ (s : List ℕ) (f : Call s) (g : SettopCall s) (l : f.lent ≡ g.lent) where
  same-parse : parse settop s ≡ parse eac3 s → Alike f g
  same-parse e = told-alike s f g l (ap (cut (size g.lent)) e ∙ ap (λ m. cut (size m) (parse eac3 s)) (sym l))

  short : announced_by s ≤ 1536 → Alike f g
  short i = go (reads s)
    where
      go : Reads s → Alike f g
      go (alike a e) = same-parse e
      go (tiny t e) = same-parse e
      go (longer h j e k q) = absurd (let z : ⊥ = omega (arith, told s h e) in z)

  strmtyp : bits_at s 16 2 ≡ 3 → Alike f g
  strmtyp i = go (reads s)
    where
      go : Reads s → Alike f g
      go (alike a e) = same-parse e
      go (tiny t e) = same-parse e
      go (longer h j e k q) = absurd (((heads s).accepts h e).1 i)

  module _ (h : State) (j : 6 ≤ length s) (e : (headed eac3 s).result ≡ accepted h) (q : parse settop s ≡ out (refused 46) 32 (headed eac3 s).records) where
    four : length (headed eac3 s).records ≡ 4
    four = let z = ((heads s).accepts h e).0 in omega arith

    B : Begins s
    B = begins s h j e

    -- the full entry has at least the header's records, where there is room for them
    at_least : 4 ≤ size f.lent → 4 ≤ count f
    unfolding cut
    at_least r =
        let z : length (headed eac3 s).records ≤ length (cut_at (size f.lent) B.result B.place ((headed eac3 s).records ++ B.more)).records
        = cut-long (size f.lent) B.result B.place (headed eac3 s).records B.more (omega (arith, four)) in
        let y : length (outcome f).records ≡ length (cut_at (size f.lent) B.result B.place ((headed eac3 s).records ++ B.more)).records
        = ap (λ (o : Outcome State). length (cut (size f.lent) o).records) B.is in
        omega (arith, counts f, four)

    too_few : size g.lent < 4 → Alike f g
    unfolding cut
    too_few r =
        told-alike s f g l
        (ap (cut (size g.lent)) q
        ∙ sym (cut-before (size g.lent) B.result (refused 46) B.place 32 (headed eac3 s).records B.more (omega (arith, four)))
        ∙ ap (cut (size g.lent)) (sym B.is)
        ∙ ap (λ m. cut (size m) (parse eac3 s)) (sym l))

    whole : 4 ≤ size g.lent → outcome g ≡ out (refused 46) 32 (headed eac3 s).records
    whole r = ap (cut (size g.lent)) q ∙ cut-none (size g.lent) (out (refused 46) 32 (headed eac3 s).records) (omega (arith, four))

    refuses-46 : 4 ≤ size g.lent → Refuses g 46 32 4
    refuses-46 r =
        ap (λ (a : Answer). a.verdict) (is g ∙ ap (λ (o : Outcome State). answer_by o.result o.place (0 + length o.records)) (whole r)
        ∙ ap (λ n. answer_by (refused 46) 32 (0 + n)) four)

    first-four : 4 ≤ size g.lent → (i : ℕ) → i < 4 → nth g i ≡ nth f i
    unfolding cut
    first-four r i k =
        let c : count g ≡ 4 = counts g ∙ ap (λ (o : Outcome State). length o.records) (whole r) ∙ four in
        let x : get_elem? (list (outcome g)) i ≡ some (nth g i) = holds g i (omega arith) in
        let n : size f.lent ≡ size g.lent = ap size l in
        let y : get_elem? (list (outcome f)) i ≡ some (nth f i) = holds f i (omega (arith, at_least (omega arith))) in
        let a : get_elem? (list (outcome g)) i ≡ get_elem? (map (λ (e : Entry). e.field) (headed eac3 s).records) i = ap (λ (o : Outcome State). get_elem? (list o) i) (whole r) in
        let b : get_elem? (list (outcome f)) i ≡ get_elem? (map (λ (e : Entry). e.field) (headed eac3 s).records) i
        = ap (λ (o : Outcome State). get_elem? (list (cut (size f.lent) o)) i) B.is ∙ cut-begins (size f.lent) i B.result B.place (headed eac3 s).records B.more (omega (arith, four)) (omega (arith, four)) in
        let z : some (nth g i) ≡ some (nth f i) = sym x ∙ a ∙ sym b ∙ y in
        let w : nth g i ≡ nth f i = cc in
        w

  few : count f < 4 → Alike f g
  few i = go (reads s)
    where
      n : size f.lent ≡ size g.lent
      n = ap size l

      go : Reads s → Alike f g
      go (alike a e) = same-parse e
      go (tiny t e) = same-parse e
      go (longer h j e k q) = by_cases (dec_le 4 (size g.lent))
          (λ r. absurd (let z : ⊥ = omega (arith, at_least h j e q (omega (arith, n))) in z))
          (λ r. too_few h j e q (omega arith))

  others : 1536 < announced_by s → 4 ≤ count f → ¬ (bits_at s 16 2 ≡ 3) → Refuses g 46 32 4 × ((i : ℕ) → i < 4 → nth g i ≡ nth f i)
  others i c t = go (reads s)
    where
      n : size f.lent ≡ size g.lent
      n = ap size l

      room : 4 ≤ size g.lent
      room = omega (arith, n, counts f, cut_fits (size f.lent) (parse eac3 s))

      -- the full entry's list is longer than that of a refused header
      none : (o : Outcome State) → parse eac3 s ≡ o → length o.records < 4 → ⊥
      none o q k =
          let z : length (outcome f).records ≤ length o.records = subst (λ (u : Outcome State). length (outcome f).records ≤ length u.records) q (cut-shorter (size f.lent) (parse eac3 s)) in
          omega (arith, counts f)

      early : (x : 6 ≤ length s) (k : ℕ) → (headed eac3 s).result ≡ refused k → ⊥
      early x k e = which ((heads s).refuses k e)
        where
          which : (0 + length (headed eac3 s).records < 4) ⊎ (bits_at s 16 2 ≡ 3) → ⊥
          which (inl y) = none _ (refused-is s k x e) (let z : length (headed eac3 s).records < 4 = omega arith in z)
          which (inr y) = t y

      go : Reads s → Refuses g 46 32 4 × ((i : ℕ) → i < 4 → nth g i ≡ nth f i)
      go (tiny u e) = absurd (none _ (sym e ∙ u) (omega arith))
      go (longer h j e k q) = (refuses-46 h j e q room, first-four h j e q room)
      go (alike a e) = by_cases (dec_le 6 (length s)) (λ x. absurd (result x (headed eac3 s).result refl)) (λ x. absurd (none _ (short-is s (omega arith)) (omega arith)))
        where
          result : 6 ≤ length s → (r : Result State) → (headed eac3 s).result ≡ r → ⊥
          result x (refused k) q = early x k q
          result x (accepted h) q = omega (arith, a h q, told s h q)

  pub beside : Beside s f g
  beside = record { short = λ i. short (omega (arith, i)); few = λ i. few (omega (arith, i)); strmtyp = strmtyp; longer = others }

-- the numbers, the place and the records of every reading
all_first : (es fs : List Entry) → All Named (es ++ fs) → All Named es
all_first [] fs h = tt
all_first (e ∷ es) fs h = (h.0, all_first es fs h.1)

listed : (all_among (33 ∷ 46 ∷ refusals) settop_numbers ≡ true) × (among settop_numbers 0 ≡ true) × (among (46 ∷ refusals) 46 ≡ true) × (among (46 ∷ refusals) 1 ≡ true)
unfolding all_among among refusals numbers settop_numbers
listed = (refl, refl, refl, refl)

not-33 : among (46 ∷ refusals) 33 ≡ true → ⊥
unfolding among refusals
not-33 e = true≢false (sym e)

among-more : (k n : ℕ) (rs : List ℕ) → among rs n ≡ true → among (k ∷ rs) n ≡ true
unfolding among
among-more k n rs h = go (eqb n k)
  where
    go : (c : Bool) → (c || among rs n) ≡ true
    go true = refl
    go false = h

record Kept (s : List ℕ) : Type 0 where
  numbered : NumberedBy (46 ∷ refusals) (parse settop s).result
  place : (parse settop s).place ≤ 12288
  named : All Named (parse settop s).records
  few : length (parse settop s).records ≤ settop_enough

kept : (s : List ℕ) → Kept s
kept s = go (reads s)
  where
    number : (r : Result State) → Numbered r → NumberedBy (46 ∷ refusals) r
    number (accepted a) h = tt
    number (refused n) h = among-more 46 n refusals h

    go : Reads s → Kept s
    go (alike a e) =
        let k = keep-by-size s 1536 (omega arith) a in
        record {
          numbered = rw e (number (parse eac3 s).result k.numbered);
          place = rw e (omega (arith, k.place));
          named = rw e k.spans;
          few = rw e (omega (arith, (enough-room s).by_size 1536 (omega arith) a));
        }
    go (tiny u e) = record { numbered = rw u listed.3; place = rw u (omega arith); named = rw u tt; few = rw u (omega arith) }
    go (longer h j e k q) = record {
      numbered = rw q listed.2;
      place = rw q (omega arith);
      named = rw q (let b = begins s h j e in all_first (headed eac3 s).records b.more (subst (λ (o : Outcome State). All Named o.records) b.is (all_keep s).spans));
      few = rw q (omega (arith, (heads s).most));
    }

says : (s : List ℕ) → settop.announced s ≡ announced_by s
unfolding up_to eac3
says s = refl

enough : (s : List ℕ) (c : SettopCall s) → settop_enough ≤ size c.lent → ¬ (number_of c.answer ≡ 33)
enough s c h e =
    let o = parse settop s in
    go o.result (kept s).numbered
    (ap number_of (sym (is c ∙ ap (λ (o : Outcome State). answer_by o.result o.place (0 + length o.records)) (cut-none (size c.lent) o (omega (arith, (kept s).few))))) ∙ e)
  where
    go : (r : Result State) → NumberedBy (46 ∷ refusals) r → ¬ (number_of (answer_by r (parse settop s).place (0 + length (parse settop s).records)) ≡ 33)
    go (accepted st) k q = omega arith
    go (refused n) k q = not-33 (subst (λ i. among (46 ∷ refusals) i ≡ true) q k)

-- calls of one room on two slices that are read alike
same-calls : (x y : List ℕ) (f : SettopCall x) (g : SettopCall y) → f.lent ≡ g.lent → parse settop x ≡ parse settop y → (f.answer ≡ g.answer) × (f.left ≡ g.left)
same-calls x y f g l e =
    let o : outcome f ≡ outcome g = ap (cut (size f.lent)) e ∙ ap (λ m. cut (size m) (parse settop y)) l in (
      is f ∙ ap (λ (o : Outcome State). answer_by o.result o.place (0 + length o.records)) o ∙ sym (is g),
      f.called.left ∙ ap (λ (o : Outcome State). (into 0 f.lent o).left) o ∙ ap (λ m. (into 0 m (outcome g)).left) l ∙ sym g.called.left,
    )

pub settop-entry : Settop
settop-entry = record {
  beside = beside;
  answers = λ s c. answers_by settop told-size (46 ∷ refusals) settop_numbers 12288 listed.0 listed.1 s (kept s).numbered (kept s).place (says s) c;
  gapless = gapless-by settop told-size;
  common = common-by settop laws.common (λ s. (kept s).named);
  suffices = enough;
  first = λ x y f g e l. same-calls x y f g l (sym (laws.first x) ∙ ap (parse settop) e ∙ laws.first y);
}
  where
    told-size : Announces settop
    told-size = announces 1536 eac3 tells
