-- Every call keeps to its numbers, to the place and to the room. Assumes nothing.
use mathlib.Core.Path.{◌≡◌, refl, sym, ◌∙◌}
use mathlib.Core.Bool.{Bool, true, false, ◌&&◌, ◌||◌, true≢false}
use mathlib.Core.List.{List, [], ◌∷◌}
use Prim.Native.Nat.{ℕ, zero, suc, ◌+◌, ◌*◌, ◌/◌, ◌≤◌, ◌<◌}
use native.Mathlib.Omega.{arith}
use lib.Dec.{eqb}
use lib.ListN.{length, length-set, get_elem?, set}
use borrow.Author.Tests.{eqb-true}
use Rattle.reading.specs.Run.{Entry, end, Result, accepted, refused, Outcome}
use Rattle.reading.specs.Records.{Tiles, Whole, Tiled}
use Rattle.reading.specs.Room.{Room, size, pushed, fill, cut_at, cut}
use Rattle.reading.specs.Frame.{Format, Announces, parse}
use Rattle.reading.proofs.Laws.{tiles-le}
use Rattle.rows.specs.Syntax.{among}
use Rattle.cells.specs.Cells.{State}
use Rattle.annex.specs.Frame.{announced_by, eac3}
use Rattle.annex.proofs.Header.{tells}
use Rattle.outcomes.specs.Outcomes.{refusals, Numbered, farthest}
use Rattle.outcomes.proofs.Outcomes.{all_keep}
use Rattle.answer.specs.Answer.{answer_by, number_of, place_of}
use Rattle.demands.specs.Calls.{CallBy, count}
use Rattle.demands.specs.Answers.{numbers, Kept, AnswersBy, AllAnswer}
use Rattle.demands.proofs.Rooms.{cut_fits}
use Rattle.demands.proofs.Calls.{outcome, is, accepts, counts, bytes as bytes_of}
use Rattle.demands.proofs.Gapless.{parse-tiled, accepted-ends}

-- a list of numbers that are all on another
unfoldable pub all_among : List ℕ → List ℕ → Bool
all_among [] ys = true
all_among (x ∷ xs) ys = among ys x && all_among xs ys

among-all : (xs ys : List ℕ) (n : ℕ) → all_among xs ys ≡ true → among xs n ≡ true → among ys n ≡ true
unfolding all_among among
among-all [] ys n h e = absurd (true≢false (sym e))
among-all (x ∷ xs) ys n h e = go (among ys x) (eqb n x) refl refl h e (λ i j. among-all xs ys n i j)
  where
    go : (a b : Bool) → among ys x ≡ a → eqb n x ≡ b → (a && all_among xs ys) ≡ true → (b || among xs n) ≡ true → (all_among xs ys ≡ true → among xs n ≡ true → among ys n ≡ true) → among ys n ≡ true
    go true true q r h e f = rw (eqb-true n x r) q
    go true false q r h e f = f h e
    go false b q r h e f = absurd (true≢false (sym h))

-- a result with the number of a refusal of a list; a cut keeps it, with 33 more
abbrev pub NumberedBy : {A : Type 0} → List ℕ → Result A → Type 0
NumberedBy rs (accepted a) = Unit {0}
NumberedBy rs (refused n) = among rs n ≡ true

module _ {A : Type 0} where
  numbered-listed : (rs : List ℕ) (r : Result A) → NumberedBy rs r → NumberedBy (33 ∷ rs) r
  unfolding among
  numbered-listed rs (accepted a) h = tt
  numbered-listed rs (refused n) h = more (eqb n 33) h
    where
      more : (c : Bool) → among rs n ≡ true → (c || among rs n) ≡ true
      more true h = refl
      more false h = h

  cut-listed : (rs : List ℕ) (n : ℕ) (o : Outcome A) → NumberedBy rs o.result → NumberedBy (33 ∷ rs) (cut n o).result
  unfolding cut among
  cut-listed rs n o h = go n o.records
    where
      go : (n : ℕ) (es : List Entry) → NumberedBy (33 ∷ rs) (cut_at n o.result o.place es).result
      go n [] = numbered-listed rs o.result h
      go zero (e ∷ es) = refl
      go (suc n) (e ∷ es) = go n es

  upto-place : (r : Result A) (m p : ℕ) → Whole r m p → m ≤ p
  upto-place (accepted a) m p h = omega arith
  upto-place (refused n) m p h = h

  cut-place : (n q : ℕ) (o : Outcome A) → Tiled q o → (cut n o).place ≤ o.place
  unfolding cut
  cut-place n q o t = go n q o.records t.tiles
    where
      go : (n q : ℕ) (es : List Entry) → Tiles q es t.upto → (cut_at n o.result o.place es).place ≤ o.place
      go n q [] h = omega arith
      go zero q (e ∷ es) h = omega (arith, tiles-le (end e.field) t.upto es h.1, upto-place o.result t.upto o.place t.whole)
      go (suc n) q (e ∷ es) h = go n (end e.field) es h.1

-- the answer of an outcome; 0 is the number of an accepted frame
number_by : (rs given : List ℕ) (r : Result State) (p n : ℕ) → all_among (33 ∷ rs) given ≡ true → among given 0 ≡ true → NumberedBy (33 ∷ rs) r
    → among given (number_of (answer_by r p n)) ≡ true
number_by rs given (accepted st) p n l z h = z
number_by rs given (refused k) p n l z h = among-all (33 ∷ rs) given k l h

place-by : (r : Result State) (p n : ℕ) → place_of (answer_by r p n) ≤ p
place-by (accepted st) p n = let z : 8 * (p / 8) ≤ p = omega arith in z
place-by (refused k) p n = omega arith

-- a slice under a set below n, and under a filled room
kept-none : {A : Type 0} (n : ℕ) (xs : List A) → Kept n xs xs
kept-none n xs = record { sized = refl; rest = λ i _. refl }

set_other : {A : Type 0} (xs : List A) (k i : ℕ) (v : A) → k < i → get_elem? (set xs k v) i ≡ get_elem? xs i
set_other [] k i v h = refl
set_other (x ∷ xs) k zero v h = absurd (let z : ⊥ = omega arith in z)
set_other (x ∷ xs) zero (suc i) v h = refl
set_other (x ∷ xs) (suc k) (suc i) v h = set_other xs k i v (omega arith)

kept_set : {A : Type 0} (n k : ℕ) (v : A) (xs ys : List A) → k < n → Kept n (set xs k v) ys → Kept n xs ys
kept_set n k v xs ys h s = record {
  sized = s.sized ∙ length-set xs k v;
  rest = λ i j. s.rest i j ∙ set_other xs k i v (omega arith);
}

record KeptRoom (n : ℕ) (m m' : Room) : Type 0 where
  names : Kept n m.names m'.names
  blocks : Kept n m.blocks m'.blocks
  indexes : Kept n m.indexes m'.indexes
  firsts : Kept n m.firsts m'.firsts
  widths : Kept n m.widths m'.widths
  values : Kept n m.values m'.values

fill-keeps : (n : ℕ) (es : List Entry) (m : Room) (k : ℕ) → k + length es ≤ n → KeptRoom n m (fill m k es)
unfolding fill pushed
fill-keeps n [] m k h = record { names = kept-none n _; blocks = kept-none n _; indexes = kept-none n _; firsts = kept-none n _; widths = kept-none n _; values = kept-none n _ }
fill-keeps n (e ∷ es) m k h =
    let r = fill-keeps n es (pushed m k e.field) (k + 1) (omega arith) in
    let i : k < n = omega arith in
    record {
      names = kept_set n k e.field.name m.names _ i r.names;
      blocks = kept_set n k e.field.block m.blocks _ i r.blocks;
      indexes = kept_set n k e.field.index m.indexes _ i r.indexes;
      firsts = kept_set n k e.field.first m.firsts _ i r.firsts;
      widths = kept_set n k e.field.width m.widths _ i r.widths;
      values = kept_set n k e.field.value m.values _ i r.values;
    }

pub answers_by : (F : Format State State) → Announces F → (rs given : List ℕ) (bits : ℕ) → all_among (33 ∷ rs) given ≡ true → among given 0 ≡ true → (s : List ℕ)
    → NumberedBy rs (parse F s).result → (parse F s).place ≤ bits → F.announced s ≡ announced_by s → (c : CallBy F s) → AnswersBy given bits s c
answers_by F told rs given bits listed none s numbered far says c = record {
  number = rw (is c) (number_by rs given (outcome c).result (outcome c).place (0 + length (outcome c).records) listed none (cut-listed rs (size c.lent) (parse F s) numbered));
  fits = omega (arith, counts c, cut_fits (size c.lent) (parse F s));
  place = rw (is c)
      (let u = place-by (outcome c).result (outcome c).place (0 + length (outcome c).records) in
      omega (arith, cut-place (size c.lent) 0 (parse F s) (parse-tiled F s)));
  bytes = λ a.
      let u = accepts c a in
      let e = bytes_of c a in
      let f = accepted-ends F told (size c.lent) s u.0 u.1 in
      e ∙ (let z : (outcome c).place / 8 ≡ announced_by s = omega (arith, says) in z);
  names = kept.names;
  blocks = kept.blocks;
  indexes = kept.indexes;
  firsts = kept.firsts;
  widths = kept.widths;
  values = kept.values;
}
  where
    kept : KeptRoom (count c) c.lent c.left
    kept = rw c.called.left (fill-keeps (count c) (outcome c).records c.lent 0 (omega (arith, counts c)))

listed : (all_among (33 ∷ refusals) numbers ≡ true) × (among numbers 0 ≡ true)
unfolding all_among among refusals numbers
listed = (refl, refl)

numbered : (r : Result State) → Numbered r → NumberedBy refusals r
numbered (accepted a) h = tt
numbered (refused n) h = h

pub all-answer : AllAnswer
unfolding eac3
all-answer s c = answers_by eac3 tells refusals numbers farthest listed.0 listed.1 s (numbered (parse eac3 s).result (all_keep s).numbered) (all_keep s).place refl c
