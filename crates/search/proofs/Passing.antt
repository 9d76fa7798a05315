-- Positions that are passed over, and the first that is not: what is found, and that it is the first. Assumes nothing.
use mathlib.Core.Path.{◌≡◌, refl, sym, ap, ◌∙◌}
use mathlib.Core.Bool.{Bool, true, false, cond}
use mathlib.Core.List.{List}
use Prim.Native.Nat.{ℕ, zero, suc, ◌+◌, ◌-◌, ◌≤◌, ◌<◌}
use native.Mathlib.Omega.{arith}
use native.Mathlib.Decide.{ℕ_discrete}
use native.Mathlib.Nat.{add-zero, add-suc}
use lib.Dec.{leb, eqb}
use lib.ListN.{length, drop}
use borrow.Author.Tests.{lt-ltb, le-ltb, eq-eqb, ne_eqb}
use Rattle.reading.specs.Run.{Result, accepted, refused}
use Rattle.reading.specs.Room.{Room, size, Out}
use Rattle.cells.specs.Cells.{State}
use Rattle.answer.specs.Answer.{answer_by, answer_of}
use Rattle.eac3.specs.Called.{answered}
use Rattle.search.specs.declared.Found.{Found}
use Rattle.search.specs.Find.{ends, ends_by, none_number, not_found, room_after, reading, count_after, passed, tries, found_in, First, NoneFound}
use Rattle.search.proofs.Readings.{size-left, same-result, same_answer}

-- an answer ends the search where its reading does
ends_is : (r : Result State) (p n : ℕ) → ends_by (answer_by r p n).verdict ≡ ends r
ends_is (accepted st) p n = refl
ends_is (refused k) p n = refl

pub answer-ends : (o : Out State) → ends_by (answer_of o).verdict ≡ ends o.result
unfolding answer_of
answer-ends o = ends_is o.result o.place o.count

-- 44 and 45 do not end it
pub none-ends : (n most count tried : ℕ) → ends_by (not_found (none_number n most) count tried).answer.verdict ≡ false
none-ends n most count tried = go (leb n most)
  where
    go : (b : Bool) → eqb (cond b 44 45) 33 ≡ false
    go true = refl
    go false = refl

module _ (s : List ℕ) (m : Room) (start : ℕ) where
  -- every reading has the room that was lent, but for what stands in it
  pub room-size : (n : ℕ) → size (room_after s m start n) ≡ size m
  unfolding room_after
  room-size zero = refl
  room-size (suc n) = size-left (drop (start + n) s) (room_after s m start n) ∙ room-size n

  as_lent : (n : ℕ) → (reading s m start n).result ≡ (answered (drop (start + n) s) m).result
  as_lent n = same-result (drop (start + n) s) (room_after s m start n) m (room-size n)

  abbrev ended : ℕ → Bool
  ended n = ends (reading s m start n).result

  -- one position more: it is passed over, it is the first, or the first was before
  pub passed-more : (n : ℕ) → passed s m start n ≡ n → ended n ≡ false → passed s m start (suc n) ≡ suc n
  unfolding passed
  passed-more n e h = rw (eq-eqb (passed s m start n) n e, h) refl

  pub first-here : (n : ℕ) → passed s m start n ≡ n → ended n ≡ true → passed s m start (suc n) ≡ n
  unfolding passed
  first-here n e h = rw (eq-eqb (passed s m start n) n e, h) e

  first-before : (n : ℕ) → ¬ (passed s m start n ≡ n) → passed s m start (suc n) ≡ passed s m start n
  unfolding passed
  first-before n d = rw (ne_eqb (passed s m start n) n d) refl

  -- the three ways
  data Step (n : ℕ) : Type 0 where
    more : passed s m start n ≡ n → ended n ≡ false → Step n
    here : passed s m start n ≡ n → ended n ≡ true → Step n
    past : ¬ (passed s m start n ≡ n) → Step n

  step : (n : ℕ) → Step n
  step n = go (ℕ_discrete (passed s m start n) n) (ended n) refl
    where
      go : Dec (passed s m start n ≡ n) → (b : Bool) → ended n ≡ b → Step n
      go (yes e) true q = here e q
      go (yes e) false q = more e q
      go (no d) b q = past d

  passed-le : (n : ℕ) → passed s m start n ≤ n
  unfolding passed
  passed-le zero = omega arith
  passed-le (suc n) = go (step n) (passed-le n)
    where
      go : Step n → passed s m start n ≤ n → passed s m start (suc n) ≤ suc n
      go (more e h) l = omega (arith, passed-more n e h)
      go (here e h) l = omega (arith, first-here n e h)
      go (past d) l = omega (arith, first-before n d)

  -- none before the first ends the search, and the first does
  before-first : (n i : ℕ) → i < passed s m start n → ended i ≡ false
  unfolding passed
  before-first zero i u = absurd (let z : ⊥ = omega arith in z)
  before-first (suc n) i u = go (step n) (λ v. before-first n i v)
    where
      new : ended n ≡ false → Dec (i ≡ n) → passed s m start n ≡ n → passed s m start (suc n) ≡ suc n → (i < passed s m start n → ended i ≡ false) → ended i ≡ false
      new h (yes e) q t f = rw e h
      new h (no d) q t f = f (omega arith)

      go : Step n → (i < passed s m start n → ended i ≡ false) → ended i ≡ false
      go (more e h) f = new h (ℕ_discrete i n) e (passed-more n e h) f
      go (here e h) f = f (omega (arith, first-here n e h))
      go (past d) f = f (omega (arith, first-before n d))

  pub at_first : (n : ℕ) → passed s m start n < n → ended (passed s m start n) ≡ true
  at_first zero u = absurd (let z : ⊥ = omega arith in z)
  at_first (suc n) u = go (step n) (λ v. at_first n v)
    where
      go : Step n → (passed s m start n < n → ended (passed s m start n) ≡ true) → ended (passed s m start (suc n)) ≡ true
      go (more e h) f = absurd (let z : ⊥ = omega (arith, passed-more n e h) in z)
      go (here e h) f = ap (λ (k : ℕ). ended k) (first-here n e h) ∙ h
      go (past d) f = ap (λ (k : ℕ). ended k) (first-before n d) ∙ f (omega (arith, passed-le n, d))

  -- the first stays, however many more are tried
  stays : (k d : ℕ) → passed s m start k < k → passed s m start (k + d) ≡ passed s m start k
  stays k zero u = ap (λ (n : ℕ). passed s m start n) (add-zero k)
  stays k (suc d) u =
      let e = stays k d u in
      ap (λ (n : ℕ). passed s m start n) (add-suc k d) ∙ first-before (k + d) (λ q. omega (arith, e, q)) ∙ e

  pub first-is : (k n : ℕ) → passed s m start k ≡ k → ended k ≡ true → k < n → passed s m start n ≡ k
  first-is k n e h u =
      let f = first-here k e h in
      let z : n ≡ suc k + (n - suc k) = omega arith in
      ap (λ (i : ℕ). passed s m start i) z ∙ stays (suc k) (n - suc k) (omega (arith, f)) ∙ f

  module _ (most : ℕ) where
    abbrev n : ℕ
    n = tries s m start most

    abbrev k : ℕ
    k = passed s m start n

    refused-before : (p : ℕ) → start ≤ p → p < start + k → ends (answered (drop p s) m).result ≡ false
    refused-before p l u =
        let e : p ≡ start + (p - start) = omega arith in
        ap (λ (q : ℕ). ends (answered (drop q s) m).result) e ∙ ap ends (sym (as_lent (p - start))) ∙ before-first n (p - start) (omega arith)

    abbrev pub here_found : Found
    here_found = record { answer = answer_of (reading s m start k); position = start + k; tried = k + 1 }

    abbrev pub none_found : Found
    none_found = not_found (none_number (length s - start) most) (count_after s m start n) n

    pub found_here : k < n → found_in s m start most ≡ here_found
    unfolding found_in
    found_here u = rw (lt-ltb k n u) refl

    pub found_none : n ≤ k → found_in s m start most ≡ none_found
    unfolding found_in
    found_none u = rw (le-ltb k n u) refl

    -- what is found, in words
    pub first-words : k < n → First s m start most here_found
    first-words u = record {
      from = omega arith;
      within = omega arith;
      tried = omega arith;
      allowed = omega arith;
      answer = same_answer (drop (start + k) s) (room_after s m start k) m (room-size k);
      before = refused-before;
    }

    pub none-words : n ≤ k → NoneFound s m start most none_found
    none-words u = record { tried = refl; before = λ p l v. refused-before p l (omega arith) }
