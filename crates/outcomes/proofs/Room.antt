-- 32,782 records always suffice. A frame of n bytes has 8 n bits, and n is at most 4,096. Of its records 16 may have width 0, as its syntax counts them,
-- and syncword has 15 bits more than one. Assumes nothing.
use mathlib.Core.Path.{◌≡◌, refl, ap, sym, ◌∙◌, subst}
use mathlib.Core.Bool.{Bool, true, false, true≢false}
use mathlib.Core.List.{List, [], ◌∷◌}
use Prim.Native.Nat.{ℕ, zero, suc, ◌+◌, ◌-◌, ◌*◌, ◌≤◌}
use native.Mathlib.Omega.{arith}
use lib.Dec.{leb, eqb}
use lib.ListN.{length, length-append}
use Rattle.bits.specs.Bits.{bits_at}
use Rattle.reading.specs.Tree.{Tree, ◌>>=◌}
use Rattle.reading.specs.Run.{Entry, element as made, Result, accepted, refused, Outcome, out, cons, and_then, after, run}
use Rattle.reading.specs.Frame.{TailNames, seen, headed, auxdatae_at, ending, tail, finish, framed, sized, parse}
use Rattle.reading.specs.Room.{size, cut_at, cut}
use Rattle.reading.proofs.Laws.{test, choice}
use Rattle.reading.proofs.Runs.{after-cons}
use Rattle.reading.proofs.Heads.{barrier, barred}
use Rattle.names.specs.Names.{syncword}
use Rattle.cells.specs.Cells.{State, cell_of, stored, part_of}
use Rattle.cells.specs.Names.{SYNCWORD}
use Rattle.rows.specs.Syntax.{Block, end, ◌⨾◌, ◌⧺◌, among, item, meaning, none}
use Rattle.annex.specs.Syncinfo.{syncinfo, bsi_size}
use Rattle.annex.specs.Annex.{header, body}
use Rattle.annex.specs.Frame.{start, tail_names, bytes_of, eac3}
use Rattle.annex.proofs.Header.{header_of, headed-good}
use Rattle.bounds.specs.Along.{Along}
use Rattle.bounds.specs.Bounds.{bounds, most_in, most, Bounded}
use Rattle.outcomes.specs.Outcomes.{refusals, Numbered, AtMost}
use Rattle.outcomes.specs.Suffices.{enough, Suffices}
use Rattle.bounds.proofs.Bounded.{pages, opening-along, header-along, body-bounded}
use Rattle.bounds.proofs.Reaches.{run-reaches}
use Rattle.outcomes.proofs.Counts.{Few, zeros, few-none, few-after, few-read, few-span, few-done, few-refuse, few-ahead, few-here, few-bind, few-block}
use Rattle.outcomes.proofs.Outcomes.{at-most-4096, all_keep}

-- the tail makes one record that may have width 0: auxbits
module _ {A : Type 0} (N : TailNames) (b : List ℕ) (l : ℕ) where
  few-ending : (a : A) (p : ℕ) → Few l p 0 (run (ending N a) b p l)
  unfolding ending
  few-ending a p =
      few-read b l _ 1 _ p 0 (λ _. few-read b l _ 1 _ (p + 1) 0 (λ _. few-read b l _ 16 _ (p + 1 + 1) 0 (λ _. few-done b l a _ 0)))

  few-tail : (v : ℕ) (a : A) (p : ℕ) → Few l p 1 (run (tail N v l a) b p l)
  unfolding tail
  few-tail v a p =
      few-here b l _ p 1
      (choice G (leb (p + 18) l)
      (λ _. choice G (eqb v 1)
      (λ _. choice G (leb (p + 32) l)
      (λ _. few-span b l _ (l - 32 - p) _ p 0
      (few-read b l _ 14 _ (p + (l - 32 - p)) 0
      (λ n. choice (λ t. Few l (p + (l - 32 - p) + 14) 0 (run t b (p + (l - 32 - p) + 14) l)) (leb n (l - 32 - p))
      (λ _. few-ending a _) (λ _. few-ahead b l 32 1 _ 0))))
      (λ _. few-ahead b l 31 (auxdatae_at l - p + 1) p 1))
      (λ _. few-span b l _ _ (ending N a) p 0 (few-ending a _)))
      (λ _. few-refuse b l 30 p 1))
    where
      G : Tree A → Type 0
      G t = Few l p 1 (run t b p l)

-- what the syntax of Annex E can make
zeros-body : zeros body ≡ 15
unfolding zeros most most_in bounds pages
zeros-body = refl

-- a frame after its header
module _ (s : List ℕ) where
  few-sized : (h : State) (p : ℕ) (es : List Entry) → Along s (8 * bytes_of h) Bounded body h p es → Few (8 * bytes_of h) p 16 (sized eac3 s h p)
  unfolding sized framed finish eac3
  few-sized h p es k =
      let l = 8 * bytes_of h in
      test (Few l p 16) (leb (bytes_of h) (length s))
      (λ _. few-after {z = 15} {y = 1} (run (meaning body h) s p l) (finish tail_names s l) (run-reaches (meaning body h) s p l)
      (rw zeros-body at (few-block s l body h p es k))
      (λ a e. few-tail tail_names s l _ a _))
      (λ _. few-none (refused 4) l p p 16 (omega arith))

-- the header after its first element, syncword, which has 16 bits
behind : Block → Block
behind end = end
behind (i ⨾ b) = b

rest : Block
rest = behind header

module _ (s : List ℕ) where
  -- the record, and the state and the outcome after it
  sync : Entry
  sync = made (part_of syncword none start.cells) 0 16 (bits_at s 0 16)

  synced : State
  synced = stored start SYNCWORD (bits_at s 0 16)

  rested : Outcome State
  rested = run (meaning rest synced) s 16 48

  header_is : run (meaning header start) s 0 48 ≡ cons sync rested
  unfolding sync rested synced rest behind header syncinfo bsi_size ◌⧺◌ meaning item run ◌>>=◌ cell_of
  header_is = refl

  rest-along : Along s 48 Bounded rest synced 16 (sync ∷ [])
  unfolding sync synced rest behind header syncinfo bsi_size ◌⧺◌ item run Along cell_of
  rest-along = (header-along s).2 synced refl

  few-rested : Few 48 16 0 rested
  unfolding rested rest behind header syncinfo bsi_size ◌⧺◌ zeros
  few-rested = few-block s 48 rest synced 16 (sync ∷ []) rest-along

  -- with another bsid there are few records
  few-barred : eac3.look.good (seen eac3 s) ≡ false → Few 48 0 0 (headed eac3 s)
  unfolding eac3 syncinfo zeros
  few-barred b =
      rw (barred eac3 (seen eac3 s) b)
      (few-bind s 48 {z = 0} {y = 0} (meaning syncinfo start) (barrier eac3) (few-block s 48 syncinfo start 0 [] (opening-along s))
      (λ h e. few-here s 48 _ _ 0 (few-ahead s 48 6 _ _ 0)))

  module _ (n : ℕ) (six : 6 ≤ n) (size : AtMost n s) where
    few-refused : eac3.look.good (seen eac3 s) ≡ false → length (after (headed eac3 s) (sized eac3 s)).records ≤ 8 * n + 1
    unfolding after
    few-refused b = go (headed eac3 s).result refl
      where
        go : (r : Result State) → (headed eac3 s).result ≡ r → length (and_then r (headed eac3 s).place (headed eac3 s).records (sized eac3 s)).records ≤ 8 * n + 1
        go (accepted h) e = absurd (true≢false (sym (headed-good s h e) ∙ b))
        go (refused k) e = omega (arith, (few-barred b).few)

    -- with a good one, all but syncword
    few-outcome : eac3.look.good (seen eac3 s) ≡ true → length (after rested (sized eac3 s)).records ≤ 8 * n
    unfolding after
    few-outcome b = go rested.result refl
      where
        go : (r : Result State) → rested.result ≡ r → length (and_then r rested.place rested.records (sized eac3 s)).records ≤ 8 * n
        go (accepted h) e =
            let i : headed eac3 s ≡ cons sync rested = ap (λ t. run t s 0 48) (header_of (seen eac3 s) b) ∙ header_is in
            let d : (headed eac3 s).result ≡ accepted h = ap (λ (o : Outcome State). o.result) i ∙ e in
            let a : Along s (8 * bytes_of h) Bounded body h rested.place (sync ∷ rested.records) =
            subst (λ (o : Outcome State). Along s (8 * bytes_of h) Bounded body h o.place o.records) i (body-bounded s h d) in
            let f = (few-sized s h rested.place (sync ∷ rested.records) a).few in
            let w : bytes_of h ≤ n = size h d in
            rw (length-append rested.records (sized eac3 s h rested.place).records) (omega (arith, few-rested.few))
        go (refused k) e = omega (arith, few-rested.few)

    pub few-records : length (parse eac3 s).records ≤ 8 * n + 1
    unfolding parse eac3
    few-records =
        test (λ o. length o.records ≤ 8 * n + 1) (leb 6 (length s))
        (λ _. go (eac3.look.good (seen eac3 s)) refl)
        (λ _. omega arith)
      where
        go : (b : Bool) → eac3.look.good (seen eac3 s) ≡ b → length (after (headed eac3 s) (sized eac3 s)).records ≤ 8 * n + 1
        go true b =
            rw (header_of (seen eac3 s) b)
            (rw header_is (rw (← (after-cons sync rested (sized eac3 s) (after rested (sized eac3 s)) refl)) (omega (arith, few-outcome b))))
        go false b = few-refused b

-- where there is room for all records nothing is cut
pub cut-none : {A : Type 0} (n : ℕ) (o : Outcome A) → length o.records ≤ n → cut n o ≡ o
unfolding cut
cut-none n o h = go n o.records h
  where
    go : (n : ℕ) (es : List Entry) → length es ≤ n → cut_at n o.result o.place es ≡ out o.result o.place es
    go n [] h = refl
    go zero (e ∷ es) h = absurd (let z : ⊥ = omega arith in z)
    go (suc n) (e ∷ es) h = ap (cons e) (go n es (omega arith))

-- 33 is none of the definition's numbers
pub not-33 : ¬ (among refusals 33 ≡ true)
unfolding among refusals
not-33 e = true≢false (sym e)

pub enough-room : (s : List ℕ) → Suffices s
enough-room s = record {
  by_size = λ n six i. omega (arith, few-records s n six i);
  records = at_most;
  numbered = (all_keep s).numbered;
  whole = λ n h. whole n h;
  never = λ m h e.
      let g : (parse eac3 s).result ≡ refused 33 = ap (λ (o : Outcome State). o.result) (sym (whole (size m) (omega arith))) ∙ e in
      not-33 (subst Numbered g (all_keep s).numbered);
}
  where
    at_most : length (parse eac3 s).records ≤ enough
    at_most = omega (arith, few-records s 4096 (omega arith) (at-most-4096 s))

    whole : (n : ℕ) → enough ≤ n → cut n (parse eac3 s) ≡ parse eac3 s
    whole n h = cut-none n (parse eac3 s) (omega (arith, at_most))
