-- A call, in the terms of the definition: its answer is the definition's, cut at the room, and its records are the definition's. Assumes nothing.
use mathlib.Core.Path.{◌≡◌, refl, ap, sym, ◌∙◌}
use mathlib.Core.List.{List}
use mathlib.Core.Option.{some}
use Prim.Native.Nat.{ℕ, ◌+◌, ◌/◌, ◌≤◌, ◌<◌}
use native.Mathlib.Omega.{arith}
use native.Mathlib.Nat.{zero-add}
use lib.ListN.{length, get_elem?}
use Rattle.reading.specs.Run.{Field, Result, accepted, refused, Outcome}
use Rattle.reading.specs.Room.{Room, size, cut}
use Rattle.reading.specs.Frame.{Format, parse}
use Rattle.reading.specs.CommonReading.{list}
use Rattle.cells.specs.Cells.{State}
use Rattle.bits.specs.declared.BitPlace.{BitPlace}
use Rattle.answer.specs.Answer.{answer_by, answer_of, place_at}
use Rattle.answer.specs.declared.Answer.{Answer}
use Rattle.answer.specs.declared.Verdict.TheVariants.{Accepted, Refused}
use Rattle.demands.specs.Calls.{CallBy, record_at, count, nth, Accepts, Refuses}
use Rattle.demands.proofs.Rooms.{cut_fits, filled, within}

-- an answer that accepts, and one that refuses
accepts-by : (r : Result State) (p n : ℕ) → (answer_by r p n).verdict ≡ Accepted → (st : State) × (r ≡ accepted st)
accepts-by (accepted st) p n e = (st, refl)
accepts-by (refused k) p n e = absurd (let z : ◌≡◌ {A = ℕ} 0 1 = cc in omega arith)

refuses-by : (r : Result State) (p n k q j : ℕ) → (answer_by r p n).verdict ≡ Refused k (place_at q) j → (r ≡ refused k) × ((p ≡ q) × (n ≡ j))
refuses-by (accepted st) p n k q j e = absurd (let z : ◌≡◌ {A = ℕ} 0 1 = cc in omega arith)
refuses-by (refused i) p n k q j e = (let z : i ≡ k = cc in ap refused z, ((let z : place_at p ≡ place_at q = cc in ap (λ (x : BitPlace). x.0) z), (let z : n ≡ j = cc in z)))

bytes-by : (r : Result State) (p n : ℕ) → (answer_by r p n).verdict ≡ Accepted → (answer_by r p n).frame.bytes.0 ≡ p / 8
bytes-by (accepted st) p n e = refl
bytes-by (refused k) p n e = absurd (let z : ◌≡◌ {A = ℕ} 0 1 = cc in omega arith)

module _ {F : Format State State} {s : List ℕ} (c : CallBy F s) where
  -- the definition's outcome, with the room that was lent
  abbrev pub outcome : Outcome State
  outcome = cut (size c.lent) (parse F s)

  pub is : c.answer ≡ answer_by outcome.result outcome.place (0 + length outcome.records)
  unfolding answer_of
  is = c.called.answer

  pub accepts : Accepts c → (st : State) × (outcome.result ≡ accepted st)
  accepts e = accepts-by outcome.result outcome.place (0 + length outcome.records) (sym (ap (λ (a : Answer). a.verdict) is) ∙ e)

  pub refuses : (k p n : ℕ) → Refuses c k p n → (outcome.result ≡ refused k) × (outcome.place ≡ p)
  refuses k p n e =
      let h = refuses-by outcome.result outcome.place (0 + length outcome.records) k p n (sym (ap (λ (a : Answer). a.verdict) is) ∙ e) in
      (h.0, h.1.0)

  pub counts : count c ≡ length outcome.records
  counts = c.called.count ∙ zero-add (length outcome.records)

  pub bytes : Accepts c → c.answer.frame.bytes.0 ≡ outcome.place / 8
  bytes e =
      ap (λ (a : Answer). a.frame.bytes.0) is
      ∙ bytes-by outcome.result outcome.place (0 + length outcome.records) (sym (ap (λ (a : Answer). a.verdict) is) ∙ e)

  -- each record of the room is the definition's
  pub holds : (i : ℕ) → i < count c → get_elem? (list outcome) i ≡ some (nth c i)
  holds i h =
      let k : i < length outcome.records = omega (arith, counts) in
      let f : 0 + length outcome.records ≤ size c.lent = let z = cut_fits (size c.lent) (parse F s) in omega arith in
      filled outcome.records c.lent 0 i f k
      ∙ ap (λ (m : Room). some (record_at m (0 + i))) (sym c.called.left)
      ∙ ap (λ j. some (record_at c.left j)) (zero-add i)

  -- and the definition has no more
  pub held : (i : ℕ) (f : Field) → get_elem? (list outcome) i ≡ some f → (i < count c) × (nth c i ≡ f)
  held i f q =
      let h : i < count c = let z = within outcome.records i f q in omega (arith, counts) in
      let w : some (nth c i) ≡ some f = sym (holds i h) ∙ q in
      (h, (let z : nth c i ≡ f = cc in z))
