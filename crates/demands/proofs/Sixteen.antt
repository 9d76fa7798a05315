-- A list holds at most 16 loudness words. Assumes nothing.
use mathlib.Core.Path.{◌≡◌, ap, sym, ◌∙◌}
use mathlib.Core.Bool.{cond}
use mathlib.Core.List.{List, [], ◌∷◌, map}
use mathlib.Core.Option.{some}
use Prim.Native.Nat.{ℕ, zero, suc, ◌+◌, ◌≤◌, ◌<◌}
use native.Mathlib.Omega.{arith}
use native.Mathlib.Nat.{zero-add}
use lib.Dec.{eqb}
use lib.ListN.{length, get_elem?}
use Rattle.words.specs.Words.{width_of}
use Rattle.reading.specs.Run.{Field, Entry, Result}
use Rattle.reading.specs.Frame.{parse}
use Rattle.reading.specs.Room.{Room, size, cut_at, cut}
use Rattle.cells.specs.Cells.{State}
use Rattle.annex.specs.Frame.{eac3}
use Rattle.loudness.specs.Sixteen.{words_in}
use Rattle.loudness.proofs.Sixteen.{sixteen-words}
use Rattle.demands.specs.Calls.{count, record_at}
use Rattle.demands.specs.Sixteen.{words_to, SixteenListed}
use Rattle.demands.proofs.Calls.{outcome, counts, holds}

abbrev word_of : ℕ → ℕ
word_of n = cond (eqb (width_of n) 0) 0 1

-- the names of a room that has these records from the place k on
words-listed : (m : Room) (es : List Entry) (k : ℕ) → ((i : ℕ) → i < length es → get_elem? (map (λ (e : Entry). e.field) es) i ≡ some (record_at m (k + i)))
    → words_to m.names (k + length es) ≡ words_to m.names k + words_in es
unfolding words_to record_at
words-listed m [] k h = let z : k + 0 ≡ k = omega arith in ap (words_to m.names) z ∙ (let y : words_to m.names k ≡ words_to m.names k + 0 = omega arith in y)
words-listed m (e ∷ es) k h =
    let q : some e.field ≡ some (record_at m (k + 0)) = h 0 (omega arith) in
    let f : e.field ≡ record_at m (k + 0) = cc in
    let z : k + 0 ≡ k = omega arith in
    let n : word_of e.field.name ≡ word_of (record_at m k).name = ap (λ (f : Field). word_of f.name) (f ∙ ap (record_at m) z) in
    let r : words_to m.names (suc k + length es) ≡ words_to m.names (suc k) + words_in es =
    words-listed m es (suc k) (λ i l. h (suc i) (omega arith) ∙ (let y : k + suc i ≡ suc k + i = omega arith in ap (λ (j : ℕ). some (record_at m j)) y)) in
    let x : k + suc (length es) ≡ suc k + length es = omega arith in
    ap (words_to m.names) x ∙ r ∙ (let y : words_to m.names k + word_of (record_at m k).name + words_in es ≡ words_to m.names k + (word_of e.field.name + words_in es) = omega arith in y)

-- with less room there are no more
words-cut : (n : ℕ) (r : Result State) (p : ℕ) (es : List Entry) → words_in (cut_at n r p es).records ≤ words_in es
words-cut n r p [] = omega arith
words-cut zero r p (e ∷ es) = omega arith
words-cut (suc n) r p (e ∷ es) = let h = words-cut n r p es in omega arith

pub sixteen-listed : SixteenListed
unfolding cut words_to
sixteen-listed s c =
    let o = parse eac3 s in
    let w : words_to c.left.names (0 + length (outcome c).records) ≡ 0 + words_in (outcome c).records
    = words-listed c.left (outcome c).records 0 (λ i h. holds c i (omega (arith, counts c)) ∙ ap (λ (j : ℕ). some (record_at c.left j)) (sym (zero-add i))) in
    let u : words_to c.left.names (count c) ≡ words_to c.left.names (0 + length (outcome c).records) = ap (words_to c.left.names) (counts c ∙ sym (zero-add (length (outcome c).records))) in
    let x : words_in (outcome c).records ≤ words_in o.records = words-cut (size c.lent) o.result o.place o.records in
    omega (arith, sixteen-words s)
