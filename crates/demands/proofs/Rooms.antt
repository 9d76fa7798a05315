-- The records that a room was filled with stand in it. Assumes nothing.
use mathlib.Core.Path.{◌≡◌, refl, ap, sym, ◌∙◌}
use mathlib.Core.List.{List, [], ◌∷◌, map}
use mathlib.Core.Option.{some}
use Prim.Native.Nat.{ℕ, zero, suc, ◌+◌, ◌≤◌, ◌<◌}
use native.Mathlib.Omega.{arith}
use native.Mathlib.Nat.{add-zero}
use lib.IntN.{pos}
use lib.ListN.{length, length-set, get_elem?}
use lib.Seq.{get_or-set_same, get_or-set_other}
use Rattle.reading.specs.Run.{Field, Entry, Outcome}
use Rattle.reading.specs.Room.{Room, size, pushed, fill, cut_at, cut}
use Rattle.demands.specs.Calls.{record_at}

-- at most as many as there is room for
pub cut_fits : {A : Type 0} (n : ℕ) (o : Outcome A) → length (cut n o).records ≤ n
unfolding cut
cut_fits {A} n o = go n o.records
  where
    go : (n : ℕ) (es : List Entry) → length (cut_at n o.result o.place es).records ≤ n
    go n [] = omega arith
    go zero (e ∷ es) = omega arith
    go (suc n) (e ∷ es) = let h = go n es in omega arith

size-pushed : (m : Room) (k : ℕ) (f : Field) → size (pushed m k f) ≡ size m
unfolding size pushed
size-pushed m k f = simp length-set

-- a record put into the room, and the others
pushed-here : (m : Room) (k : ℕ) (f : Field) → k < size m → record_at (pushed m k f) k ≡ f
unfolding record_at pushed size
pushed-here m k f h =
    rw (
      get_or-set_same m.names k f.name 0 (omega arith),
      get_or-set_same m.blocks k f.block (pos 0) (omega arith),
      get_or-set_same m.indexes k f.index (pos 0) (omega arith),
      get_or-set_same m.firsts k f.first 0 (omega arith),
      get_or-set_same m.widths k f.width 0 (omega arith),
      get_or-set_same m.values k f.value 0 (omega arith),
    ) refl

pushed-there : (m : Room) (k i : ℕ) (f : Field) → ¬ (i ≡ k) → record_at (pushed m k f) i ≡ record_at m i
unfolding record_at pushed
pushed-there m k i f h =
    rw (
      get_or-set_other m.names k i f.name 0 h,
      get_or-set_other m.blocks k i f.block (pos 0) h,
      get_or-set_other m.indexes k i f.index (pos 0) h,
      get_or-set_other m.firsts k i f.first 0 h,
      get_or-set_other m.widths k i f.width 0 h,
      get_or-set_other m.values k i f.value 0 h,
    ) refl

fill-below : (es : List Entry) (m : Room) (k i : ℕ) → i < k → record_at (fill m k es) i ≡ record_at m i
unfolding fill
fill-below [] m k i h = refl
fill-below (e ∷ es) m k i h = fill-below es (pushed m k e.field) (k + 1) i (omega arith) ∙ pushed-there m k i e.field (λ q. omega arith)

-- the record i of a list stands i places after the first
pub filled : (es : List Entry) (m : Room) (k i : ℕ) → k + length es ≤ size m → i < length es
    → get_elem? (map (λ (e : Entry). e.field) es) i ≡ some (record_at (fill m k es) (k + i))
unfolding fill
filled [] m k i h l = absurd (let z : ⊥ = omega arith in z)
filled (e ∷ es) m k zero h l =
    ap some (sym (ap (record_at (fill (pushed m k e.field) (k + 1) es)) (add-zero k)
    ∙ fill-below es (pushed m k e.field) (k + 1) k (omega arith)
    ∙ pushed-here m k e.field (omega arith)))
filled (e ∷ es) m k (suc i) h l =
    let z : k + 1 + length es ≤ size (pushed m k e.field) = omega (arith, size-pushed m k e.field) in
    let w : k + 1 + i ≡ k + suc i = omega arith in
    filled es (pushed m k e.field) (k + 1) i z (omega arith) ∙ ap (λ j. some (record_at (fill (pushed m k e.field) (k + 1) es) j)) w

-- where there is a record, its place is within the list
pub within : (es : List Entry) (i : ℕ) (f : Field) → get_elem? (map (λ (e : Entry). e.field) es) i ≡ some f → i < length es
within [] i f q = absurd (let z : ◌≡◌ {A = ℕ} 0 1 = cc in omega arith)
within (e ∷ es) zero f q = omega arith
within (e ∷ es) (suc i) f q = let h = within es i f q in omega arith
