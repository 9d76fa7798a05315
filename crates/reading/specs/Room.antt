-- The room for records: six lists side by side, as long as the shortest of them. A record that finds none is refusal 33 at its first bit.
use Rattle.std.specs.Prelude.{cond, List, [], ◌∷◌, ℕ, zero, suc, ◌+◌, ◌-◌, min, leb, ℤ, length, set}
use Rattle.bits.specs.Bits.{bits_at}
use Rattle.reading.specs.Tree.{Tree, done, refuse, ahead, here, read, span, scan}
use Rattle.reading.specs.Run.{Field, Entry, field_of, Result, accepted, refused, Outcome, out, cons, skim}

-- an outcome with room for n records, from the outcome with unlimited room
abbrev pub cut_at : {A : Type 0} → ℕ → Result A → ℕ → List Entry → Outcome A
cut_at n r p [] = out r p []
cut_at zero r p (e ∷ es) = out (refused 33) e.field.first []
cut_at (suc n) r p (e ∷ es) = cons e (cut_at n r p es)

unfoldable pub cut : {A : Type 0} → ℕ → Outcome A → Outcome A
cut n o = cut_at n o.result o.place o.records

pub record Room : Type 0 where
  pub names : List ℕ
  pub blocks : List ℤ
  pub indexes : List ℤ
  pub firsts : List ℕ
  pub widths : List ℕ
  pub values : List ℕ

abbrev pub room : List ℕ → List ℤ → List ℤ → List ℕ → List ℕ → List ℕ → Room
room n b i f w v = record { names = n; blocks = b; indexes = i; firsts = f; widths = w; values = v }

-- how many records there is room for
unfoldable pub size : Room → ℕ
size m =
    min (length m.names)
    (min (length m.blocks)
    (min (length m.indexes) (min (length m.firsts) (min (length m.widths) (length m.values)))))

-- the room with a record at the place n
unfoldable pub pushed : Room → ℕ → Field → Room
pushed m n f = record {
  names = set m.names n f.name;
  blocks = set m.blocks n f.block;
  indexes = set m.indexes n f.index;
  firsts = set m.firsts n f.first;
  widths = set m.widths n f.width;
  values = set m.values n f.value;
}

-- the room with records from the place n on
unfoldable pub fill : Room → ℕ → List Entry → Room
fill m n [] = m
fill m n (e ∷ es) = fill (pushed m n e.field) (n + 1) es

-- a result, the bit place and the count of records that it was reached at, and the room then
pub record Out (A : Type 0) : Type 0 where
  pub result : Result A
  pub place : ℕ
  pub count : ℕ
  pub left : Room

abbrev pub got : {A : Type 0} → Result A → ℕ → ℕ → Room → Out A
got r p n m = record { result = r; place = p; count = n; left = m }

-- an outcome, with its records in the room from the count n on
abbrev pub into : {A : Type 0} → ℕ → Room → Outcome A → Out A
into n m o = got o.result o.place (n + length o.records) (fill m n o.records)

-- a tree executed: each record goes into the room as it is made. It is `run`, cut at the room (`exec-is` of proofs/Rooms).
abbrev pub record_in : {A : Type 0} → Field → ℕ → Room → (ℕ → Room → Out A) → Out A
record_in f n m k = let o = k (n + 1) (pushed m n f) in cond (leb (size m) n) (got (refused 33) f.first n m) o

unfoldable pub skimmed_by : {A B : Type 0} → Result A → ℕ → ℕ → Room → (A → ℕ → Out B) → Out B
skimmed_by (accepted a) p n m k = k a p
skimmed_by (refused r) p n m k = got (refused r) p n m

module _ (s : List ℕ) (limit : ℕ) where
  unfoldable pub exec : {A : Type 0} → Tree A → ℕ → ℕ → Room → Out A
  exec (done a) p n m = got (accepted a) p n m
  exec (refuse k) p n m = got (refused k) p n m
  exec (ahead k w) p n m = got (refused k) (p + w) n m
  exec (here k) p n m = exec (k p) p n m
  exec (read q w k) p n m =
      let v = bits_at s p w in
      let o = record_in (field_of q p w v) n m (λ n m. exec (k v) (p + w) n m) in
      cond (leb (p + w) limit) o (got (refused 8) p n m)
  exec (span q w t) p n m =
      let o = record_in (field_of q p w 0) n m (λ n m. exec t (p + w) n m) in
      cond (leb (p + w) limit) o (got (refused 8) p n m)
  exec (scan q k f) p n m =
      skimmed_by (skim k s p limit).result (skim k s p limit).place n m
      (λ v e. record_in (field_of q p (e - p) 0) n m (λ n m. exec (f v) e n m))
