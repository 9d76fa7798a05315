-- What a tree answers on a buffer: a result, the bit place that it came to, and its records.
use Rattle.std.specs.Prelude.{Bool, true, false, cond, List, [], ◌∷◌, ◌++◌, ℕ, ◌+◌, ◌-◌, leb, ℤ}
use Rattle.bits.specs.Bits.{bits_at}
use Rattle.reading.specs.Tree.{Part, Skim, stop, fail, at, take, Tree, done, refuse, ahead, here, read, span, scan}

-- a record: its six parts
pub record Field : Type 0 where
  pub name : ℕ
  pub block : ℤ
  pub index : ℤ
  pub first : ℕ
  pub width : ℕ
  pub value : ℕ

-- a record as it was made, of an element or of a span
pub record Entry : Type 0 where
  pub field : Field
  pub spans : Bool

-- the first bit that is no longer its own
abbrev pub end : Field → ℕ
end f = f.first + f.width

abbrev pub field_of : Part → ℕ → ℕ → ℕ → Field
field_of q p w v = record { name = q.name; block = q.block; index = q.index; first = p; width = w; value = v }

abbrev pub element : Part → ℕ → ℕ → ℕ → Entry
element q p w v = record { field = field_of q p w v; spans = false }

-- a span has the value 0
abbrev pub region : Part → ℕ → ℕ → Entry
region q p w = record { field = field_of q p w 0; spans = true }

pub data Result (A : Type 0) : Type 0 where
  accepted : A → Result A
  refused : ℕ → Result A

pub record Outcome (A : Type 0) : Type 0 where
  pub result : Result A
  pub place : ℕ
  pub records : List Entry

abbrev pub out : {A : Type 0} → Result A → ℕ → List Entry → Outcome A
out r p es = record { result = r; place = p; records = es }

abbrev pub cons : {A : Type 0} → Entry → Outcome A → Outcome A
cons e o = record { result = o.result; place = o.place; records = e ∷ o.records }

abbrev pub prefix : {A : Type 0} → List Entry → Outcome A → Outcome A
prefix es o = record { result = o.result; place = o.place; records = es ++ o.records }

-- what follows: a refusal stays
abbrev pub and_then : {A B : Type 0} → Result A → ℕ → List Entry → (A → ℕ → Outcome B) → Outcome B
and_then (accepted a) p es f = prefix es (f a p)
and_then (refused n) p es f = out (refused n) p es

unfoldable pub after : {A B : Type 0} → Outcome A → (A → ℕ → Outcome B) → Outcome B
after o f = and_then o.result o.place o.records f

-- inside a span, from the place p, in a frame that ends at l; bits that would pass l are refusal 8
unfoldable pub skim : {A : Type 0} → Skim A → List ℕ → ℕ → ℕ → Outcome A
skim (stop a) b p l = out (accepted a) p []
skim (fail n) b p l = out (refused n) p []
skim (at k) b p l = skim (k p) b p l
skim (take w k) b p l =
    let r = skim (k (bits_at b p w)) b (p + w) l in
    cond (leb (p + w) l) r (out (refused 8) p [])

-- a tree, likewise
unfoldable pub run : {A : Type 0} → Tree A → List ℕ → ℕ → ℕ → Outcome A
run (done a) b p l = out (accepted a) p []
run (refuse n) b p l = out (refused n) p []
run (ahead n w) b p l = out (refused n) (p + w) []
run (here k) b p l = run (k p) b p l
run (read q w k) b p l =
    let v = bits_at b p w in
    let r = cons (element q p w v) (run (k v) b (p + w) l) in
    cond (leb (p + w) l) r (out (refused 8) p [])
run (span q w t) b p l =
    let r = cons (region q p w) (run t b (p + w) l) in
    cond (leb (p + w) l) r (out (refused 8) p [])
run (scan q s k) b p l = after (skim s b p l) (λ v e. cons (region q p (e - p)) (run (k v) b e l))
