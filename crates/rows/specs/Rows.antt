-- The rows of a syntax: what a row's number says, and the rows of a block. A reader of the syntax needs none of it.
use Rattle.std.specs.Prelude.{ℕ, zero, suc, ◌+◌, ◌*◌, ◌/◌, ◌%◌, ◌^◌, min, Bool, true, false, cond, not, ◌&&◌, List, [], ◌∷◌, ltb, leb, eqb}
use Rattle.cells.specs.Cells.{held_of, sum_of, Addr, Sum, addr, sum}
use Rattle.rows.specs.declared.steps.Loop.{Loop}
use Rattle.rows.specs.Syntax.{Number, Cell, Word, Cond, Is, Not, Above, Below, Among, Differs, Over, Under, AtLeast, among, Value, Here, Let, Less, Plus, Minus, Count, Fixed, Held, count_of, Item, Block, element, elements, span, mantissas, exponents, when, each, reject, reject_at, put, fill, derive, end, ◌⨾◌}

-- how a cell and a number are compared
pub data Relation : Type 0 where
  differs : Relation
  over : Relation
  under : Relation
  at_least : Relation

pub data Row : Type 0 where
  Elements : ℕ → Sum → ℕ → Addr → ℕ → ℕ → Count → Row
  Span : ℕ → Sum → Addr → ℕ → Row
  Mantissas : ℕ → Sum → Addr → Row
  Exponents : Sum → ℕ → Sum → Row
  -- a condition as a mask of 16 bits, by the value of the cell, 15 for all above; and how many rows it passes, or the number of the refusal
  When : Addr → ℕ → ℕ → Row
  Refuse : Addr → ℕ → ℕ → Row
  -- a comparison, with the number of the refusal and the cell of its place, cell 0 for the present one
  Compare : Relation → Addr → Number → ℕ → ℕ → Row
  Each : ℕ → Sum → Count → ℕ → Row
  Put : Addr → Value → Row
  Fill : ℕ → ℕ → ℕ → ℕ → Addr → Row
  Do : ℕ → Row

-- the test of a condition by a mask, and the mask of it: bit v says whether it holds of v
abbrev pub test_by : Cond → ℕ → Bool
test_by (Is a x) v = eqb v x
test_by (Not a x) v = not (eqb v x)
test_by (Above a x) v = ltb x v
test_by (Below a x) v = ltb v x
test_by (Among a xs) v = among xs v
test_by (Differs a n) v = false
test_by (Over a n) v = false
test_by (Under a n) v = false
test_by (AtLeast a n) v = false

abbrev pub cell_in : Cond → Addr
cell_in (Is a x) = a
cell_in (Not a x) = a
cell_in (Above a x) = a
cell_in (Below a x) = a
cell_in (Among a xs) = a
cell_in (Differs a n) = a
cell_in (Over a n) = a
cell_in (Under a n) = a
cell_in (AtLeast a n) = a

unfoldable pub digits : ℕ → (ℕ → Bool) → ℕ
digits zero f = 0
digits (suc n) f = cond (f 0) 1 0 + 2 * digits n (λ v. f (suc v))

unfoldable pub mask_of : Cond → ℕ
mask_of c = digits 16 (test_by c)

unfoldable pub all_small : List ℕ → Bool
all_small [] = true
all_small (x ∷ xs) = leb x 14 && all_small xs

-- the mask says what the condition says
abbrev pub maskable : Cond → Bool
maskable (Is a x) = leb x 14
maskable (Not a x) = leb x 14
maskable (Above a x) = leb x 14
maskable (Below a x) = leb x 15
maskable (Among a xs) = all_small xs
maskable (Differs a n) = false
maskable (Over a n) = false
maskable (Under a n) = false
maskable (AtLeast a n) = false

abbrev pub masked : ℕ → Addr → List ℕ → Bool
masked mask a m = eqb (mask / 2 ^ min (held_of a m) 15 % 2) 1

-- the row of a refusal
abbrev pub refusal : Cond → ℕ → ℕ → Row
refusal (Differs a x) n k = Compare differs a x n k
refusal (Over a x) n k = Compare over a x n k
refusal (Under a x) n k = Compare under a x n k
refusal (AtLeast a x) n k = Compare at_least a x n k
refusal (Is a x) n k = Refuse a (mask_of (Is a x)) n
refusal (Not a x) n k = Refuse a (mask_of (Not a x)) n
refusal (Above a x) n k = Refuse a (mask_of (Above a x)) n
refusal (Below a x) n k = Refuse a (mask_of (Below a x)) n
refusal (Among a xs) n k = Refuse a (mask_of (Among a xs)) n

abbrev pub compares : Relation → ℕ → ℕ → Bool
compares differs v n = not (eqb v n)
compares over v n = ltb n v
compares under v n = ltb v n
compares at_least v n = leb n v

abbrev pub is_relation : Cond → Bool
is_relation (Differs a n) = true
is_relation (Over a n) = true
is_relation (Under a n) = true
is_relation (AtLeast a n) = true
is_relation (Is a x) = false
is_relation (Not a x) = false
is_relation (Above a x) = false
is_relation (Below a x) = false
is_relation (Among a xs) = false

-- the rows of a block, before those of l
unfoldable mutual
  pub row : Item → List Row → List Row
  row (element name i w a) l = Elements name i w a 0 0 (Fixed 1) ∷ l
  row (elements name i w a k f n) l = Elements name i w a k f (Held (addr n 0 0)) ∷ l
  row (span name k) l = Span name (sum 0 0) (addr 0 0 0) k ∷ l
  row (mantissas name a) l = Mantissas name (sum 0 0) a ∷ l
  row (exponents s name i) l = Exponents s name i ∷ l
  row (when c b) l = When (cell_in c) (mask_of c) (size b) ∷ flat b l
  row (each k i n b) l = Each k i n (size b) ∷ flat b l
  row (reject c n) l = refusal c n 0 ∷ l
  row (reject_at c n k) l = refusal c n k ∷ l
  row (put a v) l = Put a v ∷ l
  row (fill k n x y a) l = Fill k n x y a ∷ l
  row (derive k) l = Do k ∷ l

  pub flat : Block → List Row → List Row
  flat end l = l
  flat (i ⨾ b) l = row i (flat b l)

  pub rows_of : Item → ℕ
  rows_of (element name i w a) = 1
  rows_of (elements name i w a k f n) = 1
  rows_of (span name k) = 1
  rows_of (mantissas name a) = 1
  rows_of (exponents s name i) = 1
  rows_of (when c b) = suc (size b)
  rows_of (each k i n b) = suc (size b)
  rows_of (reject c n) = 1
  rows_of (reject_at c n k) = 1
  rows_of (put a v) = 1
  rows_of (fill k n x y a) = 1
  rows_of (derive k) = 1

  pub size : Block → ℕ
  size end = 0
  size (i ⨾ b) = rows_of i + size b

-- rows can say the conditions of a block
unfoldable mutual
  pub plain_in : Item → Bool
  plain_in (element name i w a) = true
  plain_in (elements name i w a k f n) = true
  plain_in (span name k) = true
  plain_in (mantissas name a) = true
  plain_in (exponents s name i) = true
  plain_in (when c b) = maskable c && plain b
  plain_in (each k i n b) = plain b
  plain_in (reject c n) = not (eqb n 0) && cond (is_relation c) true (maskable c)
  plain_in (reject_at c n k) = not (eqb n 0) && is_relation c
  plain_in (put a v) = true
  plain_in (fill k n x y a) = true
  plain_in (derive k) = true

  pub plain : Block → Bool
  plain end = true
  plain (i ⨾ b) = plain_in i && plain b

-- A row's number is the sum of its fields; the kind is its last four bits:
--   0 to 2   an element; with counters; for each number of a counter
--   3, 4     a span, the mantissas (5 to 7 too)
--   8, 9     a condition; with counters
--   10 to 13 a value or a fill; a refusal; a derivation; a comparison
--   14, 15   a loop; a set of exponents
abbrev pub name_in : ℕ → ℕ
name_in w = w / 16 % 256

abbrev pub width_in : ℕ → ℕ
width_in w = w / 4096 % 32

unfoldable pub keep_in : ℕ → Addr
keep_in w = cond (eqb (w % 16) 0) (addr (w / 131072 % 1024) 0 0) (addr (w / 131072 % 1024) (w / 134217728 % 32) (w / 4294967296 % 16))

unfoldable pub index_in : ℕ → Sum
index_in w = cond (eqb (w % 16) 0) (sum (w / 68719476736 % 8) 0) (sum (w / 68719476736 % 8) (w / 549755813888 % 32))

unfoldable pub counter_in : ℕ → ℕ
counter_in w = cond (eqb (w % 16) 2) (w / 36028797018963968 % 32) 0

unfoldable pub from_in : ℕ → ℕ
from_in w = cond (eqb (w % 16) 2) (w / 18014398509481984 % 2) 0

unfoldable pub to_in : ℕ → Count
to_in w = cond (eqb (w % 16) 2) (Held (addr (w / 17592186044416 % 1024) 0 0)) (Fixed 1)

-- the cell of a span's width
abbrev pub region_in : ℕ → ℕ
region_in w = w / 17592186044416 % 1024

-- of a set of exponents
abbrev pub slot_in : ℕ → Sum
slot_in w = sum (w / 4096 % 8) (w / 32768 % 32)

-- of a condition
unfoldable pub at_in : ℕ → Addr
at_in w = cond (eqb (w % 2) 1) (addr (w / 16 % 1024) (w / 16384 % 32) (w / 524288 % 16)) (addr (w / 16 % 1024) 0 0)

abbrev pub rows_in : ℕ → ℕ
rows_in w = w / 18014398509481984 % 1024

abbrev pub number_in : ℕ → ℕ
number_in w = w / 18014398509481984 % 256

abbrev pub mask_in : ℕ → ℕ
mask_in w = w / 8388608 % 65536

unfoldable pub skip_of : ℕ → List ℕ → ℕ
skip_of w m = cond (masked (mask_in w) (at_in w) m) 0 (rows_in w)

-- of a value, and of a fill
abbrev pub put_at_in : ℕ → Addr
put_at_in w = addr (w / 128 % 1024) (w / 131072 % 32) (w / 4194304 % 16)

abbrev pub of_in : ℕ → Addr
of_in w = addr (w / 67108864 % 1024) (w / 68719476736 % 32) 0

abbrev pub x_in : ℕ → ℕ
x_in w = w / 2199023255552 % 256

abbrev pub y_in : ℕ → ℕ
y_in w = w / 562949953421312 % 32

abbrev pub second_in : ℕ → ℕ
second_in w = w / 2199023255552 % 1024

unfoldable pub value_in : ℕ → Value
value_in w =
    cond (eqb (w / 16 % 8) 0) Here
    (cond (eqb (w / 16 % 8) 1) (Let (x_in w) (y_in w) (of_in w))
    (cond (eqb (w / 16 % 8) 2) (Less (x_in w) (y_in w) (of_in w))
    (cond (eqb (w / 16 % 8) 3) (Plus (of_in w) (second_in w)) (Minus (of_in w) (second_in w)))))

abbrev pub filled_in : ℕ → ℕ
filled_in w = w / 128 % 1024

abbrev pub many_in : ℕ → ℕ
many_in w = w / 4194304 % 16

-- of a comparison
unfoldable pub relation_in : ℕ → Relation
relation_in w = cond (eqb (w / 32 % 4) 0) differs (cond (eqb (w / 32 % 4) 1) over (cond (eqb (w / 32 % 4) 2) under at_least))

abbrev pub compared_in : ℕ → Addr
compared_in w = addr (w / 128 % 1024) (w / 131072 % 32) 0

abbrev pub failure_in : ℕ → ℕ
failure_in w = w / 4194304 % 64

unfoldable pub stop_in : ℕ → ℕ
stop_in w = cond (eqb (w % 16) 13) (w / 268435456 % 1024) 0

unfoldable pub with_in : ℕ → Number
with_in w = cond (eqb (w / 274877906944 % 2) 0) (Word (w / 549755813888 % 65536)) (Cell (addr (w / 549755813888 % 1024) (w / 562949953421312 % 32) 0))

abbrev pub act_in : ℕ → ℕ
act_in w = w / 32 % 256

-- of a loop
abbrev pub loop_from : ℕ → Sum
loop_from w = sum (w / 2147483648 % 32) (w / 68719476736 % 1024)

unfoldable pub loop_to : ℕ → Count
loop_to w = cond (eqb (w / 16 % 8) 0) (Held (addr (w / 4096 % 1024) (w / 4194304 % 32) (w / 134217728 % 16))) (Fixed (w / 4096 % 1024))

abbrev pub loop_counter : ℕ → ℕ
loop_counter w = w / 128 % 32

abbrev pub loop_rows : ℕ → ℕ
loop_rows w = w / 70368744177664 % 1024

abbrev pub loop_in : ℕ → List ℕ → Loop
loop_in w m = record { from = sum_of (loop_from w) m; to = count_of (loop_to w) m; counter = loop_counter w; rows = loop_rows w }

unfoldable pub row_of : ℕ → Row
row_of w =
    cond (ltb (w % 16) 3) (Elements (name_in w) (index_in w) (width_in w) (keep_in w) (counter_in w) (from_in w) (to_in w))
    (cond (ltb (w % 16) 8) (cond (ltb (w % 16) 4) (Span (name_in w) (index_in w) (keep_in w) (region_in w)) (Mantissas (name_in w) (index_in w) (keep_in w)))
    (cond (ltb (w % 16) 10) (When (at_in w) (mask_in w) (rows_in w))
    (cond (eqb (w % 16) 10) (cond (ltb (w / 16 % 8) 5) (Put (put_at_in w) (value_in w)) (Fill (filled_in w) (many_in w) (x_in w) (y_in w) (of_in w)))
    (cond (eqb (w % 16) 11) (Refuse (at_in w) (mask_in w) (number_in w))
    (cond (eqb (w % 16) 12) (Do (act_in w))
    (cond (eqb (w % 16) 13) (Compare (relation_in w) (compared_in w) (with_in w) (failure_in w) (stop_in w))
    (cond (eqb (w % 16) 14) (Each (loop_counter w) (loop_from w) (loop_to w) (loop_rows w))
    (Exponents (slot_in w) (name_in w) (index_in w)))))))))
