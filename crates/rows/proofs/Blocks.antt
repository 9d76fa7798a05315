-- Blocks one after another, and their rows. Assumes nothing.
use Prim.Native.Nat.{◌+◌}
use mathlib.Core.Bool.{true}
use mathlib.Core.Path.{◌≡◌, refl, sym, ap, fun_ext, ◌∙◌}
use mathlib.Core.List.{List}
use native.Mathlib.Omega.{arith}
use lib.ListN.{drop}
use lib.Seq.{drop-drop}
use Rattle.reading.specs.Tree.{◌>>=◌}
use Rattle.reading.proofs.Trees.{bind_assoc}
use Rattle.slots.proofs.Tests.{both}
use Rattle.cells.specs.Cells.{State}
use Rattle.rows.specs.Syntax.{Item, Block, element, elements, span, mantissas, exponents, when, each, reject, reject_at, put, fill, derive, end, ◌⨾◌, ◌⧺◌, item, meaning}
use Rattle.rows.specs.Rows.{Row, row, flat, rows_of, size, plain_in, plain}

pub flat_append : (a b : Block) (l : List Row) → flat (a ⧺ b) l ≡ flat a (flat b l)
unfolding flat ◌⧺◌
flat_append end b l = refl
flat_append (i ⨾ a) b l = ap (row i) (flat_append a b l)

pub size-append : (a b : Block) → size (a ⧺ b) ≡ size a + size b
unfolding size ◌⧺◌
size-append end b = omega arith
size-append (i ⨾ a) b = omega (arith, size-append a b)

pub meaning-append : (a b : Block) (st : State) → meaning (a ⧺ b) st ≡ (meaning a st >>= meaning b)
unfolding meaning ◌⧺◌ ◌>>=◌
meaning-append end b st = refl
meaning-append (i ⨾ a) b st = ap (λ f. item i st >>= f) (fun_ext (λ x. meaning-append a b x)) ∙ sym (bind_assoc (item i st) (meaning a) (meaning b))

pub plain-append : (a b : Block) → plain a ≡ true → plain b ≡ true → plain (a ⧺ b) ≡ true
unfolding plain ◌⧺◌
plain-append end b h k = k
plain-append (i ⨾ a) b h k = let e = both (plain_in i) (plain a) h in rw e.0 (plain-append a b e.1 k)

-- past a block's rows
mutual
  unfolding flat

  pub drop-row : (i : Item) (l : List Row) → drop (rows_of i) (row i l) ≡ l
  drop-row (element n i w a) l = refl
  drop-row (elements n i w a k f c) l = refl
  drop-row (span n k) l = refl
  drop-row (mantissas n a) l = refl
  drop-row (exponents s n i) l = refl
  drop-row (when c b) l = drop-flat b l
  drop-row (each k i n b) l = drop-flat b l
  drop-row (reject c n) l = refl
  drop-row (reject_at c n k) l = refl
  drop-row (put a v) l = refl
  drop-row (fill k n x y a) l = refl
  drop-row (derive k) l = refl

  pub drop-flat : (b : Block) (l : List Row) → drop (size b) (flat b l) ≡ l
  drop-flat end l = refl
  drop-flat (i ⨾ b) l = sym (drop-drop (size b) (rows_of i) (row i (flat b l))) ∙ ap (drop (size b)) (drop-row i (flat b l)) ∙ drop-flat b l
