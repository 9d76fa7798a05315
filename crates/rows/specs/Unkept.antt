-- Names that a syntax keeps nowhere, of a set N: no element with such a name is kept in a cell, and no bits that are passed over or walked have one. A test that is
-- computed over the items. What it is worth is shown of every syntax (loudness/proofs/Items): such names steer nothing.
use Rattle.std.specs.Prelude.{Bool, true, not, ◌&&◌, ◌||◌, ℕ, eqb}
use Rattle.cells.specs.Cells.{Addr}
use Rattle.rows.specs.Syntax.{Item, Block, element, elements, span, mantissas, exponents, when, each, reject, reject_at, put, fill, derive, end, ◌⨾◌}

-- the address `no`
abbrev pub nowhere : Addr → Bool
nowhere a = eqb a.base 0 && (eqb a.by 0 && eqb a.row 0)

module _ (N : ℕ → Bool) where
  unfoldable mutual
    pub unkept_item : Item → Bool
    unkept_item (element name i w a) = not (N name) || nowhere a
    unkept_item (elements name i w a k f n) = not (N name) || nowhere a
    unkept_item (span name k) = not (N name)
    unkept_item (mantissas name a) = not (N name)
    unkept_item (exponents s name i) = not (N name)
    unkept_item (when c b) = unkept b
    unkept_item (each k i n b) = unkept b
    unkept_item (reject c n) = true
    unkept_item (reject_at c n k) = true
    unkept_item (put a v) = true
    unkept_item (fill k n x y a) = true
    unkept_item (derive k) = true

    pub unkept : Block → Bool
    unkept end = true
    unkept (i ⨾ b) = unkept_item i && unkept b
