-- What the code's kinds, forms and relations say of a row's number.
use Rattle.std.specs.Prelude.{ℕ, ◌≡◌, ◌<◌, ◌≤◌}
use Rattle.rows.specs.declared.kinds.Kind.{Kind}
use Rattle.rows.specs.declared.kinds.Kind.TheVariants.{Element, Counted, Repeated, Span, Mantissas, Condition, Assignment, Refusal, Derivation, Comparison, Loop, Exponents}
use Rattle.rows.specs.declared.kinds.Form.{Form}
use Rattle.rows.specs.declared.kinds.Form.TheVariants.{Here, Let, Less, Plus, Minus}
use Rattle.rows.specs.declared.kinds.Relation.{Relation}
use Rattle.rows.specs.declared.kinds.Relation.TheVariants.{Differs, Over, Under, AtLeast}
use Rattle.rows.specs.Syntax.{Value, Here as here, Let as linear, Less as less, Plus as plus, Minus as minus}
use Rattle.rows.specs.Rows.{Relation as Compared, differs, over, under, at_least, x_in, y_in, of_in, second_in}

-- the last four bits of a row's number say its kind
abbrev pub IsKind : Kind → ℕ → Type 0
IsKind Element k = k ≡ 0
IsKind Counted k = k ≡ 1
IsKind Repeated k = k ≡ 2
IsKind Span k = k ≡ 3
IsKind Mantissas k = (4 ≤ k) × (k < 8)
IsKind Condition k = (8 ≤ k) × (k < 10)
IsKind Assignment k = k ≡ 10
IsKind Refusal k = k ≡ 11
IsKind Derivation k = k ≡ 12
IsKind Comparison k = k ≡ 13
IsKind Loop k = k ≡ 14
IsKind Exponents k = k ≡ 15

-- the value of a row, by its form
abbrev pub value_by : Form → ℕ → Value
value_by Here w = here
value_by Let w = linear (x_in w) (y_in w) (of_in w)
value_by Less w = less (x_in w) (y_in w) (of_in w)
value_by Plus w = plus (of_in w) (second_in w)
value_by Minus w = minus (of_in w) (second_in w)

abbrev pub relation_by : Relation → Compared
relation_by Differs = differs
relation_by Over = over
relation_by Under = under
relation_by AtLeast = at_least
