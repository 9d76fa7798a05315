-- The rows of a table are those of Annex E: the header's, the body's and the tail's.
use Rattle.std.specs.Prelude.{List, ℕ}
use Rattle.rows.specs.Standing.{Stands, Table}
use Rattle.annex.specs.Annex.{header, body}
use Rattle.annex.specs.Tail.{tail}

-- where the rows of each part end
abbrev pub after_header : ℕ
after_header = 6

abbrev pub after_body : ℕ
after_body = 494

abbrev pub after_tail : ℕ
after_tail = 510

pub record Annexed (t : List ℕ) : Type 0 where
  pub headed : Stands t header 0 after_header
  pub bodied : Stands t body after_header after_body
  pub tailed : Stands t tail after_body after_tail
  pub table : Table t
