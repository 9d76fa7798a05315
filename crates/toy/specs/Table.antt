-- The rows of a table are those of the toy syntax.
use Rattle.std.specs.Prelude.{ℕ, List}
use Rattle.rows.specs.Standing.{Stands, Table}
use Rattle.toy.specs.Toy.{frame}

pub record Tabled (t : List ℕ) : Type 0 where
  pub framed : Stands t frame 0 81
  pub table : Table t
