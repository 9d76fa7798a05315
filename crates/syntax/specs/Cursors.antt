-- How far a reading came: it goes on, or was stopped.
use Rattle.std.specs.Prelude.{Result}
use Rattle.syntax.specs.declared.Cursor.{Cursor}
use Rattle.syntax.specs.declared.Stopped.{Stopped}

abbrev pub Progress : Type 0
Progress = Result Cursor Stopped
