-- A read: its value and the cursor after it, or what stopped it.
use Rattle.std.specs.Prelude.{Result}
use Rattle.syntax.specs.declared.Stopped.{Stopped}
use Rattle.reads.specs.declared.Taken.{Taken}

abbrev pub Taking : Type 0
Taking = Result Taken Stopped
