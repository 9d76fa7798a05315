-- The table is the list of the lengths of the spellings.
use mathlib.Core.Path.{sym, ap}
use mathlib.Core.List.{[]}
use native.Mathlib.Omega.{arith}
use lib.ListN.{length, get_or-map, get_or-eq_default}
use Rattle.names.specs.Names.{names}
use Rattle.names.specs.Spelling.{spellings, bytes}
use Rattle.names.proofs.letters.Goals as goal

pub returns-else-name-lt202 : goal.returns-else-name-lt202
unfolding names spellings
returns-else-name-lt202 c = sym (ap length (get_or-eq_default spellings [] {n = c.args.name} (omega arith)))

pub returns-then-name-lt202 : goal.returns-then-name-lt202
unfolding names spellings bytes
returns-then-name-lt202 c = get_or-map length spellings c.args.name []
