use Prim.Native.Nat.{◌+◌, ◌-◌, ◌*◌}
use mathlib.Core.Path.{sym, ap, ◌∙◌}
use mathlib.Core.List.{[]}
use native.Mathlib.Omega.{arith}
use lib.ListN.{take, drop, get_or-eq_default}
use Rattle.names.specs.Spelling.{spellings, padded}
use Rattle.names.proofs.Rows.{count, row_is}
use Rattle.names.proofs.spelling.Goals as goal

pub returns-then-name-lt202 : goal.returns-then-name-lt202
returns-then-name-lt202 c =
    let n = c.args.name in
    c.copy_from_slice.ensures.after ∙ ap (λ t. take (16 * n + 16 - 16 * n) (drop (16 * n) t)) c.requires ∙ row_is n c.if-name-lt202.true

pub returns-else-name-lt202 : goal.returns-else-name-lt202
unfolding padded
returns-else-name-lt202 c = ap (padded 16) (sym (get_or-eq_default spellings [] {n = c.args.name} (rw count (omega arith))))
