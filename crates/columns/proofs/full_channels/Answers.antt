-- By the table.
use mathlib.Core.Path.{ap, sym, subst}
use Prim.Native.Nat.{◌%◌, ◌≤◌}
use lib.ListN.{get_or}
use Rattle.columns.proofs.Laws.{few-channels}
use Rattle.columns.proofs.full_channels.Goals as goal

pub returns : goal.returns
returns c =
    let e = ap (λ t. get_or t (c.args.acmod % 8) 0) c.nfchans-table.ensures in
    (e, subst (λ n. n ≤ 5) (sym e) (few-channels (c.args.acmod % 8)))
