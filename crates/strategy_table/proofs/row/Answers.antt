use Rattle.std.proofs.Common.{◌≡◌, ◌∙◌, ap, sym, add-one, arith}
use Rattle.print.proofs.Adds.{◌then◌, meant, nothing, room}
use Rattle.strategy_table.specs.Table.{cell_of, full_of}
use Rattle.strategy_table.proofs.row.Goals as goal

pub loop-ch-init : goal.loop-ch-init
unfolding full_of
loop-ch-init g c = nothing _ _ (room c.put.ensures)

pub loop-ch-preserved : goal.loop-ch-preserved
unfolding full_of
loop-ch-preserved g c =
    meant (sym (ap (full_of c.args.r.now c.args.count c.args.block) (add-one c.loop-ch.ch)))
    (c.loop-ch.invariant then meant (c.cell-in-loop-ch.ensures ∙ ap cell_of c.channel.ensures) c.put-in-loop-ch.ensures)

pub returns : goal.returns
returns g c =
    let all : c.loop-ch.ch ≡ c.args.nfchans = omega arith in
    c.right.ensures then meant (c.cell.ensures ∙ ap cell_of c.coupling.ensures) c.put.ensures
    then meant (ap (full_of c.args.r.now c.args.count c.args.block) all) c.loop-ch.invariant
    then meant (c.cell-2.ensures ∙ ap cell_of c.lfe.ensures) c.put-2.ensures then c.put-3.ensures
