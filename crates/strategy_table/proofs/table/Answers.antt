use Rattle.std.proofs.Common.{◌≡◌, ◌∙◌, ap, sym, add-one, arith}
use Rattle.print.proofs.Adds.{◌then◌, meant, nothing, room}
use Rattle.strategy_table.specs.Table.{rows_of}
use Rattle.strategy_table.proofs.TableLaws.{as-table}
use Rattle.strategy_table.proofs.table.Goals as goal

pub loop-block-init : goal.loop-block-init
unfolding rows_of
loop-block-init g c = nothing _ _ (room c.put.ensures)

pub loop-block-preserved : goal.loop-block-preserved
unfolding rows_of
loop-block-preserved g c =
    meant (sym (ap (rows_of c.args.r.now c.count_of-count.result c.full_channels-nfchans.result) (add-one c.loop-block.block)))
    (c.loop-block.invariant then c.row.ensures)

pub returns : goal.returns
returns g c =
    let all : c.loop-block.block ≡ c.blocks-block-end.result = omega arith in
    meant
    (as-table c.args.r.now c.count_of-count.ensures c.element-acmod.ensures c.element.ensures c.full_channels-nfchans.ensures.0
    (all ∙ c.blocks-block-end.ensures.0))
    (c.heading.ensures then c.put.ensures then c.loop-block.invariant)
