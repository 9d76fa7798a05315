use Rattle.std.proofs.Common.{◌≡◌, ap, sym, add-one, arith}
use Rattle.print.proofs.Adds.{◌then◌, meant, nothing, room}
use Rattle.slot_table.specs.SlotTable.{full_of, line_of}
use Rattle.slot_table.proofs.line.Goals as goal

pub loop-ch-init : goal.loop-ch-init
unfolding full_of
loop-ch-init g c = nothing _ _ (room c.cell.ensures)

pub loop-ch-preserved : goal.loop-ch-preserved
unfolding full_of
loop-ch-preserved g c = meant (sym (ap (full_of c.args.frame c.args.x.now) (add-one c.loop-ch.ch))) (c.loop-ch.invariant then c.cell-in-loop-ch.ensures)

pub returns : goal.returns
unfolding line_of
returns g c =
    let all : c.loop-ch.ch ≡ c.args.nfchans = omega arith in
    c.cell.ensures then meant (ap (full_of c.args.frame c.args.x.now) all) c.loop-ch.invariant then c.cell-2.ensures then c.cell-3.ensures then c.put.ensures
