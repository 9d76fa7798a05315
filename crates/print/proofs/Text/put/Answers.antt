-- The part that finds room stands behind the text.
use Rattle.std.proofs.Common.{◌-◌, ◌+◌}
use Rattle.print.proofs.Adds.{behind}
use Rattle.print.proofs.Text.put.Goals as goal

pub returns : goal.returns
returns g c =
    let t = c.self.inside in
    rw (← c.self.view_is) (behind g.row.N t.len c.min-n.result (t.len + c.min-n.result - t.len) t.bytes c.copy_from_slice.new.self c.args.bytes.now c.self.told c.self.invariant c.min-n.ensures c.copy_from_slice.ensures.after)
