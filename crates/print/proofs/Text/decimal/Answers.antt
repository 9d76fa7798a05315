-- The digits of the library are those of the definition.
use Rattle.std.proofs.Common.{arith}
use Rattle.print.proofs.Adds.{meant}
use Rattle.print.proofs.Decimals.{library}
use Rattle.print.proofs.Text.decimal.Goals as goal

pub returns : goal.returns
returns g c =
    let told = c.decimal-k.ensures in
    meant (library _ c.args.n c.decimal-k.result (omega arith) told.len told.digits) c.put.ensures
