-- There is room for it.
use Rattle.std.proofs.Common.{sym, ap}
use Rattle.print.proofs.Adds.{meant, whole}
use Rattle.strategy_table.specs.Table.{text_by}
use Rattle.strategy_table.proofs.Lengths.{text-short}
use Rattle.strategy_table.proofs.text_of.Goals as goal

pub returns-in-Accepted : goal.returns-in-Accepted
unfolding text_by
returns-in-Accepted c = whole c.new-out.ensures (meant (sym (ap (text_by c.args.r) c.in-Accepted.is)) c.table.ensures) (text-short c.args.r)

pub returns-in-Refused : goal.returns-in-Refused
unfolding text_by
returns-in-Refused c = whole c.new-out.ensures (meant (sym (ap (text_by c.args.r) c.in-Refused.is)) c.first_line.ensures) (text-short c.args.r)
