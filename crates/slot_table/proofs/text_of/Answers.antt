-- There is room for it.
use Rattle.std.proofs.Common.{sym, ap}
use Rattle.print.proofs.Adds.{meant, whole}
use Rattle.slot_table.specs.SlotTable.{text_by}
use Rattle.slot_table.proofs.Lengths.{text-short}
use Rattle.slot_table.proofs.text_of.Goals as goal

pub returns-in-Accepted : goal.returns-in-Accepted
unfolding text_by
returns-in-Accepted c = whole c.new-out.ensures (meant (sym (ap (λ v. text_by v c.args.a) c.in-Accepted.is)) c.table.ensures) (text-short c.args.a)

pub returns-in-Refused : goal.returns-in-Refused
unfolding text_by
returns-in-Refused c = whole c.new-out.ensures (meant (sym (ap (λ v. text_by v c.args.a) c.in-Refused.is)) c.first_line.ensures) (text-short c.args.a)
