-- By the callees.
use Rattle.gain_c.proofs.Laying.{numbers-are}
use Rattle.gain_c.proofs.tell.Goals as goal

pub returns : goal.returns
returns c = (c.number_of-number.ensures, numbers-are c.args.out.now c.args.a c.args.g c.number_of-number.ensures c.place_of.ensures c.count_of.ensures c.lay_first.ensures c.lay_sent.ensures c.lay_sent-2.ensures c.lay_sent-3.ensures c.lay_sent-4.ensures)
