use Rattle.crc.proofs.Bytes.{took-two}
use Rattle.crc.proofs.Tables.take_two.Goals as goal

pub returns : goal.returns
returns c = took-two c.args.r c.args.first c.args.second c.args.self.now.by_eight c.args.self.now.by_sixteen c.ranges.r.fits c.ranges.first.fits c.ranges.second.fits
