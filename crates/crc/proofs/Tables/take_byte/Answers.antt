use Rattle.crc.proofs.Bytes.{took}
use Rattle.crc.proofs.Tables.take_byte.Goals as goal

pub returns : goal.returns
returns c = took c.args.r c.args.byte c.args.self.now.by_eight c.ranges.r.fits c.ranges.byte.fits
