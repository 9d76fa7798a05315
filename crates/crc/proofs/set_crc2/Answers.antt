use mathlib.Core.Path.{◌∙◌}
use native.Mathlib.Omega.{arith}
use Rattle.crc.proofs.Frame.{found, written, put-in}
use Rattle.crc.proofs.set_crc2.Goals as goal

pub returns : goal.returns
returns c =
    let s = c.args.frame.now in
    let n = c.args.bytes.0 in
    let six = c.requires.0 in
    (found s n six c.remainder-r.ensures, put-in s n c.remainder-r.result (omega arith) c.requires.1 c.remainder-r.type_inv (c.copy_from_slice.ensures.after ∙ c.to_be_bytes.ensures) ∙ written s n six c.remainder-r.ensures)
